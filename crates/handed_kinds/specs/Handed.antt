-- Tessellations whose joins may show the tile across with the other hand: kinds of tile, the types
-- of their sides, and the moves from type to type.
use Rattle.std.specs.Prelude.{ℕ, zero, suc, ◌+◌, ◌-◌, ◌%◌, ◌<◌, List, [], length, slice_index_or, Bool, true, false, nat_lt, ◌&&◌, if◌then◌else◌}

-- A kind of tile: its number of sides, its repeat (sides whose numbers are equal modulo the repeat
-- are alike), and for each residue below the repeat the partner of that side, with a mark that is
-- true where the tile across is seen with the other hand, and the valence of the corner at its left
-- end.
pub record HandedKind : Type 0 where
  pub sides : ℕ
  pub repeat : ℕ
  pub partner : List (ℕ × ℕ × Bool)
  pub valence : List ℕ

-- what stands for a kind that is not there
abbrev pub no_handed : HandedKind
no_handed = record { sides = 0; repeat = 0; partner = []; valence = [] }

abbrev pub handed_at : List HandedKind → ℕ → HandedKind
handed_at hs k = slice_index_or hs k no_handed

-- A side of the file is a kind and a residue below its repeat.
abbrev pub IsSide : List HandedKind → ℕ × ℕ → Type 0
IsSide hs d = (d.0 < length hs) × (d.1 < (handed_at hs d.0).repeat)

-- whether a pair is a side, as a test
abbrev pub is_side : List HandedKind → ℕ × ℕ → Bool
is_side hs d = nat_lt d.0 (length hs) && nat_lt d.1 (handed_at hs d.0).repeat

-- the partner of a side, and the mark of their join
abbrev pub partner_at : List HandedKind → ℕ × ℕ → ℕ × ℕ × Bool
partner_at hs d = slice_index_or (handed_at hs d.0).partner d.1 (0, 0, false)

-- the valence that the file gives to the corner at the left end of a side
abbrev pub valence_at : List HandedKind → ℕ × ℕ → ℕ
valence_at hs d = slice_index_or (handed_at hs d.0).valence d.1 0

-- A handed type is a side and a hand, which is true where the tile is seen mirrored.
abbrev pub IsHandedType : List HandedKind → ℕ × ℕ × Bool → Type 0
IsHandedType hs t = IsSide hs (t.0, t.1)

-- the residue of the next side, and of the side before, counted modulo the repeat
abbrev pub next_residue : ℕ → ℕ → ℕ
next_residue p s = (s + 1) % p

abbrev pub last_residue : ℕ → ℕ → ℕ
last_residue p s = (s + (p - 1)) % p

-- the hand that is seen across a join: the same where it is plain, the other where it is mirrored
abbrev pub hand_across : Bool → Bool → Bool
hand_across false hand = hand
hand_across true false = true
hand_across true true = false

-- The next side to the left: a mirrored tile has its sides in the reverse order. A triple that is
-- no type is left alone.
abbrev pub left : List HandedKind → ℕ × ℕ × Bool → ℕ × ℕ × Bool
left hs t =
    if is_side hs (t.0, t.1)
    then (
      t.0,
      if t.2 then last_residue (handed_at hs t.0).repeat t.1
          else next_residue (handed_at hs t.0).repeat t.1,
      t.2,
    )
    else t

-- the next side to the right; a triple that is no type is left alone
abbrev pub right : List HandedKind → ℕ × ℕ × Bool → ℕ × ℕ × Bool
right hs t =
    if is_side hs (t.0, t.1)
    then (
      t.0,
      if t.2 then next_residue (handed_at hs t.0).repeat t.1
          else last_residue (handed_at hs t.0).repeat t.1,
      t.2,
    )
    else t

-- the side at the other side of the edge, with the hand that is seen there; a triple that is no
-- type is left alone
abbrev pub cross : List HandedKind → ℕ × ℕ × Bool → ℕ × ℕ × Bool
cross hs t =
    if is_side hs (t.0, t.1)
    then (
      (partner_at hs (t.0, t.1)).0,
      (partner_at hs (t.0, t.1)).1,
      hand_across (partner_at hs (t.0, t.1)).2 t.2,
    )
    else t

-- the number of sides of a tile of this type
abbrev pub sides : List HandedKind → ℕ × ℕ × Bool → ℕ
sides hs t = (handed_at hs t.0).sides

-- The number of tiles round the corner at the left end of the faced side. The left end of a
-- mirrored side is the right end in the file, which is the left end of the side before.
abbrev pub valence : List HandedKind → ℕ × ℕ × Bool → ℕ
valence hs t =
    valence_at hs (t.0, if t.2 then last_residue (handed_at hs t.0).repeat t.1 else t.1)

-- one tile further round the corner at the left end
abbrev pub around : List HandedKind → ℕ × ℕ × Bool → ℕ × ℕ × Bool
around hs t = cross hs (left hs t)

-- `around`, n times
abbrev pub around_times : List HandedKind → ℕ → ℕ × ℕ × Bool → ℕ × ℕ × Bool
around_times hs zero t = t
around_times hs (suc n) t = around hs (around_times hs n t)
