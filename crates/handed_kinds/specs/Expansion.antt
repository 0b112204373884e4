-- The expansion of handed kinds: twice as many plain kinds, of which kind 2k is kind k as it is
-- seen plain, and kind 2k + 1 as it is seen mirrored.
use Rattle.std.specs.Prelude.{ℕ, ◌+◌, ◌-◌, ◌*◌, ◌/◌, ◌%◌, ◌==◌, List, length, map, Bool, true, false, nat_lt, ◌&&◌, if◌then◌else◌}
use Rattle.std.specs.List.{range_with_len}
use Rattle.tile_model.specs.Tessellations.{TileKind}
use Rattle.handed_kinds.specs.Handed.{HandedKind, handed_at, cross, valence}

-- the residue minus s modulo the repeat p; what is no residue is left alone
abbrev pub opposite : ℕ → ℕ → ℕ
opposite p s = if nat_lt 0 s && nat_lt s p then p - s else s

-- the residue by which a hand counts residue s of the file, and back
abbrev pub turned : ℕ → Bool → ℕ → ℕ
turned p false s = s
turned p true s = opposite p s

-- the number in the expansion of kind k, as it is seen with a hand
abbrev pub number : ℕ → Bool → ℕ
number k false = 2 * k
number k true = 2 * k + 1

-- the type of the expansion that a handed type is
abbrev pub flat : List HandedKind → ℕ × ℕ × Bool → ℕ × ℕ
flat hs t = (number t.0 t.2, turned (handed_at hs t.0).repeat t.2 t.1)

-- the handed type whose residue in the expansion is j
abbrev pub as_seen : List HandedKind → ℕ → Bool → ℕ → ℕ × ℕ × Bool
as_seen hs k hand j = (k, turned (handed_at hs k).repeat hand j, hand)

-- kind k as it is seen with a hand
abbrev pub seen : List HandedKind → ℕ → Bool → TileKind
seen hs k hand =
    record {
      sides = (handed_at hs k).sides;
      repeat = (handed_at hs k).repeat;
      partner =
          map (λ j. flat hs (cross hs (as_seen hs k hand j)))
          (range_with_len 0 (length (handed_at hs k).partner));
      valence =
          map (λ j. valence hs (as_seen hs k hand j))
          (range_with_len 0 (length (handed_at hs k).valence));
    }

-- the expansion
abbrev pub expanded : List HandedKind → List TileKind
expanded hs = map (λ n. seen hs (n / 2) (n % 2 == 1)) (range_with_len 0 (2 * length hs))
