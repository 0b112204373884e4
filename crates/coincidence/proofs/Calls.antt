-- A call of `join`: both darts are named, and what the table does with their names.
use Rattle.std.proofs.Common.{◌≡◌, ℕ, suc, ◌%◌, ◌<◌, ◌≤◌, cond, nat_eq, List, [], ◌∷◌, length, slice_index_or, Some, sym, ap, ◌∙◌, subst, inl, inr, arith, mod-lt}
use Rattle.std.proofs.lemmas.List.Sums.{sum_by-cons, sum_by-le}
use Rattle.tile_model.specs.declared.Letter.TheVariants.{X}
use Rattle.coincidence.specs.declared.table.Cell.{Cell}
use Rattle.coincidence.specs.declared.table.Table.{Table}
use Rattle.coincidence.specs.Darts.{pack, unpack}
use Rattle.coincidence.specs.Cells.{turn_at, IsLive, live_count, name}
use Rattle.coincidence.specs.Atlases.{Atlas, LieAcross, IsSound}
use Rattle.coincidence.specs.Followed.{AreNamed, IsFollowed, IsSettled}
use Rattle.coincidence.specs.Pending.{IsShaped, IsQuiet}
use Rattle.coincidence.specs.Tables.{joined_in}
use Rattle.coincidence.proofs.Numbers.{zero_or_more, not_zero}
use Rattle.coincidence.proofs.Names.{name_live}
use Rattle.coincidence.proofs.Settled.{unpack_pack}
use Rattle.coincidence.proofs.Merges.{name_sound}
use Rattle.coincidence.proofs.Kept.{named_joined}
use Rattle.coincidence.proofs.Periods.{one_back, one_on, one_behind}

-- the packed name of a dart of a live cell
pub side_name : (t : Table) (cell side turn n : ℕ) → IsShaped t → IsLive t.cells.items cell → turn ≡ turn_at t.cells.items cell → n ≡ pack (cell, side % turn) → unpack n ≡ name t.cells.items (cell, side)
side_name t cell side turn n shaped live turn_is is =
    let below = mod-lt side live in
    let narrow = shaped.turns cell in
    ap unpack (is ∙ ap (λ m. pack (cell, side % m)) turn_is) ∙ (unpack_pack (cell, side % turn_at t.cells.items cell) (omega (arith, below, narrow)) ∙ sym (name_live t.cells.items shaped.ordered cell side live))

pub side_settled : (t : Table) (cell side turn n : ℕ) → IsShaped t → IsLive t.cells.items cell → turn ≡ turn_at t.cells.items cell → n ≡ pack (cell, side % turn) → IsSettled t.cells.items n
side_settled t cell side turn n shaped live turn_is is =
    let e : unpack n ≡ (cell, side % turn_at t.cells.items cell) = side_name t cell side turn n shaped live turn_is is ∙ name_live t.cells.items shaped.ordered cell side live in
    subst (λ d. d.1 < turn_at t.cells.items d.0) (sym e) (mod-lt side live)

-- darts that lie across do so under their names
pub across_named : (atlas : Atlas) (t : Table) (a b : ℕ × ℕ) (x y : ℕ) → IsShaped t → IsSound atlas t.cells.items t.slots.items → unpack x ≡ name t.cells.items a → unpack y ≡ name t.cells.items b → LieAcross atlas a b → LieAcross atlas (unpack x) (unpack y)
across_named atlas t a b x y shaped sound x_is y_is across =
    let here = name_sound atlas t.cells.items t.slots.items shaped.ordered sound a.0 a.1 in
    let there = name_sound atlas t.cells.items t.slots.items shaped.ordered sound b.0 b.1 in
    let named : LieAcross atlas (name t.cells.items a) (name t.cells.items b) = one_on atlas (one_back atlas (one_behind atlas (X ∷ []) here)) (one_on atlas across there) in
    subst (λ d. LieAcross atlas d (unpack y)) (sym x_is) (subst (LieAcross atlas (name t.cells.items a)) (sym y_is) named)

-- the join that was asked for stands afterwards
pub asked_joined : (t t' : Table) (a b : ℕ × ℕ) (x y : ℕ) → IsShaped t' → IsQuiet t'.cells.items t'.slots.items → IsFollowed t.cells.items t.slots.items t'.cells.items t'.slots.items → unpack x ≡ name t.cells.items a → unpack y ≡ name t.cells.items b → AreNamed t'.cells.items t'.slots.items (name t'.cells.items (unpack x)) (name t'.cells.items (unpack y)) → joined_in t'.cells.items t'.slots.items (name t'.cells.items a) ≡ Some (name t'.cells.items b)
asked_joined t t' a b x y shaped quiet followed x_is y_is named =
    let first : name t'.cells.items (unpack x) ≡ name t'.cells.items a = ap (name t'.cells.items) x_is ∙ followed.names a in
    let second : name t'.cells.items (unpack y) ≡ name t'.cells.items b = ap (name t'.cells.items) y_is ∙ followed.names b in
    named_joined t' shaped quiet (name t'.cells.items a) (name t'.cells.items b) (record { at = named.at; taken = named.taken; here = named.here ∙ first; across = named.across ∙ second })

-- where no cell comes to life, no more are live
abbrev live_weight : Cell → ℕ
live_weight x = cond (nat_eq x.turn 0) 0 1

abbrev one_unless : ℕ → ℕ
one_unless n = cond (nat_eq n 0) 0 1

one_at_most : (n : ℕ) → one_unless n ≤ 1
one_at_most n = elim (zero_or_more n) [
  | inl e ↦ omega (arith, ap one_unless e)
  | inr more ↦ let one : one_unless n ≡ 1 = ap (λ b. cond b 0 1) (not_zero n more) in omega (arith, one)
]

live_less : (x y : Cell) → (0 < y.turn → 0 < x.turn) → live_weight y ≤ live_weight x
live_less x y on = elim (zero_or_more y.turn) [
  | inl e ↦ omega (arith, ap one_unless e)
  | inr more ↦
      let one : live_weight x ≡ 1 = ap (λ b. cond b 0 1) (not_zero x.turn (on more)) in
      omega (arith, one, one_at_most y.turn)
]

fewer : (xs ys : List Cell) → length ys ≡ length xs → ((c : ℕ) → IsLive ys c → IsLive xs c) → live_count ys ≤ live_count xs
fewer [] [] long on = omega arith
fewer [] (y ∷ ys) long on = absurd (omega (arith, long))
fewer (x ∷ xs) [] long on = absurd (omega (arith, long))
fewer (x ∷ xs) (y ∷ ys) long on =
    let rest = fewer xs ys (omega (arith, long)) (λ c live. on (suc c) live) in
    let here = live_less x y (on 0) in
    omega (arith, sum_by-cons live_weight x xs, sum_by-cons live_weight y ys, rest, here)

pub live_fewer : (t t' : Table) → IsShaped t → IsShaped t' → IsFollowed t.cells.items t.slots.items t'.cells.items t'.slots.items → t'.live ≤ t.live
live_fewer t t' shaped shaped' followed =
    let less = fewer t.cells.items t'.cells.items followed.count (λ c live. (followed.turns c live).was_live) in
    omega (arith, shaped.live, shaped'.live, less)

-- no more cells are live than there are
pub live_at_most : (t : Table) → IsShaped t → t.live ≤ length t.cells.items
live_at_most t shaped = omega (arith, shaped.live, sum_by-le live_weight 1 t.cells.items (λ k d made. one_at_most (slice_index_or t.cells.items k d).turn))
