-- Two darts of live cells that are made one.
use Rattle.std.proofs.Common.{◌≡◌, ℕ, ◌+◌, ◌-◌, ◌/◌, ◌%◌, ◌<◌, ◌≤◌, List, length, sym, ap, ap₂, ◌∙◌, subst, inl, inr, arith, get_or-set_same, get_or-set_other}
use Rattle.std.proofs.lemmas.Bool.{cases_lt}
use Rattle.std.proofs.Math.ListN.{set}
use Rattle.std.proofs.Math.Nat.{add-mod-mod}
use Rattle.coincidence.specs.declared.table.Cell.{Cell}
use Rattle.coincidence.specs.declared.table.Table.{Table}
use Rattle.coincidence.specs.Darts.{pack, unpack, slot_at, IsTaken}
use Rattle.coincidence.specs.Cells.{no_cell, cell_at, turn_at, into_at, shift_at, IsLive, IsOrdered, name}
use Rattle.coincidence.specs.Atlases.{Atlas, AreOne, walk_of, HasPeriod, LieAcross, IsSound}
use Rattle.coincidence.specs.Pending.{IsShaped, written_cell}
use Rattle.coincidence.proofs.Names.{name_renamed, name_live, by_names}
use Rattle.coincidence.proofs.Periods.{one_equal, one_back, one_on, one_turned, at_zero, period_mod, period_between}
use Rattle.coincidence.proofs.Settled.{unpack_name}

-- numbers that differ by a multiple have one rest
mod_more : (i d g : ℕ) → d % g ≡ 0 → (i + d) % g ≡ i % g
mod_more i d g e = sym (add-mod-mod i d g) ∙ (ap (λ r. (i + r) % g) e ∙ ap (λ n. n % g) (omega arith))

mod_apart : (i j g : ℕ) → ((i - j) + (j - i)) % g ≡ 0 → i % g ≡ j % g
mod_apart i j g e = elim (cases_lt i j) [
  | inl less ↦
      let d : j ≡ i + ((i - j) + (j - i)) = omega (arith, less) in
      sym (ap (λ n. n % g) d ∙ mod_more i ((i - j) + (j - i)) g e)
  | inr more ↦
      let d : i ≡ j + ((i - j) + (j - i)) = omega (arith, more) in
      ap (λ n. n % g) d ∙ mod_more j ((i - j) + (j - i)) g e
]

pub folded_together : (cells : List Cell) (c i j by : ℕ) → IsOrdered cells → IsLive cells c → by ≡ (i - j) + (j - i) → by % turn_at cells c ≡ 0 → name cells (c, i) ≡ name cells (c, j)
folded_together cells c i j by ordered live is divides =
    let same = mod_apart i j (turn_at cells c) (ap (λ n. n % turn_at cells c) (sym is) ∙ divides) in
    name_live cells ordered c i live ∙ (ap (λ s. (c, s)) same ∙ sym (name_live cells ordered c j live))

pub period_apart : (atlas : Atlas) (c t i j : ℕ) → i ≤ t → j ≤ t → HasPeriod atlas c t → AreOne atlas (walk_of atlas (c, i)) (walk_of atlas (c, j)) → HasPeriod atlas c ((i - j) + (j - i))
period_apart atlas c t i j le le' period same = elim (cases_lt i j) [
  | inl less ↦
      let d : j - i ≡ (i - j) + (j - i) = omega (arith, less) in
      subst (HasPeriod atlas c) d (period_between atlas c t i j le (omega (arith, less)) period same)
  | inr more ↦
      let d : i - j ≡ (i - j) + (j - i) = omega (arith, more) in
      subst (HasPeriod atlas c) d (period_between atlas c t j i le' more period (one_back atlas same))
]

shifted : (i j t g : ℕ) → i ≤ t → t % g ≡ 0 → (i + (j + (t - i)) % g) % g ≡ j % g
shifted i j t g le divides =
    let e : i + (j + (t - i)) ≡ j + t = omega (arith, le) in
    add-mod-mod i (j + (t - i)) g ∙ (ap (λ n. n % g) e ∙ mod_more j t g divides)

-- side i of the renamed cell has the name of side j of the earlier one
pub renamed_together : (cells cells' : List Cell) (c i e j t shift head : ℕ) → c < length cells → e < c → IsOrdered cells' → cells' ≡ set cells c (written_cell (cell_at cells c) 0 e shift head) → IsLive cells e → t % turn_at cells e ≡ 0 → i ≤ t → shift ≡ (j + (t - i)) % turn_at cells e → name cells' (c, i) ≡ name cells' (e, j)
renamed_together cells cells' c i e j t shift head made before ordered is live divides le shift_is =
    let x = written_cell (cell_at cells c) 0 e shift head in
    let here : cell_at cells' c ≡ x = ap (λ xs. cell_at xs c) is ∙ get_or-set_same cells c x no_cell made in
    let away : ¬ (e ≡ c) = λ same. omega (arith, same, before) in
    let there : turn_at cells' e ≡ turn_at cells e = ap (λ xs. turn_at xs e) is ∙ ap (λ (y : Cell). y.turn) (get_or-set_other cells c e x no_cell away) in
    let live' : IsLive cells' e = subst (λ n. 0 < n) (sym there) live in
    let gone = ap (λ (y : Cell). y.turn) here in
    let to = ap₂ (λ a b. name cells' (a, i + b)) (ap (λ (y : Cell). y.into) here) (ap (λ (y : Cell). y.shift) here) in
    let sides : (i + shift) % turn_at cells' e ≡ j % turn_at cells' e = ap₂ (λ s g. (i + s) % g) shift_is there ∙ (shifted i j t (turn_at cells e) le divides ∙ ap (λ g. j % g) (sym there)) in
    name_renamed cells' ordered c i gone ∙ (to ∙ (name_live cells' ordered e (i + shift) live' ∙ (ap (λ s. (e, s)) sides ∙ sym (name_live cells' ordered e j live'))))

-- the walk of a dart is related to that of its name
pub name_sound : (atlas : Atlas) (cells : List Cell) (slots : List ℕ) → IsOrdered cells → IsSound atlas cells slots → (c i : ℕ) → AreOne atlas (walk_of atlas (c, i)) (walk_of atlas (name cells (c, i)))
name_sound atlas cells slots ordered sound =
    by_names cells ordered (λ c i. AreOne atlas (walk_of atlas (c, i)) (walk_of atlas (name cells (c, i))))
    (λ c i live. subst (λ d. AreOne atlas (walk_of atlas (c, i)) (walk_of atlas d)) (sym (name_live cells ordered c i live)) (period_mod atlas c (turn_at cells c) i (sound.turned c live)))
    (λ c i gone rest.
    let e = into_at cells c in
    let s = shift_at cells c in
    let first : AreOne atlas (walk_of atlas (c, 0)) (walk_of atlas (e, s)) = one_on atlas (one_equal atlas (at_zero atlas c)) (sound.renamed c gone) in
    let left : 0 + i ≡ i = omega arith in
    let right : s + i ≡ i + s = omega arith in
    let on : AreOne atlas (walk_of atlas (c, i)) (walk_of atlas (e, i + s)) = subst (λ k. AreOne atlas (walk_of atlas (c, k)) (walk_of atlas (e, i + s))) left (subst (λ k. AreOne atlas (walk_of atlas (c, 0 + i)) (walk_of atlas (e, k))) right (one_turned atlas c 0 e s i first)) in
    subst (λ d. AreOne atlas (walk_of atlas (c, i)) (walk_of atlas d)) (sym (name_renamed cells ordered c i gone)) (one_on atlas on rest))

-- the dart in a slot, named, is where the slot's dart crosses to
pub across_name : (atlas : Atlas) (t : Table) (n x y : ℕ) → IsShaped t → IsSound atlas t.cells.items t.slots.items → IsTaken t.slots.items n → x ≡ pack (name t.cells.items (unpack (slot_at t.slots.items n))) → LieAcross atlas (unpack n) (unpack y) → AreOne atlas (walk_of atlas (unpack x)) (walk_of atlas (unpack y))
across_name atlas t n x y shaped sound taken is across =
    let e = slot_at t.slots.items n in
    let own : unpack x ≡ name t.cells.items (unpack e) = ap unpack is ∙ unpack_name t (e / 64) (e % 64) shaped in
    let named = name_sound atlas t.cells.items t.slots.items shaped.ordered sound (e / 64) (e % 64) in
    subst (λ d. AreOne atlas (walk_of atlas d) (walk_of atlas (unpack y))) (sym own) (one_on atlas (one_back atlas named) (one_on atlas (one_back atlas (sound.joined n taken)) across))
