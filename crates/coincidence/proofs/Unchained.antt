-- The first cell is taken from the chain: no other number changes.
use Rattle.std.proofs.Common.{◌≡◌, ℕ, ◌*◌, ◌/◌, ◌%◌, ◌<◌, Bool, cond, nat_eq, List, length, refl, sym, ap, ap₂, ◌∙◌, subst, inl, inr, arith, get_or-set_same, get_or-set_other}
use Rattle.std.proofs.lemmas.List.{length-set}
use Rattle.std.proofs.lemmas.List.Sums.{sum_by-set}
use Rattle.std.proofs.lemmas.Bool.{cases_eq, ne_eqb}
use Rattle.std.proofs.Math.ListN.{set}
use Rattle.std.proofs.Math.Nat.{mod_self, mod-mod}
use Rattle.coincidence.specs.declared.table.Cell.{Cell}
use Rattle.coincidence.specs.declared.table.Table.{Table}
use Rattle.coincidence.specs.Darts.{nowhere, slot_at, IsTaken}
use Rattle.coincidence.specs.Cells.{no_cell, cell_at, turn_at, into_at, shift_at, IsLive, IsOrdered, live_count, name}
use Rattle.coincidence.specs.Atlases.{Atlas, AreOne, walk_of, HasPeriod, LieAcross, IsSound}
use Rattle.coincidence.specs.Followed.{AreNamed, IsFollowed}
use Rattle.coincidence.specs.Pending.{last_link, next_at, HasChain, AreCovered, IsShaped, weight, work, HasUnchained}
use Rattle.coincidence.proofs.Names.{name_live, Respects, names_compose}
use Rattle.coincidence.proofs.Falls.{kept_names}
use Rattle.coincidence.proofs.Chains.{chain_taken, chain_head}

abbrev live_weight : Cell → ℕ
live_weight x = cond (nat_eq x.turn 0) 0 1

abbrev link_weight : Bool → ℕ
link_weight b = cond b 0 1

module _ (t t' : Table) (shaped : IsShaped t) (some : ¬ (t.head ≡ last_link)) (x : Cell)
    (was : x ≡ cell_at t.cells.items t.head)
    (is : t'.cells.items ≡ set t.cells.items t.head (record { turn = x.turn; shift = x.shift; into = x.into; next = nowhere }))
    (head_is : t'.head ≡ x.next) (live_is : t'.live ≡ t.live) (slots_are : t'.slots ≡ t.slots) where
  abbrev cells : List Cell
  cells = t.cells.items

  abbrev cells' : List Cell
  cells' = t'.cells.items

  abbrev new_cell : Cell
  new_cell = record { turn = x.turn; shift = x.shift; into = x.into; next = nowhere }

  head_made : t.head < length cells
  head_made = (chain_head cells t.head some shaped.chain).0

  here : cell_at cells' t.head ≡ new_cell
  here = ap (λ xs. cell_at xs t.head) is ∙ get_or-set_same cells t.head new_cell no_cell head_made

  other : (y : ℕ) → ¬ (y ≡ t.head) → cell_at cells' y ≡ cell_at cells y
  other y away = ap (λ xs. cell_at xs y) is ∙ get_or-set_other cells t.head y new_cell no_cell away

  long : length cells' ≡ length cells
  long = ap (λ (xs : List Cell). length xs) is ∙ length-set cells t.head new_cell

  slots_same : t'.slots.items ≡ t.slots.items
  slots_same = ap (λ v. v.items) slots_are

  -- a part of the cells that the chain is not
  part : (f : Cell → ℕ) → f new_cell ≡ f x → (y : ℕ) → f (cell_at cells' y) ≡ f (cell_at cells y)
  part f same y = elim (cases_eq y t.head) [
    | inl e ↦ ap (λ c. f (cell_at cells' c)) e ∙ (ap f here ∙ (same ∙ (ap f was ∙ ap (λ c. f (cell_at cells c)) (sym e))))
    | inr away ↦ ap f (other y away)
  ]

  turns_same : (y : ℕ) → turn_at cells' y ≡ turn_at cells y
  turns_same = part (λ c. c.turn) refl

  intos_same : (y : ℕ) → into_at cells' y ≡ into_at cells y
  intos_same = part (λ c. c.into) refl

  shifts_same : (y : ℕ) → shift_at cells' y ≡ shift_at cells y
  shifts_same = part (λ c. c.shift) refl

  next_other : (y : ℕ) → ¬ (y ≡ t.head) → next_at cells' y ≡ next_at cells y
  next_other y away = ap (λ (c : Cell). c.next) (other y away)

  ordered' : IsOrdered cells'
  ordered' y gone = let before = shaped.ordered y (sym (turns_same y) ∙ gone) in omega (arith, intos_same y, before)

  taken_followed : IsFollowed t.cells.items t.slots.items t'.cells.items t'.slots.items
  taken_followed =
      let respects : Respects cells cells' = record {
        gone = λ y gone. turns_same y ∙ gone;
        into = λ y gone. intos_same y;
        shift = λ y gone. shifts_same y;
        sides = λ y i live.
            let live' : IsLive cells' y = subst (λ n. 0 < n) (sym (turns_same y)) live in
            name_live cells' ordered' y (i % turn_at cells y) live' ∙ (ap (λ n. (y, i % turn_at cells y % n)) (turns_same y) ∙ (ap (λ j. (y, j)) (mod-mod i (turn_at cells y)) ∙ (ap (λ n. (y, i % n)) (sym (turns_same y)) ∙ sym (name_live cells' ordered' y i live'))));
      } in
      let compose = names_compose cells cells' shaped.ordered ordered' respects in
      record {
        names = compose;
        kept = λ p q named. subst (λ slots. AreNamed cells' slots (name cells' p) (name cells' q)) (sym slots_same) (kept_names cells cells' t.slots.items compose p q named);
        turns = λ y live. record { was_live = subst (λ n. 0 < n) (turns_same y) live; divides = subst (λ n. turn_at cells y % n ≡ 0) (sym (turns_same y)) (mod_self (turn_at cells y)) };
        count = long;
      }

  taken_chain : HasChain cells' t'.head
  taken_chain = subst (HasChain cells') (sym (head_is ∙ ap (λ (c : Cell). c.next) was)) (chain_taken cells cells' t.head long (ap (λ (c : Cell). c.next) here) next_other some shaped.chain)

  taken_live : t'.live ≡ live_count cells'
  taken_live =
      let sums = sum_by-set live_weight cells t.head new_cell no_cell head_made in
      let same = ap live_weight was in
      omega (arith, sums, same, ap live_count is, shaped.live, live_is)

  taken_falls : work t'.cells.items < work t.cells.items
  taken_falls =
      let sums = sum_by-set weight cells t.head new_cell no_cell head_made in
      let chained = (chain_head cells t.head some shaped.chain).1 in
      let one = ap link_weight (ne_eqb (next_at cells t.head) nowhere chained) in
      let turn = ap (λ (c : Cell). c.turn) was in
      omega (arith, sums, one, turn, ap work is)

  taken_shaped : IsShaped t'
  taken_shaped = record {
    some = omega (arith, long, shaped.some);
    few = omega (arith, long, shaped.few);
    slots = ap (λ (xs : List ℕ). length xs) slots_same ∙ omega (arith, long, shaped.slots);
    turns = λ y. omega (arith, turns_same y, shaped.turns y);
    shifts = λ y. omega (arith, shifts_same y, shaped.shifts y);
    ordered = ordered';
    made = subst (λ slots. (n : ℕ) → IsTaken slots n → slot_at slots n < 64 * length cells') (sym slots_same) (λ n taken. omega (arith, long, shaped.made n taken));
    back = subst (λ slots. (n : ℕ) → IsTaken slots n → slot_at slots (slot_at slots n) ≡ n) (sym slots_same) shaped.back;
    live = taken_live;
    chain = taken_chain;
  }

  taken_covered : AreCovered t.cells.items t.slots.items 0 64 → AreCovered t'.cells.items t'.slots.items t.head 0
  taken_covered covered n pending =
      let same = turns_same (n / 64) in
      elim (covered n (record { taken = subst (λ slots. IsTaken slots n) slots_same pending.taken; past = omega (arith, same, pending.past) })) [
        | inl chained ↦ elim (cases_eq (n / 64) t.head) [
          | inl e ↦ inr (e, omega arith)
          | inr away ↦ inl (λ none. chained (sym (next_other (n / 64) away) ∙ none))
        ]
        | inr rest ↦ absurd (omega (arith, rest.1))
      ]

  taken_sound : (atlas : Atlas) → IsSound atlas t.cells.items t.slots.items → IsSound atlas t'.cells.items t'.slots.items
  taken_sound atlas sound = record {
    joined = subst (λ slots. (n : ℕ) → IsTaken slots n → LieAcross atlas (n / 64, n % 64) (slot_at slots n / 64, slot_at slots n % 64)) (sym slots_same) sound.joined;
    renamed = λ y gone. subst (λ d. AreOne atlas (atlas.walk_to y) (walk_of atlas d)) (sym (ap₂ (λ a b. (a, b)) (intos_same y) (shifts_same y))) (sound.renamed y (sym (turns_same y) ∙ gone));
    turned = λ y live. subst (HasPeriod atlas y) (sym (turns_same y)) (sound.turned y (subst (λ n. 0 < n) (turns_same y) live));
  }

  pub head_unchained : HasUnchained t t' t.head
  head_unchained = record { made = head_made; shaped = taken_shaped; followed = taken_followed; covered = taken_covered; falls = taken_falls; sound = taken_sound }
