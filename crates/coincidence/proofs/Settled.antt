-- Packed darts: those of live cells below their turn, and those whose slots are taken.
use Rattle.std.proofs.Common.{◌≡◌, ℕ, ◌+◌, ◌*◌, ◌/◌, ◌%◌, ◌<◌, List, length, refl, sym, ap, ap₂, ◌∙◌, subst, inl, inr, arith}
use Rattle.std.proofs.lemmas.List.{get_or_past}
use Rattle.std.proofs.lemmas.Bool.{cases_lt}
use Rattle.coincidence.specs.declared.table.Cell.{Cell}
use Rattle.coincidence.specs.declared.table.Table.{Table}
use Rattle.coincidence.specs.Darts.{nowhere, pack, unpack, slot_at, IsTaken}
use Rattle.coincidence.specs.Cells.{no_cell, turn_at, IsLive, name}
use Rattle.coincidence.specs.Followed.{AreNamed, IsFollowed, IsSettled}
use Rattle.coincidence.specs.Pending.{IsShaped}
use Rattle.coincidence.proofs.Names.{named}

pub live_made : (cells : List Cell) (c : ℕ) → IsLive cells c → c < length cells
live_made cells c live = elim (cases_lt c (length cells)) [
  | inl made ↦ made
  | inr past ↦ let none = ap (λ (x : Cell). x.turn) (get_or_past cells c no_cell past) in absurd (omega (arith, none, live))
]

pub settled_made : (cells : List Cell) (n : ℕ) → IsSettled cells n → n < 64 * length cells
settled_made cells n settled = let made = live_made cells (n / 64) (omega (arith, settled)) in omega (arith, made)

-- a slot that is taken is there
pub taken_made : (slots : List ℕ) (n : ℕ) → IsTaken slots n → n < length slots
taken_made slots n taken = elim (cases_lt n (length slots)) [
  | inl made ↦ made
  | inr past ↦ absurd (taken (get_or_past slots n nowhere past))
]

pub taken_some : (t : Table) (n : ℕ) → IsShaped t → IsTaken t.slots.items n → n ≡ nowhere → ⊥
taken_some t n shaped taken e = omega (arith, taken_made t.slots.items n taken, shaped.few, shaped.slots, e)

pub unpack_pack : (d : ℕ × ℕ) → d.1 < 64 → unpack (pack d) ≡ d
unpack_pack d below =
    let cell : (64 * d.0 + d.1) / 64 ≡ d.0 = omega (arith, below) in
    let side : (64 * d.0 + d.1) % 64 ≡ d.1 = omega (arith, below) in
    ap₂ (λ a b. (a, b)) cell side

-- the packed name of a dart
pub unpack_name : (t : Table) (c i : ℕ) → IsShaped t → unpack (pack (name t.cells.items (c, i))) ≡ name t.cells.items (c, i)
unpack_name t c i shaped =
    let h = named t.cells.items shaped.ordered c i in
    let few = shaped.turns (name t.cells.items (c, i)).0 in
    unpack_pack (name t.cells.items (c, i)) (omega (arith, h.below, few))

pub name_is_settled : (t : Table) (c i n : ℕ) → IsShaped t → n ≡ pack (name t.cells.items (c, i)) → IsSettled t.cells.items n
name_is_settled t c i n shaped e =
    let d = name t.cells.items (c, i) in
    let h = named t.cells.items shaped.ordered c i in
    let parts : unpack n ≡ d = ap unpack e ∙ unpack_name t c i shaped in
    subst (λ p. p.1 < turn_at t.cells.items p.0) (sym parts) h.below

-- a join of two darts is one of the second and the first
pub named_back : (t : Table) (p q : ℕ × ℕ) → IsShaped t → AreNamed t.cells.items t.slots.items p q → AreNamed t.cells.items t.slots.items q p
named_back t p q shaped named =
    let back = shaped.back named.at named.taken in
    record {
      at = slot_at t.slots.items named.at;
      taken = λ none. taken_some t named.at shaped named.taken (sym back ∙ none);
      here = named.across;
      across = ap (λ n. name t.cells.items (unpack n)) back ∙ named.here;
    }

-- A slot holds a dart, whose name was made one with another dart: the slot holds a join with the other one.
pub named_by : (t t' : Table) (n x y : ℕ) → IsShaped t → IsFollowed t.cells.items t.slots.items t'.cells.items t'.slots.items → t'.slots ≡ t.slots → IsTaken t.slots.items n → x ≡ pack (name t.cells.items (unpack (slot_at t.slots.items n))) → name t'.cells.items (unpack x) ≡ name t'.cells.items (unpack y) → AreNamed t'.cells.items t'.slots.items (name t'.cells.items (unpack n)) (name t'.cells.items (unpack y))
named_by t t' n x y shaped followed slots_are taken is together =
    let e = slot_at t.slots.items n in
    let slots_same : t'.slots.items ≡ t.slots.items = ap (λ v. v.items) slots_are in
    let own : unpack x ≡ name t.cells.items (unpack e) = ap unpack is ∙ unpack_name t (e / 64) (e % 64) shaped in
    let across : name t'.cells.items (unpack e) ≡ name t'.cells.items (unpack y) = sym (followed.names (unpack e)) ∙ (ap (name t'.cells.items) (sym own) ∙ together) in
    subst (λ slots. AreNamed t'.cells.items slots (name t'.cells.items (unpack n)) (name t'.cells.items (unpack y))) (sym slots_same) (record { at = n; taken = taken; here = refl; across = across })
