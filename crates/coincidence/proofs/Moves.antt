-- Changes of a table, one after the other.
use Rattle.std.proofs.Common.{ℕ, List, refl, sym, ap, ◌∙◌, arith}
use Rattle.std.proofs.Math.Nat.{mod_self}
use Rattle.coincidence.specs.declared.table.Cell.{Cell}
use Rattle.coincidence.specs.declared.table.Table.{Table}
use Rattle.coincidence.specs.Cells.{turn_at, IsOrdered, name}
use Rattle.coincidence.specs.Followed.{AreNamed, IsFollowed}
use Rattle.coincidence.specs.Pending.{IsShaped, HasMoved}
use Rattle.coincidence.proofs.Numbers.{divides_on}
use Rattle.coincidence.proofs.Names.{name_name}
use Rattle.coincidence.proofs.Falls.{kept_names}

pub followed_same : (cells : List Cell) (slots : List ℕ) → IsOrdered cells → IsFollowed cells slots cells slots
followed_same cells slots ordered = record {
  names = name_name cells ordered;
  kept = kept_names cells cells slots (name_name cells ordered);
  turns = λ c live. record { was_live = live; divides = mod_self (turn_at cells c) };
  count = refl;
}

pub moved_same : (t : Table) → IsShaped t → HasMoved t t
moved_same t shaped = record { shaped = shaped; followed = followed_same t.cells.items t.slots.items shaped.ordered; covered = λ c i covered. covered; falls = omega arith }

pub followed_on : (first : List Cell) (slots : List ℕ) (second : List Cell) (slots' : List ℕ) (third : List Cell) (slots'' : List ℕ) → IsFollowed first slots second slots' → IsFollowed second slots' third slots'' → IsFollowed first slots third slots''
followed_on first slots second slots' third slots'' one two = record {
  names = λ d. sym (two.names (name first d)) ∙ (ap (name third) (one.names d) ∙ two.names d);
  kept = λ p q named. rename p q (two.kept (name second p) (name second q) (one.kept p q named));
  turns = λ c live.
      let later = two.turns c live in
      let earlier = one.turns c later.was_live in
      record { was_live = earlier.was_live; divides = divides_on (turn_at first c) (turn_at second c) (turn_at third c) earlier.divides later.divides };
  count = two.count ∙ one.count;
}
  where
    rename : (p q : ℕ × ℕ) → AreNamed third slots'' (name third (name second p)) (name third (name second q)) → AreNamed third slots'' (name third p) (name third q)
    rename p q named = record { at = named.at; taken = named.taken; here = named.here ∙ two.names p; across = named.across ∙ two.names q }

pub moved_on : (first second third : Table) → HasMoved first second → HasMoved second third → HasMoved first third
moved_on first second third one two = record {
  shaped = two.shaped;
  followed = followed_on first.cells.items first.slots.items second.cells.items second.slots.items third.cells.items third.slots.items one.followed two.followed;
  covered = λ c i covered. two.covered c i (one.covered c i covered);
  falls = omega (arith, one.falls, two.falls);
}
