-- The rules of the sides before this one stand.
use Rattle.std.proofs.Common.{◌≡◌, Some}
use Rattle.look_classes.specs.Looks.{each_below}
use Rattle.state_candidates.specs.Reading.{rule_at_side}
use Rattle.state_candidates.proofs.reader.Reader.rules.Given as goal

abbrev pub invariant-loop-j : goal.invariant-loop-j
invariant-loop-j l = each_below l.j (rule_at_side l.self.region l.self.lists l.self.first_state l.cell) ≡ Some l.rules.items
