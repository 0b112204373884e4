-- The claims of the sides before this one stand.
use Rattle.std.proofs.Common.{◌≡◌, Some}
use Rattle.look_classes.specs.Looks.{each_below}
use Rattle.state_candidates.specs.Reading.{claim_at_side}
use Rattle.state_candidates.proofs.reader.Reader.claims.Given as goal

abbrev pub invariant-loop-j : goal.invariant-loop-j
invariant-loop-j l = each_below l.j (claim_at_side l.self.region l.self.lists l.self.first_corner l.cell) ≡ Some l.claims.items
