use Rattle.std.proofs.Common.{length}
use Rattle.derivation_log.proofs.Drafts.{Turning}
use Rattle.derivation_log.proofs.draft.Draft.write_back.Given as goal

abbrev pub invariant-loop-last : goal.invariant-loop-last
invariant-loop-last l = Turning l.fn.self l.log l.rest l.self

abbrev pub decreases-loop-last : goal.decreases-loop-last
decreases-loop-last l = length l.rest
