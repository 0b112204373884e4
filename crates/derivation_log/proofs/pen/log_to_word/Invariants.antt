use Rattle.std.proofs.Common.{take}
use Rattle.derivation_log.proofs.Steps.{Following}
use Rattle.derivation_log.proofs.pen.log_to_word.Given as goal

abbrev pub invariant-loop-x : goal.invariant-loop-x
invariant-loop-x l = Following l.r l.kind (take l.x-index l.x-items) l.pen
