use Rattle.std.proofs.Common.{◌++◌, ◌∙◌, ap}
use Rattle.log_checker.proofs.LoopLetters.{times_more}
use Rattle.log_checker.proofs.loops.repeated.Goals as goal

pub loop-turn-preserved : goal.loop-turn-preserved
loop-turn-preserved c =
    c.in_ok-extend_from_slice.ensures.items ∙ ap (λ m. m ++ c.args.walk.now) c.loop-turn.invariant ∙ times_more c.loop-turn.turn c.args.walk.now
