use Rattle.std.proofs.Common.{◌∙◌, ◌-◌, ap, length, arith}
use Rattle.log_checker.proofs.Pieces.{read_piece, prior_fewer, prior_begins}
use Rattle.log_checker.proofs.seeking.back.Goals as goal

pub overflow_sub-at-in-loop-at : goal.overflow_sub-at-in-loop-at
overflow_sub-at-in-loop-at c =
    let size = c.len.ensures ∙ ap length (read_piece c.args.pieces.now (c.loop-at.at.index - 1) c.index-pieces-at.result (omega (arith, c.loop-at.invariant.inside)) c.index-pieces-at.is) in
    prior_fewer c.args.pieces.now c.loop-at.at.index c.loop-at.at.before c.len.result c.loop-at.invariant c.if-at-gt0.true size

pub loop-at-preserved : goal.loop-at-preserved
loop-at-preserved c =
    let size = c.len.ensures ∙ ap length (read_piece c.args.pieces.now (c.loop-at.at.index - 1) c.index-pieces-at.result (omega (arith, c.loop-at.invariant.inside)) c.index-pieces-at.is) in
    prior_begins c.args.pieces.now c.loop-at.at.index c.loop-at.at.before c.len.result c.loop-at.invariant c.if-at-gt0.true size
