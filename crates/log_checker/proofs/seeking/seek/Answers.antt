use Rattle.std.proofs.Common.{◌∙◌, ap, length, arith}
use Rattle.log_checker.proofs.Pieces.{read_piece, begins_next, begins_last}
use Rattle.log_checker.proofs.seeking.seek.Goals as goal

pub returns-then-at-pieces-clause-none : goal.returns-then-at-pieces-clause-none
returns-then-at-pieces-clause-none c =
    let size = c.len.ensures ∙ ap length (read_piece c.args.pieces.now c.loop-at.at.index c.index-pieces-at.result c.loop-at.invariant.begins.inside c.index-pieces-at.is) in
    let whole = begins_last c.args.pieces.now c.loop-at.at.index c.loop-at.at.before c.loop-at.invariant.begins c.if-at-pieces.true in
    omega (arith, whole, size, c.loop-at-test.true)

pub loop-at-preserved : goal.loop-at-preserved
loop-at-preserved c =
    let size = c.len-in-loop-at.ensures ∙ ap length (read_piece c.args.pieces.now c.loop-at.at.index c.index-pieces-at-in-loop-at.result c.loop-at.invariant.begins.inside c.index-pieces-at-in-loop-at.is) in
    let before = c.len.ensures ∙ ap length (read_piece c.args.pieces.now c.loop-at.at.index c.index-pieces-at.result c.loop-at.invariant.begins.inside c.index-pieces-at.is) in
    record {
      begins = begins_next c.args.pieces.now c.loop-at.at.index c.loop-at.at.before c.len-in-loop-at.result c.loop-at.invariant.begins size (omega (arith, c.loop-at.invariant.begins.inside, c.if-at-pieces.false));
      behind = omega (arith, size, before, c.loop-at-test.true);
      not_first = λ _. omega (arith, size, before, c.loop-at-test.true);
    }
