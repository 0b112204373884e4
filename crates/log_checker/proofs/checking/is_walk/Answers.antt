use Rattle.std.proofs.Common.{◌∙◌, ◌++◌, suc, drop, ap, sym}
use Rattle.log_checker.specs.Footprints.{letters}
use Rattle.log_checker.specs.Trails.{walk_of}
use Rattle.log_checker.proofs.Following.{walk_more, walk_goes_on}
use Rattle.log_checker.proofs.checking.is_walk.Goals as goal

pub returns-in-None : goal.returns-in-None
returns-in-None c = (
  λ e. absurd (cc (e)),
  λ whole.
      let i = c.loop-piece.piece-index in
      let ps = c.args.pieces.now in
      let goes = walk_goes_on ps i c.piece-item.result c.args.w.now c.loop-piece.rest.now c.loop-piece-test.true c.piece-item.is c.loop-piece.invariant whole in
      absurd (c.in-None.ensures.none (walk_of (drop (suc i) ps)) (goes ∙ ap (λ m. letters m ++ walk_of (drop (suc i) ps)) (sym c.footprints.ensures))),
)

pub loop-piece-preserved : goal.loop-piece-preserved
loop-piece-preserved c =
    let i = c.loop-piece.piece-index in
    let goes = c.in-Some.ensures.some ∙ ap (λ m. letters m ++ c.in-Some.behind.now) c.footprints.ensures in
    walk_more c.args.pieces.now i c.piece-item.result c.args.w.now c.loop-piece.rest.now c.in-Some.behind.now c.loop-piece-test.true c.piece-item.is c.loop-piece.invariant goes
