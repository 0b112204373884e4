use Rattle.std.proofs.Common.{◌+◌, ◌<◌, ◌++◌, ◌∙◌, length, ap, arith}
use Rattle.log_checker.proofs.Pieces.{gathered_same, gathered_front, gathered_within}
use Rattle.log_checker.proofs.trail.gather.Goals as goal

pub loop-pieces-preserved : goal.loop-pieces-preserved
loop-pieces-preserved c =
    let ps = c.loop-pieces.pieces.items in
    let rs = c.remove-next.new.self.items in
    let i = c.args.index in
    let p = c.index_mut-piece.result.now in
    let n = c.remove-next.result in
    let q = c.extend.new.self in
    let out = c.remove-next.ensures.items in
    let h : i + 1 < length ps = omega (arith, c.if-index-len.true, c.loop-pieces.pieces.ok.0) in
    let sum = c.in_ok-extend.ensures ∙ ap (λ m. p ++ m) c.footprints.ensures in
    record {
      same = gathered_same ps rs i p n q out h c.index_mut-piece.ensures.value c.remove-next.ensures.value sum ∙ c.loop-pieces.invariant.same;
      front = gathered_front ps rs i p n q out h c.index_mut-piece.ensures.value c.remove-next.ensures.value sum c.args.pieces.now.items c.loop-pieces.invariant.front;
      within = gathered_within ps rs i p n q out h c.index_mut-piece.ensures.value c.remove-next.ensures.value sum c.args.offset c.loop-pieces.invariant.within;
    }
