use Rattle.std.proofs.Common.{◌+◌, ◌∙◌, length, take, drop, slice_set, subst, sym, ap, ap₂}
use Rattle.log_checker.specs.Trails.{joined, IsWith}
use Rattle.log_checker.proofs.Pieces.{read_piece, seen_in_piece, taken_from_piece}
use Rattle.log_checker.proofs.trail.take_out.Goals as goal

pub returns-then-not-branch-clause-not_there : goal.returns-then-not-branch-clause-not_there
returns-then-not-branch-clause-not_there c = λ _ follows.
    let gs = c.gather.new.pieces.items in
    let i = c.args.index in
    let k = length c.args.middle.now in
    let kept = c.in_ok-gather.ensures.front in
    let piece = read_piece gs i c.index_mut-piece.result.now kept.inside c.index_mut-piece.ensures.value in
    let seen = seen_in_piece gs i c.args.offset k kept.inside c.in_ok-gather.ensures.within c.in_ok-gather.ensures.enough in
    let same = ap₂ (λ f w. take k (drop (length (joined f) + c.args.offset) w)) kept.front c.in_ok-gather.ensures.same in
    c.in_ok-take_out.ensures.not_there c.if-not-branch.true (ap (λ p. take k (drop c.args.offset p)) piece ∙ sym seen ∙ same ∙ follows)

pub returns-clause-out : goal.returns-clause-out
returns-clause-out c = λ _.
    let gs = c.gather.new.pieces.items in
    let i = c.args.index in
    let m = c.args.middle.now in
    let kept = c.in_ok-gather.ensures.front in
    let piece = read_piece gs i c.index_mut-piece.result.now kept.inside c.index_mut-piece.ensures.value in
    let out = taken_from_piece gs i c.args.offset m c.index_mut-piece.result.now c.take_out.new.self kept.inside piece (c.in_ok-take_out.ensures.out c.if-not-branch.false) in
    let whole = subst (IsWith (length (joined (take i gs)) + c.args.offset) m (joined (slice_set gs i c.take_out.new.self))) c.in_ok-gather.ensures.same out in
    let halved = subst (λ u. IsWith (length (joined (take i gs)) + c.args.offset) m u (joined c.args.pieces.now.items)) (sym c.in_ok-halve.ensures.same) whole in
    subst (λ f. IsWith (length (joined f) + c.args.offset) m (joined c.halve.new.pieces.items) (joined c.args.pieces.now.items)) kept.front halved
