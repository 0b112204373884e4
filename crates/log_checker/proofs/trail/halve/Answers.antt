use Rattle.std.proofs.Common.{◌∙◌, ◌/◌, ap, take, drop}
use Rattle.log_checker.specs.Trails.{joined}
use Rattle.log_checker.proofs.Pieces.{read_piece, halved}
use Rattle.log_checker.proofs.trail.halve.Goals as goal

pub returns-in_ok-insert-clause-same : goal.returns-in_ok-insert-clause-same
returns-in_ok-insert-clause-same c =
    let piece = read_piece c.args.pieces.now.items c.args.index c.index_mut-piece.result.now c.requires c.index_mut-piece.ensures.value in
    let half = c.len-count.result / 2 in
    ap joined c.in_ok-insert.ensures.items ∙ halved c.args.pieces.now.items c.args.index half c.cut.new.self c.in_ok-rest.rest c.requires (c.in_ok-rest.ensures.kept ∙ ap (take half) piece) (c.in_ok-rest.ensures.rest ∙ ap (drop half) piece)
