use Rattle.std.proofs.Common.{◌+◌, length, take, subst, sym}
use Rattle.log_checker.specs.Trails.{joined, IsWith}
use Rattle.log_checker.proofs.Pieces.{read_piece, put_in_piece}
use Rattle.log_checker.proofs.trail.put.Goals as goal

pub returns-clause-put : goal.returns-clause-put
returns-clause-put c =
    let ps = c.args.pieces.now.items in
    let piece = read_piece ps c.args.index c.index_mut-piece.result.now c.requires.inside c.index_mut-piece.ensures.value in
    let put = put_in_piece ps c.args.index c.args.offset c.args.middle.now c.index_mut-piece.result.now c.put.new.self c.requires.inside piece c.in_ok-put.ensures in
    subst (IsWith (length (joined (take c.args.index ps)) + c.args.offset) c.args.middle.now (joined ps)) (sym c.in_ok-halve.ensures.same) put
