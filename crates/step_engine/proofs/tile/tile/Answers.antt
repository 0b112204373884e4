use Rattle.std.proofs.Common.{◌<◌, sym, subst, length}
use Rattle.spot_laws.proofs.Spots.{tile_known}
use Rattle.step_engine.proofs.tile.tile.Goals as goal

pub returns-clause-known : goal.returns-clause-known
returns-clause-known c =
    let known = tile_known c.args.r.now c.accepted.ensures c.args.s.now c.requires in
    subst (λ n. n < length c.args.r.now.automaton.states) (sym (c.state.ensures.reached c.args.r.now c.requires)) known
