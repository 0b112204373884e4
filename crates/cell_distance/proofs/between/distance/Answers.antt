use Rattle.std.proofs.Common.{subst, sym}
use Rattle.tile_model.specs.Relation.{IsDistance}
use Rattle.spot_laws.specs.Spots.{position}
use Rattle.tree_laws.proofs.Between.{distance_by_place}
use Rattle.cell_distance.proofs.between.distance.Goals as goal

pub returns-clause-least : goal.returns-clause-least
returns-clause-least c =
    let sound = c.go_between.ensures.sound in
    let there = c.in_ok-there.there in
    let depth = distance_by_place c.args.r.now.kinds c.args.r.now.automaton c.args.kind sound.valid sound.accepted c.requires c.args.u.now c.args.w.now (position there) c.in_ok-there.ensures.arrives.place in
    subst (λ n. IsDistance c.args.r.now.kinds (c.args.kind, 0) c.args.u.now c.args.w.now n) (sym c.level.ensures) depth
