use Rattle.std.proofs.Common.{◌∙◌, ap₂, arith}
use Rattle.tree_model.specs.Automata.{next, side_count}
use Rattle.tree_model.proofs.Sides.{next_below}
use Rattle.spot_laws.specs.Spots.{tile_sides}
use Rattle.step_engine.proofs.steps.turn_left.Goals as goal

pub face-requires-clause-side : goal.face-requires-clause-side
face-requires-clause-side c =
    let rules = c.args.r.now in
    let side = ap₂ (λ t i. next (side_count rules.kinds rules.automaton t) i) c.tile.ensures.value c.spin.ensures in
    let below = next_below (tile_sides rules c.args.s.now) c.args.s.now.spin c.requires.there.side in
    omega (arith, c.next_left-side.ensures ∙ side, below)
