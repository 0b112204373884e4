use Rattle.std.proofs.Common.{◌<◌, length, sym, subst}
use Rattle.tree_model.specs.Conditions.{HasTables}
use Rattle.spot_laws.specs.Spots.{tile_state}
use Rattle.spot_laws.proofs.Spots.{tile_known}
use Rattle.turn_rules.proofs.spot.Spot.faced_type.Goals as goal

pub type_of-requires-clause-state : goal.type_of-requires-clause-state
type_of-requires-clause-state c =
    let known = tile_known c.args.r.now c.automaton.ensures.sound c.args.self.now c.requires in
    let state = c.state.ensures.reached c.args.r.now c.requires in
    subst (λ s. s < length c.automaton.result.now.states) (sym state) (subst (λ a. tile_state c.args.r.now c.args.self.now < length a.states) (sym c.automaton.ensures.value) known)

pub type_of-requires-clause-tables : goal.type_of-requires-clause-tables
type_of-requires-clause-tables c =
    let known = tile_known c.args.r.now c.automaton.ensures.sound c.args.self.now c.requires in
    let state = c.state.ensures.reached c.args.r.now c.requires in
    let tables = c.automaton.ensures.sound.accepted.c1.tables (tile_state c.args.r.now c.args.self.now) known in
    subst (λ s. HasTables c.tessellation.result.now c.automaton.result.now s) (sym state) (subst (λ a. HasTables c.tessellation.result.now a (tile_state c.args.r.now c.args.self.now)) (sym c.automaton.ensures.value) (subst (λ t. HasTables t c.args.r.now.automaton (tile_state c.args.r.now c.args.self.now)) (sym c.tessellation.ensures.value) tables))
