use Rattle.std.proofs.Common.{◌∙◌, ap, ap₂, length, slice_index_or}
use Rattle.spot_laws.proofs.Spots.{spot_state}
use Rattle.turn_rules.proofs.spot.Spot.state.Goals as goal

pub returns-clause-reached : goal.returns-clause-reached
returns-clause-reached c = λ rules h.
    let path = ap (λ s. s.path) c.self.view_is in
    let level = c.len.ensures ∙ ap (λ s. length s.name) c.self.view_is in
    c.index.ensures ∙ ap₂ (λ m i. slice_index_or m i c.index.result.now) path level ∙ spot_state rules c.args.self.now c.index.result.now h
