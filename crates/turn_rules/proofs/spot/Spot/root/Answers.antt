use Rattle.std.proofs.Common.{refl, ap, ◌∙◌, ◌∷◌, []}
use Rattle.tree_model.specs.Automata.{root_at}
use Rattle.spot_laws.proofs.Spots.{root_is}
use Rattle.turn_rules.proofs.spot.Spot.root.Goals as goal

pub returns : goal.returns
returns c =
    let state = c.root.ensures ∙ ap (λ a. root_at a c.args.kind) c.automaton.ensures.value in
    root_is c.args.r.now c.automaton.ensures.sound c.args.kind _ c.requires c.root-2.ensures (c.in_ok-path.ensures.items ∙ ap (λ x. x ∷ []) state) refl
