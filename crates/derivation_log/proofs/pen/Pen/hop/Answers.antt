use Rattle.std.proofs.Common.{◌∙◌, sym, ap}
use Rattle.tree_model.specs.Positions.{mark_of_rule}
use Rattle.derivation_log.proofs.Pens.{parent_rule, has_parent}
use Rattle.derivation_log.proofs.pen.Pen.hop.Goals as goal

pub up-requires : goal.up-requires
up-requires c =
    let rule = c.rule.ensures.rule in
    let parent = parent_rule c.rule.result (ap mark_of_rule rule ∙ c.requires.tree) (λ x e. c.in_default.not-Child x e) in
    record { spot = c.requires.spot; no_root = has_parent c.args.r.now c.rule.ensures.sound c.args.self.now c.args.self.now c.requires.spot (sym rule ∙ parent) }
