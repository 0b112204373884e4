use Rattle.std.proofs.Common.{◌∙◌, sym, ap}
use Rattle.tree_model.specs.Positions.{mark_of_rule}
use Rattle.step_engine.proofs.Detours.{has_parent, rule_home, goes_up, goes_down}
use Rattle.step_engine.proofs.Contours.{tree_crossed}
use Rattle.step_engine.proofs.detour.Detour.arrive.Goals as goal

pub up-requires-clause-no_root : goal.up-requires-clause-no_root
up-requires-clause-no_root c = has_parent c.args.r.now c.requires.sound c.args.s.now c.args.self.now c.requires (sym c.rule.ensures ∙ c.in-Parent.is)

pub returns-in-Parent : goal.returns-in-Parent
returns-in-Parent c =
    let rule = sym c.rule.ensures ∙ c.in-Parent.is in
    let tree = ap mark_of_rule (sym (rule_home c.args.r.now c.requires.sound c.args.s.now c.args.self.now c.requires) ∙ rule) in
    let up = goes_up c.args.r.now c.requires.sound c.args.s.now c.args.self.now c.up.new.self c.requires rule c.up.ensures.shape c.up.ensures.above (c.up.ensures.tile c.args.r.now) in
    tree_crossed c.args.r.now c.requires.sound c.args.s.now c.args.self.now c.up.new.self tree up

pub returns-in_ok-down-in-Child : goal.returns-in_ok-down-in-Child
returns-in_ok-down-in-Child c =
    let rule = sym c.rule.ensures ∙ c.in-Child.is in
    let tree = ap mark_of_rule (sym (rule_home c.args.r.now c.requires.sound c.args.s.now c.args.self.now c.requires) ∙ rule) in
    let down = goes_down c.args.r.now c.requires.sound c.args.s.now c.args.self.now c.down.new.self c.in-Child.child c.requires rule c.in_ok-down-in-Child.ensures.kept c.in_ok-down-in-Child.ensures.sides c.in_ok-down-in-Child.ensures.states c.in_ok-down-in-Child.ensures.tile c.in_ok-down-in-Child.ensures.spin in
    tree_crossed c.args.r.now c.requires.sound c.args.s.now c.args.self.now c.down.new.self tree down
