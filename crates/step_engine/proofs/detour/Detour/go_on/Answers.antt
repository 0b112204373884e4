use Rattle.std.proofs.Common.{◌∙◌, sym, ap}
use Rattle.tree_model.specs.Positions.{mark_of_rule}
use Rattle.step_engine.proofs.Detours.{has_parent, rule_home, goes_up, goes_down}
use Rattle.step_engine.proofs.Contours.{hops}
use Rattle.step_engine.proofs.detour.Detour.go_on.Goals as goal

pub up-requires-clause-no_root : goal.up-requires-clause-no_root
up-requires-clause-no_root c = has_parent c.args.r.now c.requires.detour.sound c.args.s.now c.turn.new.self c.turn.ensures.detour (sym c.rule.ensures ∙ c.in-Parent.is)

pub returns-in-Parent : goal.returns-in-Parent
returns-in-Parent c =
    let rule = sym c.rule.ensures ∙ c.in-Parent.is in
    let tree = ap mark_of_rule (sym (rule_home c.args.r.now c.requires.detour.sound c.args.s.now c.turn.new.self c.turn.ensures.detour) ∙ rule) in
    let up = goes_up c.args.r.now c.requires.detour.sound c.args.s.now c.turn.new.self c.up.new.self c.turn.ensures.detour rule c.up.ensures.shape c.up.ensures.above (c.up.ensures.tile c.args.r.now) in
    hops c.args.r.now c.requires.detour.sound c.args.s.now c.args.leftwards c.args.self.now c.turn.new.self c.up.new.self c.args.brackets.now c.turn.ensures tree up

pub returns-in_ok-down-in-Child : goal.returns-in_ok-down-in-Child
returns-in_ok-down-in-Child c =
    let rule = sym c.rule.ensures ∙ c.in-Child.is in
    let tree = ap mark_of_rule (sym (rule_home c.args.r.now c.requires.detour.sound c.args.s.now c.turn.new.self c.turn.ensures.detour) ∙ rule) in
    let down = goes_down c.args.r.now c.requires.detour.sound c.args.s.now c.turn.new.self c.down.new.self c.in-Child.child c.turn.ensures.detour rule c.in_ok-down-in-Child.ensures.kept c.in_ok-down-in-Child.ensures.sides c.in_ok-down-in-Child.ensures.states c.in_ok-down-in-Child.ensures.tile c.in_ok-down-in-Child.ensures.spin in
    hops c.args.r.now c.requires.detour.sound c.args.s.now c.args.leftwards c.args.self.now c.turn.new.self c.down.new.self c.args.brackets.now c.turn.ensures tree down
