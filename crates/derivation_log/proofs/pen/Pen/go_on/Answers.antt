use Rattle.std.proofs.Common.{◌∙◌, ◌-◌, refl, sym, ap, arith, nat_eq}
use Rattle.tree_model.specs.Positions.{mark_of_rule}
use Rattle.derivation_log.proofs.Pens.{moved_hop, moved_open, moved_close}
use Rattle.derivation_log.proofs.pen.Pen.go_on.Goals as goal

pub returns-in_ok-hop-in-Parent : goal.returns-in_ok-hop-in-Parent
returns-in_ok-hop-in-Parent c =
    moved_hop c.args.r.now c.args.self.now c.turn_left.new.self c.hop.new.self c.in_ok-turn_left.ensures c.args.brackets.now c.in_ok-hop-in-Parent.ensures

pub returns-in_ok-insert-in-Left : goal.returns-in_ok-insert-in-Left
returns-in_ok-insert-in-Left c =
    let opens = ap mark_of_rule (sym c.rule.ensures.rule ∙ c.in-Left.is) in
    moved_open c.args.r.now c.args.self.now c.turn_left.new.self (record { place = c.turn_left.new.self.place; log = c.insert.new.self }) c.in_ok-turn_left.ensures c.args.brackets.now _ c.in_ok-end-in-Left.field-0 refl opens c.in_ok-end-in-Left.ensures c.in_ok-insert-in-Left.ensures refl

pub returns-in_ok-delete-in-Right : goal.returns-in_ok-delete-in-Right
returns-in_ok-delete-in-Right c =
    let closes = ap mark_of_rule (sym c.rule.ensures.rule ∙ c.in-Right.is) in
    moved_close c.args.r.now c.args.self.now c.turn_left.new.self (record { place = c.turn_left.new.self.place; log = c.delete.new.self }) c.in_ok-turn_left.ensures c.args.brackets.now (c.args.brackets.now - 1) c.in_ok-end-in-Right.field-0 (nat_eq (c.args.brackets.now - 1) 0) refl closes c.in_ok-end-in-Right.ensures c.in_ok-delete-in-Right.ensures (omega (arith, c.requires.some)) refl
