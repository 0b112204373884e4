use Rattle.std.proofs.Common.{◌∙◌, refl, sym}
use Rattle.derivation_log.proofs.Pens.{turned_over, turned_within}
use Rattle.derivation_log.proofs.pen.Pen.turn_left.Goals as goal

pub returns-in_ok-delete : goal.returns-in_ok-delete
returns-in_ok-delete c =
    turned_over c.args.r.now c.args.self.now (record { place = c.turn_left.new.self; log = c.delete.new.self }) c.letters.result c.requires c.turn_left.ensures (sym c.spin.ensures ∙ c.if-spin-eq0.true) c.letters.ensures c.in_ok-delete.ensures

pub returns-else-spin-eq0 : goal.returns-else-spin-eq0
returns-else-spin-eq0 c =
    turned_within c.args.r.now c.args.self.now (record { place = c.turn_left.new.self; log = c.args.self.now.log }) c.requires c.turn_left.ensures (λ z. c.if-spin-eq0.false (c.spin.ensures ∙ z)) refl
