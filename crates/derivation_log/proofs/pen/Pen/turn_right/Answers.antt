use Rattle.derivation_log.proofs.Pens.{turned_right}
use Rattle.derivation_log.proofs.pen.Pen.turn_right.Goals as goal

pub returns : goal.returns
returns c =
    turned_right c.args.r.now c.args.self.now c.open_turn.new.self (record { place = c.turn_right.new.self; log = c.delete.new.self }) c.in_ok-end.field-0 c.in_ok-open_turn.ensures.place c.turn_right.ensures c.in_ok-end.ensures c.in_ok-open_turn.ensures.log c.in_ok-delete.ensures
