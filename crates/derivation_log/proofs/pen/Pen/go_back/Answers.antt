use Rattle.derivation_log.proofs.Steps.{crossed_right}
use Rattle.derivation_log.proofs.pen.Pen.go_back.Goals as goal

pub returns-clause-crossed : goal.returns-clause-crossed
returns-clause-crossed c =
    crossed_right c.args.r.now c.accepted.ensures c.args.self.now (record { place = c.in_ok-across.across; log = c.delete.new.self }) c.requires.spot (record { place = c.in_ok-copy.field-0; log = c.new.result }) c.go_round.new.self c.write_back.new.self c.in_ok-end.field-0 c.in_ok-across.ensures.spot c.in_ok-across.ensures.tree c.in_ok-across.ensures.across c.in_ok-copy.ensures c.new.ensures c.in_ok-go_round.ensures c.in_ok-write_back.ensures c.in_ok-end.ensures c.in_ok-delete.ensures
