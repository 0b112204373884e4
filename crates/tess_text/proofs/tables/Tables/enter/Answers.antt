use Rattle.std.proofs.Common.{arith}
use Rattle.tess_text.proofs.Entering.{entered_kind, entered_join, entered_corner}
use Rattle.tess_text.proofs.tables.Tables.enter.Goals as goal

pub returns-in_ok-push-in-Kind : goal.returns-in_ok-push-in-Kind
returns-in_ok-push-in-Kind c = λ es hold.
    entered_kind c.args.self.now c.push.new.self es c.args.entry c.in-Kind.kind c.in-Kind.sides c.in-Kind.repeat c.in-Kind.is (omega arith) c.in_ok-push-in-Kind.ensures hold

pub returns-in-Join : goal.returns-in-Join
returns-in-Join c = λ es hold.
    entered_join c.args.self.now c.join.new.self es c.args.entry (c.in-Join.kind, c.in-Join.residue) (c.in-Join.other, c.in-Join.at) c.in-Join.mirrored c.join.result c.in-Join.is c.join.ensures.good c.join.ensures.joined hold

pub returns-in-Corner : goal.returns-in-Corner
returns-in-Corner c = λ es hold.
    entered_corner c.args.self.now c.give.new.self es c.args.entry (c.in-Corner.kind, c.in-Corner.residue) c.in-Corner.valence c.give.result c.in-Corner.is c.give.ensures.good c.give.ensures.given hold
