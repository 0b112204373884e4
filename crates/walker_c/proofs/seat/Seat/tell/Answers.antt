use Rattle.std.proofs.Common.{◌∙◌, sym}
use Rattle.walker_c.proofs.Told.{on_ok, told}
use Rattle.walker_c.proofs.seat.Seat.tell.Goals as goal

pub returns-clause-told : goal.returns-clause-told
returns-clause-told c =
    let seat = c.self.inside in
    let some = c.in-Some.ensures.some in
    on_ok c.answer-resting.result.1
    (told seat.rules seat.resting c.in-Some-take.resting seat.bytes.items seat.given c.args.self.now
    c.self.view_is (sym c.take.ensures.value ∙ c.in-Some-take.is) c.args.line.now
    c.in-Some.line.now c.drop_given.new.bytes.items c.answer-resting.new.waiting.items
    c.answer-resting.result.0 c.drop_given.new.given c.drop_given.ensures.bytes
    c.drop_given.ensures.given some.0 some.1)
    c.answer-resting.ensures.answered
