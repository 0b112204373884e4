-- One step, and then all that waits.
use Rattle.coincidence.proofs.Moves.{followed_on}
use Rattle.coincidence.proofs.Anew.{named_after}
use Rattle.coincidence.specs.Darts.{unpack}
use Rattle.coincidence.proofs.table.Table.join.Goals as goal

pub settle_all-requires-clause-covered : goal.settle_all-requires-clause-covered
settle_all-requires-clause-covered c = c.step.ensures.moved.covered 0 64 (λ n pending. absurd (c.requires.quiet n pending))

pub returns-clause-followed : goal.returns-clause-followed
returns-clause-followed c =
    let t = c.args.self.now in
    let s = c.step.new.self in
    let u = c.settle_all.new.self in
    followed_on t.cells.items t.slots.items s.cells.items s.slots.items u.cells.items u.slots.items c.step.ensures.moved.followed c.settle_all.ensures.settled.followed

pub returns-clause-named : goal.returns-clause-named
returns-clause-named c = named_after c.step.new.self c.settle_all.new.self (unpack c.args.a) (unpack c.args.b) c.settle_all.ensures.settled.followed c.step.ensures.named

pub returns-clause-sound : goal.returns-clause-sound
returns-clause-sound c = λ atlas sound across. c.settle_all.ensures.settled.sound atlas (c.step.ensures.sound atlas sound across)
