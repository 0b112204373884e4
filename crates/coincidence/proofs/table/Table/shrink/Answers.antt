-- A live cell's turn falls.
use Rattle.coincidence.proofs.Falls.{falls_moved, falls_true, live_some}
use Rattle.coincidence.proofs.table.Table.shrink.Goals as goal

pub write-requires-clause-live : goal.write-requires-clause-live
write-requires-clause-live c = λ _. live_some c.args.self.now c.args.cell c.requires.shaped c.requires.may_fall.made c.requires.may_fall.live

pub returns-clause-moved : goal.returns-clause-moved
returns-clause-moved c = falls_moved c.args.self.now c.write.new.self c.args.cell c.args.turn c.args.into c.args.shift c.requires.shaped c.requires.may_fall c.write.ensures.cells c.write.ensures.head c.write.ensures.live c.write.ensures.slots

pub returns-clause-sound : goal.returns-clause-sound
returns-clause-sound c = falls_true c.args.self.now c.write.new.self c.args.cell c.args.turn c.args.into c.args.shift c.requires.shaped c.requires.may_fall c.write.ensures.cells c.write.ensures.head c.write.ensures.live c.write.ensures.slots
