-- Where nothing waits nothing changes.
use Rattle.coincidence.proofs.Anew.{settled_same}
use Rattle.coincidence.proofs.table.Table.settle.Goals as goal

pub returns-else-turn-dart-clause-settled : goal.returns-else-turn-dart-clause-settled
returns-else-turn-dart-clause-settled c = settled_same c.args.self.now c.requires.shaped

pub returns-else-over-clause-settled : goal.returns-else-over-clause-settled
returns-else-over-clause-settled c = settled_same c.args.self.now c.requires.shaped
