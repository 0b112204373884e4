-- Both darts are named, and joined under their names.
use Rattle.std.proofs.Common.{◌/◌, ◌%◌}
use Rattle.coincidence.proofs.Settled.{name_is_settled}
use Rattle.coincidence.proofs.Anew.{anew_settled, anew_covered}
use Rattle.coincidence.proofs.table.Table.join_anew.Goals as goal

pub step-requires-clause-first : goal.step-requires-clause-first
step-requires-clause-first c = name_is_settled c.clear.new.self (c.args.dart / 64) (c.args.dart % 64) c.name-a.result c.clear.ensures.shaped c.name-a.ensures

pub step-requires-clause-second : goal.step-requires-clause-second
step-requires-clause-second c = name_is_settled c.clear.new.self (c.args.over / 64) (c.args.over % 64) c.name-b.result c.clear.ensures.shaped c.name-b.ensures

pub returns-clause-settled : goal.returns-clause-settled
returns-clause-settled c = anew_settled c.args.self.now c.clear.new.self c.step.new.self c.args.dart c.args.over c.name-a.result c.name-b.result c.requires.shaped c.requires.pending c.requires.over c.clear.ensures.cells c.clear.ensures.empty c.clear.ensures.still c.clear.ensures.only c.name-a.ensures c.name-b.ensures c.step.ensures.moved c.step.ensures.named c.step.ensures.sound

pub returns-clause-covered : goal.returns-clause-covered
returns-clause-covered c = anew_covered c.args.self.now c.clear.new.self c.step.new.self c.args.dart c.args.over c.name-a.result c.name-b.result c.requires.shaped c.requires.pending c.requires.over c.clear.ensures.cells c.clear.ensures.empty c.clear.ensures.still c.clear.ensures.only c.name-a.ensures c.name-b.ensures c.step.ensures.moved c.step.ensures.named c.step.ensures.sound
