use Rattle.std.proofs.Common.{length}
use Rattle.tess_text.proofs.Reading.{Progress}
use Rattle.tess_text.proofs.read.read_kinds.Given as goal

abbrev pub invariant-loop-line : goal.invariant-loop-line
invariant-loop-line l = Progress l.bytes l.rest l.count l.reader.version l.reader.tables

abbrev pub decreases-loop-line : goal.decreases-loop-line
decreases-loop-line l = length l.rest
