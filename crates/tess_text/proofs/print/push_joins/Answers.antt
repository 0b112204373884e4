use Rattle.std.proofs.Common.{arith}
use Rattle.std.proofs.lemmas.Grind.{common_steps}
use Rattle.tess_text.proofs.Printing.{entries_text-append}
use Rattle.tess_text.proofs.print.push_joins.Goals as goal

pub loop-k-preserved : goal.loop-k-preserved
loop-k-preserved c = grind (arith, common_steps, entries_text-append)
