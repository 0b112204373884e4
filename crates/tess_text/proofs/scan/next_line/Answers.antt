use Rattle.std.proofs.Common.{arith}
use Rattle.std.proofs.lemmas.Bool.Decides.{nat_tests}
use Rattle.tess_text.proofs.Cutting.{lines_cut}
use Rattle.tess_text.proofs.scan.next_line.Goals as goal

pub returns-clause-lines : goal.returns-clause-lines
returns-clause-lines c = cc (lines_cut c.args.bytes.now (grind (arith, nat_tests)), c.place_of-end.ensures, c.behind.ensures)
