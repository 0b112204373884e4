-- Each turn writes some of the rest.
use Rattle.std.proofs.Common.{length}
use Rattle.way_io.proofs.host_files.write_file.Given as goal

abbrev pub decreases-loop-rest : goal.decreases-loop-rest
decreases-loop-rest g l = length l.rest
