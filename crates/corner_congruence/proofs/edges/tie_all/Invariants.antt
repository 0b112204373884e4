-- Each turn but the last makes fewer sets.
use Rattle.corner_congruence.proofs.edges.tie_all.Given as goal

abbrev pub decreases-loop-firsts : goal.decreases-loop-firsts
decreases-loop-firsts l = l.sets.count
