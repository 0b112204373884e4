use Rattle.played_rows.proofs.slow.Slow.+find_match.Given as goal

abbrev pub decreases-find_match : goal.decreases-find_match
decreases-find_match l = l.moves
