-- Regions have one candidate to a horizon.
use Rattle.state_candidates.proofs.OneCandidate.{one_candidate}
use Rattle.state_candidates.proofs.laws.one_candidate.Goals as goal

pub returns : goal.returns
returns c = one_candidate
