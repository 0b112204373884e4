use Rattle.merge_laws.proofs.Conditions.{merged_accepted}
use Rattle.merge_laws.proofs.laws.accepted.Goals as goal

pub returns : goal.returns
returns c = λ kinds a classes b valid ok merged. merged_accepted kinds a classes b valid ok merged
