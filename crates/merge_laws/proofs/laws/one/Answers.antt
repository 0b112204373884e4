use Rattle.merge_laws.proofs.Unique.{one_merging}
use Rattle.merge_laws.proofs.laws.one.Goals as goal

pub returns : goal.returns
returns c = λ kinds a classes b valid ok merged. one_merging kinds a ok classes b merged
