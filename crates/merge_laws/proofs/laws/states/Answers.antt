use Rattle.merge_laws.proofs.Trees.{states_told, classes_exact}
use Rattle.merge_laws.proofs.laws.states.Goals as goal

pub returns-clause-told : goal.returns-clause-told
returns-clause-told c = λ kinds a classes b valid ok merged. states_told kinds a classes b valid ok merged

pub returns-clause-exactly : goal.returns-clause-exactly
returns-clause-exactly c = λ kinds a classes b valid ok merged. classes_exact kinds a classes b valid ok merged
