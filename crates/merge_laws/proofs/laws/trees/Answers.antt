use Rattle.merge_laws.proofs.Trees.{names_stay, states_are, places_stay}
use Rattle.merge_laws.proofs.laws.trees.Goals as goal

pub returns-clause-names : goal.returns-clause-names
returns-clause-names c = λ kinds a classes b valid ok merged. names_stay kinds a classes b valid ok merged

pub returns-clause-states : goal.returns-clause-states
returns-clause-states c = λ kinds a classes b valid ok merged. states_are kinds a classes b valid ok merged

pub returns-clause-places : goal.returns-clause-places
returns-clause-places c = λ kinds a classes b valid ok merged. places_stay kinds a classes b valid ok merged
