use Rattle.tree_laws.proofs.Together.{walks_one_place, places_tell, names_tell, place_types, state_kinds}
use Rattle.tree_laws.proofs.laws.places.Goals as goal

pub returns-clause-one : goal.returns-clause-one
returns-clause-one c = walks_one_place

pub returns-clause-related : goal.returns-clause-related
returns-clause-related c = places_tell

pub returns-clause-tiles : goal.returns-clause-tiles
returns-clause-tiles c = names_tell

pub returns-clause-types : goal.returns-clause-types
returns-clause-types c = place_types

pub returns-clause-kinds : goal.returns-clause-kinds
returns-clause-kinds c = state_kinds
