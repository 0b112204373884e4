use Rattle.tile_model.proofs.Types.{right_left, left_right, cross_cross, walk_type, type_lefts, loop_type}
use Rattle.tile_model.proofs.laws.type_laws.Goals as goal

pub returns-clause-undone : goal.returns-clause-undone
returns-clause-undone c = λ kinds valid d. record { right_of_left = right_left kinds valid d; left_of_right = left_right kinds valid d; cross_of_cross = cross_cross kinds valid d }

pub returns-clause-types : goal.returns-clause-types
returns-clause-types c = walk_type

pub returns-clause-turns : goal.returns-clause-turns
returns-clause-turns c = λ kinds valid k s n is_type. type_lefts kinds valid n (k, s) is_type

pub returns-clause-loops : goal.returns-clause-loops
returns-clause-loops c = λ kinds valid d j loop is. loop_type kinds valid d is
