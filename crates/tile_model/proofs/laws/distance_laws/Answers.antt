use Rattle.tile_model.proofs.Distances.{distance_before, distance_cancel, distance_from, distance_to, distance_home, distance_away, distance_back, distance_zero, zero_distance, triangle}
use Rattle.tile_model.proofs.laws.distance_laws.Goals as goal

pub returns-clause-of_tiles : goal.returns-clause-of_tiles
returns-clause-of_tiles c = λ kinds valid d is_type u v w x n start end distance. distance_to kinds valid d is_type v w x n end (distance_from kinds valid d is_type u v w n start distance)

pub returns-clause-zero : goal.returns-clause-zero
returns-clause-zero c = λ kinds valid d is_type u w. (zero_distance kinds valid d is_type u w, distance_zero kinds valid d is_type u w)

pub returns-clause-back : goal.returns-clause-back
returns-clause-back c = distance_back

pub returns-clause-triangle : goal.returns-clause-triangle
returns-clause-triangle c = triangle

pub returns-clause-behind : goal.returns-clause-behind
returns-clause-behind c = λ kinds valid d u w z n. (distance_before kinds valid d z u w n, distance_cancel kinds valid d z u w n)

pub returns-clause-home : goal.returns-clause-home
returns-clause-home c = λ kinds valid d is_type u w n. (distance_home kinds valid d is_type u w n, distance_away kinds valid d is_type u w n)
