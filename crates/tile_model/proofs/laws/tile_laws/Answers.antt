use Rattle.tile_model.proofs.SameTile.{related_same_tile, same_tile_same, same_tile_back, same_tile_on, way_between}
use Rattle.tile_model.proofs.Distances.{turning_stays}
use Rattle.tile_model.proofs.laws.tile_laws.Goals as goal

pub returns-clause-equivalence : goal.returns-clause-equivalence
returns-clause-equivalence c =
    λ kinds valid d is_type. record {
      same = same_tile_same kinds valid d is_type;
      back = λ u w same. same_tile_back kinds valid d is_type same;
      on = λ u v w first second. same_tile_on kinds valid d is_type first second;
    }

pub returns-clause-related : goal.returns-clause-related
returns-clause-related c = λ kinds valid d is_type u w r. related_same_tile kinds valid d is_type r

pub returns-clause-way : goal.returns-clause-way
returns-clause-way c = way_between

pub returns-clause-turns : goal.returns-clause-turns
returns-clause-turns c = λ kinds valid d is_type u z none. turning_stays kinds valid d is_type z u none
