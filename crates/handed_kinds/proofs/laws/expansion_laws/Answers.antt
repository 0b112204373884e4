use Rattle.handed_kinds.proofs.Flat.{handed_of, flat_onto, flat_one, type_there, type_back, left_flat, right_flat, cross_flat, valence_flat}
use Rattle.handed_kinds.proofs.Numbers.{sides_is}
use Rattle.handed_kinds.proofs.Valid.{valid_lists, expanded_valid, handed_valid}
use Rattle.handed_kinds.proofs.FlatWalks.{walk_flat, loop_there, loop_back}
use Rattle.std.proofs.Common.{sym}
use Rattle.handed_kinds.proofs.FlatRelation.{related_there, related_back}
use Rattle.handed_kinds.proofs.laws.expansion_laws.Goals as goal

pub returns-clause-one_to_one : goal.returns-clause-one_to_one
returns-clause-one_to_one c = λ hs. record {
  types = λ t. (type_there hs t, type_back hs t);
  onto = λ d. (handed_of hs d, flat_onto hs d);
  one = flat_one hs;
}

pub returns-clause-validity : goal.returns-clause-validity
returns-clause-validity c = λ hs. (expanded_valid hs, handed_valid hs)

pub returns-clause-moves : goal.returns-clause-moves
returns-clause-moves c = λ hs valid. record {
  left = left_flat hs;
  right = right_flat hs;
  cross = cross_flat hs (valid_lists hs valid.repeat);
  sides = λ t. sym (sides_is hs t.0 t.2);
  valence = valence_flat hs (valid_lists hs valid.repeat);
}

pub returns-clause-walks : goal.returns-clause-walks
returns-clause-walks c = walk_flat

pub returns-clause-loops : goal.returns-clause-loops
returns-clause-loops c = λ hs valid t h j loop. (loop_there hs valid t h j loop, loop_back hs valid t h j loop)

pub returns-clause-related : goal.returns-clause-related
returns-clause-related c = λ hs valid t h u w. (related_there hs valid t h u w, related_back hs valid t h u w)
