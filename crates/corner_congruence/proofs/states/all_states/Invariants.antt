-- The states so far are those of the first cone types.
use Rattle.std.proofs.Common.{◌≡◌, map, take}
use Rattle.std.specs.Prelude.{All}
use Rattle.corner_congruence.specs.Congruence.{cone_of, HasClaims}
use Rattle.corner_congruence.proofs.states.all_states.Given as goal

abbrev pub invariant-loop-number : goal.invariant-loop-number
invariant-loop-number l = record {
  cones : map cone_of l.states.items ≡ take l.number l.types;
  claims : All HasClaims l.states.items;
}
