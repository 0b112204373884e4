-- There are at most as many cone types as entries so far, and one for each root among these, and
-- each stands for its class.
use Rattle.std.proofs.Common.{◌≡◌, ◌≤◌, length}
use Rattle.cone_types.specs.Cones.{renamed_cone}
use Rattle.cone_types.specs.Representatives.{StandForClasses}
use Rattle.cone_types.proofs.minimisation.coarsest.Given as goal

abbrev pub invariant-loop-entry : goal.invariant-loop-entry
invariant-loop-entry l = record {
  fewer : length l.coarse.items ≤ l.entry;
  first : l.entry ≤ l.kinds → length l.coarse.items ≡ l.entry;
  roots : l.kinds ≤ l.entry → l.kinds ≤ length l.coarse.items;
  stand :
      StandForClasses (renamed_cone l.classes.items) l.classes.items l.types
      l.coarse.items;
}
