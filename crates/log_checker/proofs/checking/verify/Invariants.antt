-- The changes so far lead to the walk of the trail.
use Rattle.std.proofs.Common.{take}
use Rattle.tile_model.specs.Relation.{Lead}
use Rattle.log_checker.specs.Footprints.{AreTyped}
use Rattle.log_checker.specs.Trails.{joined, walk_of, Begins}
use Rattle.log_checker.proofs.checking.verify.Given as goal

abbrev pub invariant-loop-done : goal.invariant-loop-done
invariant-loop-done l = record {
  leads : Lead l.t l.from (take l.done l.log) l.u (walk_of l.trail.pieces.items);
  typed : AreTyped l.t l.from (joined l.trail.pieces.items);
  begins : Begins l.trail.pieces.items l.trail.near.index l.trail.near.before;
}
