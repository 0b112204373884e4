-- All regions have come to the same layer.
use Rattle.std.proofs.Common.{◌-◌, ◌≤◌}
use Rattle.state_learner.specs.Growing.{AreGrowing, layers_of}
use Rattle.state_learner.proofs.by_regions.grow_regions.Given as goal

abbrev pub invariant-loop-tiles : goal.invariant-loop-tiles
invariant-loop-tiles l = record {
  growing : AreGrowing l.t l.budget l.left (layers_of l.regions) 0 l.regions;
  within : l.left ≤ l.budget;
}

abbrev pub decreases-loop-tiles : goal.decreases-loop-tiles
decreases-loop-tiles l = l.budget - layers_of l.regions
