-- The regions before this one have had their turn.
use Rattle.std.proofs.Common.{ℕ, ◌+◌, ◌<◌, ◌≤◌, suc, List, sum_by}
use Rattle.tile_model.specs.Tessellations.{TileKind}
use Rattle.state_learner.specs.Learning.{made}
use Rattle.state_learner.specs.Growing.{AreGrowing}
use Rattle.state_learner.proofs.rounds.grow_round.Given as goal

abbrev pub invariant-loop-region : goal.invariant-loop-region
invariant-loop-region l = record {
  room : sum_by made l.regions + l.left ≤ 1000000;
  growing : (tess : List TileKind) (budget layers : ℕ)
      → AreGrowing tess budget l.fn.left layers 0 l.fn.regions
      → AreGrowing tess budget l.left layers l.region-index l.regions;
  below : (tess : List TileKind) (budget layers : ℕ)
      → AreGrowing tess budget l.fn.left layers 0 l.fn.regions
      → 0 < l.region-index → suc layers < budget;
}
