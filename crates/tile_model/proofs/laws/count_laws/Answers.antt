use Rattle.std.specs.Prelude.{[]}
use Rattle.tile_model.specs.Relation.{IsDistance}
use Rattle.tile_model.proofs.TileCounts.{one_count}
use Rattle.tile_model.proofs.laws.count_laws.Goals as goal

pub returns : goal.returns
returns c = record {
  one =
      λ kinds valid d is_type crossings m n h g.
      one_count kinds valid d is_type (λ u. IsDistance kinds d [] u crossings) m n h g;
}
