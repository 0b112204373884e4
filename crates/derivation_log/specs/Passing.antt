-- Walks that pass a tile too far from the first one.
use Rattle.std.specs.Prelude.{◌≡◌, ℕ, ◌<◌, List, [], ◌++◌}
use Rattle.tile_model.specs.declared.Letter.{Letter}
use Rattle.tile_model.specs.Tessellations.{TileKind}
use Rattle.tile_model.specs.Relation.{IsDistance}
use Rattle.tree_model.specs.Limits.{deepest}

-- Some beginning of the walk from side 0 of kind k ends at a tile that lies more than 4,000
-- crossings from the first one.
pub record PassesFar (kinds : List TileKind) (k : ℕ) (walk : List Letter) : Type 0 where
  pub prefix : List Letter
  pub rest : List Letter
  pub split : walk ≡ prefix ++ rest
  pub distance : ℕ
  pub apart : IsDistance kinds (k, 0) [] prefix distance
  pub far : deepest < distance
