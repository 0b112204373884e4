-- The words of a reply that can be read in more than one way.
use Rattle.std.specs.Prelude.{ℕ, List}
use Rattle.tile_model.specs.declared.Letter.{Letter}
use Rattle.tree_model.specs.Positions.{Position}

-- A reading, for walks from side 0 of the root of one kind.
pub record Reading : Type 1 where
  -- in the tree of the kind, the position is the place of the walk from side 0 of its root
  pub HasPlace : ℕ → List Letter → Position → Type 0
  -- the two walks are at one tile
  pub AreTogether : List Letter → List Letter → Type 0
  -- the tile of the second walk is that many crossings away from that of the first
  pub AreApart : List Letter → List Letter → ℕ → Type 0
  -- so many tiles, the second number, lie so many crossings away from the root, the first
  pub LieAway : ℕ → ℕ → Type 0
