-- How many tiles there are, by walks alone.
use Rattle.std.specs.Prelude.{ℕ, List}
use Rattle.tile_model.specs.Tessellations.{TileKind}
use Rattle.tile_model.specs.TileCounts.{HaveTiles}

-- There are exactly n tiles: walks of any sort lead to n tiles.
abbrev pub HasTiles : List TileKind → ℕ × ℕ → ℕ → Type 0
HasTiles kinds d n = HaveTiles kinds d (λ _. Unit {0}) n
