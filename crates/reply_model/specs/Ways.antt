-- Ways from the tile of one walk to that of another.
use Rattle.std.specs.Prelude.{ℕ, List, [], ◌∷◌, ◌++◌, replicate}
use Rattle.tile_model.specs.declared.Letter.{Letter}
use Rattle.tile_model.specs.declared.Letter.TheVariants.{L, R}
use Rattle.tile_model.specs.Tessellations.{TileKind}
use Rattle.tile_model.specs.Walks.{type_of, inverse}
use Rattle.tree_model.specs.Names.{word}

module _ (kinds : List TileKind) (k : ℕ) where
  -- the type of the side that the walk u faces at its end
  abbrev pub end_type : List Letter → ℕ × ℕ
  end_type u = type_of kinds (k, 0) u

  -- The way from the tile of u to that of w, read from the root of a tree of the kind of the tile of u:
  -- as many letters L as lead from side 0 to the side that u faces at its end, back along u, then w.
  abbrev pub way_between : List Letter → List Letter → List Letter
  way_between u w = replicate (end_type u).1 L ++ (inverse u ++ w)

-- The way along a name from a tile that is taken as the root, begun at a side of residue s:
-- nothing where the name is empty, else the turns back to side 0, and the word of the name.
abbrev pub way_along_name : ℕ → List ℕ → List Letter
way_along_name s [] = []
way_along_name s (i ∷ name) = replicate s R ++ word (i ∷ name)
