-- The place of a walk: a position whose word is related to the walk.
use Rattle.std.specs.Prelude.{ℕ, List, ◌++◌, replicate}
use Rattle.tile_model.specs.declared.Letter.{Letter}
use Rattle.tile_model.specs.declared.Letter.TheVariants.{L}
use Rattle.tile_model.specs.Tessellations.{TileKind}
use Rattle.tile_model.specs.Relation.{AreRelated}
use Rattle.tree_model.specs.Automata.{TreeAutomaton}
use Rattle.tree_model.specs.Names.{word}
use Rattle.tree_model.specs.Positions.{Position, IsPosition}

-- the word of a position: that of its name, and then as many letters L as its side has in number
abbrev pub position_word : Position → List Letter
position_word p = word p.name ++ replicate p.side L

-- p is a place of the walk u from side 0 of kind k
pub record IsPlace (kinds : List TileKind) (a : TreeAutomaton) (k : ℕ)
    (u : List Letter) (p : Position) : Type 0 where
  pub position : IsPosition kinds a k p
  pub related : AreRelated kinds (k, 0) (position_word p) u
