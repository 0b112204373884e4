-- The replies, read over walks.
-- The place of a walk is the one position whose word is related to it.
-- Walks are together, or so many crossings apart, by insertions and deletions of loops alone, and
-- so many tiles lie away from the root as walks tell apart.
use Rattle.std.specs.Prelude.{◌≡◌, ℕ, List}
use Rattle.tile_model.specs.declared.Letter.{Letter}
use Rattle.tile_model.specs.Tessellations.{TileKind}
use Rattle.tile_model.specs.Relation.{AreAtSameTile, IsDistance}
use Rattle.tile_model.specs.TileCounts.{LieAway}
use Rattle.tree_model.specs.Automata.{TreeAutomaton}
use Rattle.tree_model.specs.Positions.{Position}
use Rattle.tree_model.specs.Places.{IsPlace}
use Rattle.reply_model.specs.declared.Command.{Command}
use Rattle.reply_model.specs.declared.Reply.{Reply}
use Rattle.reply_model.specs.Histories.{History}
use Rattle.reply_model.specs.Readings.{Reading}
use Rattle.reply_model.specs.Replies.{IsReply}

-- p is the place of the walk u in the tree of kind k: it is a place of u, and no other position is
pub record IsThePlace
    (kinds : List TileKind) (a : TreeAutomaton) (k : ℕ) (u : List Letter) (p : Position) : Type 0
  where
    pub is_place : IsPlace kinds a k u p
    pub no_other : (q : Position) → IsPlace kinds a k u q → q ≡ p

abbrev pub walk_reading : List TileKind → TreeAutomaton → ℕ → Reading
walk_reading kinds a k = record {
  HasPlace = IsThePlace kinds a;
  AreTogether = AreAtSameTile kinds (k, 0);
  AreApart = IsDistance kinds (k, 0);
  LieAway = LieAway kinds (k, 0);
}

-- the reply, read over walks
abbrev pub IsWalkReply :
    List TileKind → TreeAutomaton → ℕ → History → Command → Reply → Type 0
IsWalkReply kinds a k history c x = IsReply kinds k (walk_reading kinds a k) history c x
