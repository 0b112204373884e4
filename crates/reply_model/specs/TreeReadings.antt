-- The replies, read over the tree: the place of a walk is the position that it leads to, letter by
-- letter, and names tell which walks are together, how far apart they are, and how many tiles there
-- are.
use Rattle.std.specs.Prelude.{◌≡◌, ℕ, List, length}
use Rattle.tile_model.specs.declared.Letter.{Letter}
use Rattle.tile_model.specs.Tessellations.{TileKind}
use Rattle.tree_model.specs.Automata.{TreeAutomaton}
use Rattle.tree_model.specs.Names.{IsRing}
use Rattle.tree_model.specs.Positions.{Position, root, Leads}
use Rattle.reply_model.specs.declared.Command.{Command}
use Rattle.reply_model.specs.declared.Reply.{Reply}
use Rattle.reply_model.specs.Histories.{History}
use Rattle.reply_model.specs.Readings.{Reading}
use Rattle.reply_model.specs.Ways.{end_type, way_between}
use Rattle.reply_model.specs.Replies.{IsReply}

module _ (kinds : List TileKind) (a : TreeAutomaton) where
  -- in the tree of kind k, the walk leads to the position from side 0 of the root
  abbrev pub LeadsTo : ℕ → List Letter → Position → Type 0
  LeadsTo k u p = Leads kinds a k root u p

  module _ (k : ℕ) where
    -- the two walks lead to one name
    pub record LeadToOneName (u w : List Letter) : Type 0 where
      pub first : Position
      pub second : Position
      pub first_led : LeadsTo k u first
      pub second_led : LeadsTo k w second
      pub one_name : first.name ≡ second.name

    -- In the tree whose root is the tile of u, the way from there to the tile of w leads to a name of
    -- n sides.
    pub record LeadsApart (u w : List Letter) (n : ℕ) : Type 0 where
      pub place : Position
      pub led : LeadsTo (end_type kinds k u).0 (way_between kinds k u w) place
      pub sides : length place.name ≡ n

    -- ring d has n names
    pub record RingHasNames (d n : ℕ) : Type 0 where
      pub names : List (List ℕ)
      pub ring : IsRing kinds a k d names
      pub count : length names ≡ n

    abbrev pub tree_reading : Reading
    tree_reading = record {
      HasPlace = LeadsTo;
      AreTogether = LeadToOneName;
      AreApart = LeadsApart;
      LieAway = RingHasNames;
    }

    -- the reply, read over the tree
    abbrev pub IsTreeReply : History → Command → Reply → Type 0
    IsTreeReply history c x = IsReply kinds k tree_reading history c x
