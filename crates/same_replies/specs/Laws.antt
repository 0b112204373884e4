-- The replies by two rules of one tessellation.
use Rattle.std.specs.Prelude.{◌↔◌, ℕ, ◌<◌, List, length}
use Rattle.tile_model.specs.Tessellations.{TileKind}
use Rattle.tile_model.specs.Validity.{IsValid}
use Rattle.tree_model.specs.Automata.{TreeAutomaton}
use Rattle.tree_model.specs.Conditions.{IsAccepted}
use Rattle.tree_model.specs.Names.{IsName}
use Rattle.reply_model.specs.declared.Command.{Command}
use Rattle.reply_model.specs.declared.Reply.{Reply}
use Rattle.reply_model.specs.Histories.{History}
use Rattle.reply_model.specs.WalkReadings.{IsWalkReply}
use Rattle.reply_model.specs.TreeReadings.{IsTreeReply}

module _ (kinds : List TileKind) (a b : TreeAutomaton) where
  -- the trees of each kind have the same names
  abbrev pub HaveOneTree : Type 0
  HaveOneTree =
      (k : ℕ) → k < length kinds → (name : List ℕ) → IsName kinds a k name ↔ IsName kinds b k name

  -- a reply is due by what the one tree says exactly where it is due by what the other says
  abbrev pub TreeRepliesStay : Type 0
  TreeRepliesStay =
      (k : ℕ) → k < length kinds → (history : History) (c : Command) (x : Reply)
      → IsTreeReply kinds a k history c x ↔ IsTreeReply kinds b k history c x

  -- and so it is over walks
  abbrev pub WalkRepliesStay : Type 0
  WalkRepliesStay =
      (k : ℕ) → k < length kinds → (history : History) (c : Command) (x : Reply)
      → IsWalkReply kinds a k history c x ↔ IsWalkReply kinds b k history c x

  -- both
  abbrev pub RepliesStay : Type 0
  RepliesStay = TreeRepliesStay × WalkRepliesStay

-- of two accepted rules of one tessellation whose trees have the same names
abbrev pub OfOneTree : (List TileKind → TreeAutomaton → TreeAutomaton → Type 0) → Type 0
OfOneTree P =
    (kinds : List TileKind) (a b : TreeAutomaton)
    → IsValid kinds → IsAccepted kinds a → IsAccepted kinds b → HaveOneTree kinds a b → P kinds a b
