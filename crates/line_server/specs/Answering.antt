-- What the answers to commands hang on: which reply a command has, and which text a reply has.
use Rattle.std.specs.Prelude.{◌≡◌, ◌≢◌, ℕ, List, [], ◌∷◌, ◌++◌, length}
use Rattle.tile_model.specs.Tessellations.{TileKind}
use Rattle.tree_model.specs.Automata.{TreeAutomaton}
use Rattle.tree_model.specs.Names.{IsRing}
use Rattle.cell_names.specs.Text.{name_text}
use Rattle.reply_model.specs.declared.Command.{Command}
use Rattle.reply_model.specs.declared.Reply.{Reply}
use Rattle.reply_model.specs.declared.Reply.TheVariants.{Tiles}
use Rattle.reply_model.specs.Histories.{History}
use Rattle.reply_model.specs.WalkReadings.{IsWalkReply}
use Rattle.reply_model.specs.TreeReadings.{IsTreeReply}
use Rattle.command_text.specs.Replies.{line_feed, reply_text}
use Rattle.session_core.specs.Sessions.{SessionState, IsSession}

pub record Answering : Type 1 where
  -- the reply is due to the command after the history
  pub IsDue : History → Command → Reply → Type 0
  -- the bytes are the text of the reply, with what ends its line
  pub HasText : Reply → List ℕ → Type 0

-- names, each as a line
abbrev pub name_lines : List (List ℕ) → List ℕ
name_lines [] = []
name_lines (name ∷ names) = (name_text name ++ line_feed) ++ name_lines names

-- In the tree of kind k, the text of the reply that ring d has so many tiles: its line, and behind it
-- the names of the ring, which are so many.
pub record IsRingText
    (kinds : List TileKind) (a : TreeAutomaton) (k d size : ℕ) (text : List ℕ) : Type 0
  where
    pub names : List (List ℕ)
    pub ring : IsRing kinds a k d names
    pub count : length names ≡ size
    pub all : text ≡ reply_text (Tiles d size) ++ name_lines names

-- The text of a reply in the tree of kind k: its line, and names behind it where it lists a ring.
abbrev pub IsReplyText : List TileKind → TreeAutomaton → ℕ → Reply → List ℕ → Type 0
IsReplyText kinds a k (Tiles d size) text = IsRingText kinds a k d size text
IsReplyText kinds a k x text = text ≡ reply_text x

-- The names that follow the line of a reply: those of the ring that it lists, or none.
pub data AreBehind (s : SessionState) : Reply → List (List ℕ) → Type 0 where
  listed :
      (d size : ℕ) (names : List (List ℕ))
      → IsSession s
      → IsRing s.rules.kinds s.rules.automaton s.kind d names
      → AreBehind s (Tiles d size) names
  not_listed : (x : Reply) → ((d size : ℕ) → x ≢ Tiles d size) → AreBehind s x []

-- answers by what walks say
abbrev pub over_walks : List TileKind → TreeAutomaton → ℕ → Answering
over_walks kinds a k = record { IsDue = IsWalkReply kinds a k; HasText = IsReplyText kinds a k }

-- answers by what the tree of the rules says
abbrev pub over_tree : List TileKind → TreeAutomaton → ℕ → Answering
over_tree kinds a k = record { IsDue = IsTreeReply kinds a k; HasText = IsReplyText kinds a k }
