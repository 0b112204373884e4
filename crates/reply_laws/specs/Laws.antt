-- What the replies come to, of histories and replies alone.
use Rattle.std.specs.Prelude.{◌≡◌, ◌↔◌, ℕ, ◌<◌, List, [], ◌∷◌, ◌++◌, length, Contains}
use Rattle.tile_model.specs.declared.Letter.{Letter}
use Rattle.tile_model.specs.Tessellations.{TileKind}
use Rattle.tile_model.specs.Relation.{AreRelated, AreAtSameTile, IsDistance}
use Rattle.tree_model.specs.Automata.{TreeAutomaton}
use Rattle.tree_model.specs.Names.{IsRing}
use Rattle.tree_model.specs.Positions.{Position}
use Rattle.tree_laws.specs.Laws.{IsShortestWay}
use Rattle.reply_model.specs.declared.Command.{Command}
use Rattle.reply_model.specs.declared.Command.TheVariants.{New, Go, At, Level, Path}
use Rattle.reply_model.specs.declared.Reply.{Reply}
use Rattle.reply_model.specs.declared.Reply.TheVariants.{At as AtPlace, Path as Along}
use Rattle.reply_model.specs.Histories.{History, AreDue, walk_of}
use Rattle.reply_model.specs.Readings.{Reading}
use Rattle.reply_model.specs.WalkReadings.{walk_reading, IsWalkReply}
use Rattle.reply_model.specs.TreeReadings.{tree_reading, IsTreeReply}

-- After each history, each command has exactly one reply.
pub record HaveOneReply (Due : History → Command → Reply → Type 0) : Type 0 where
  pub some : (history : History) (c : Command) → (x : Reply) × Due history c x
  pub one :
      (history : History) (c : Command) (x y : Reply) → Due history c x → Due history c y → x ≡ y

-- the command alone where it makes or moves a walker, else nothing
abbrev pub as_move : Command → List Command
as_move (New w) = New w ∷ []
as_move (Go w walk) = Go w walk ∷ []
as_move _ = []

-- the commands of a history that make or move walkers, in their order
abbrev pub moves : History → List Command
moves [] = []
moves (event ∷ history) = as_move event.0 ++ moves history

-- The command asks where one walker is: at which place, or at which distance from the root.
pub data AsksPlace : Command → Type 0 where
  asks_at : (w : ℕ) → AsksPlace (At w)
  asks_level : (w : ℕ) → AsksPlace (Level w)

-- Two histories may have the same commands that make and move walkers, in the same order, whatever
-- other commands come between. Then each reply that says where a walker is, and is due after one of
-- them, is due after the other.
abbrev pub InterleavingsAgree : (History → Command → Reply → Type 0) → Type 0
InterleavingsAgree Due =
    (history other : History)
    → AreDue Due history
    → AreDue Due other
    → moves history ≡ moves other
    → (c : Command) (x : Reply)
    → AsksPlace c
    → Due history c x
    → Due other c x

-- Two readings say the same, word by word, in the trees of the kinds of the tessellation.
pub record SayTheSame (kinds : List TileKind) (r s : Reading) : Type 0 where
  pub places :
      (k : ℕ) → k < length kinds → (u : List Letter) (p : Position)
      → r.HasPlace k u p ↔ s.HasPlace k u p
  pub tiles : (u w : List Letter) → r.AreTogether u w ↔ s.AreTogether u w
  pub distances : (u w : List Letter) (n : ℕ) → r.AreApart u w n ↔ s.AreApart u w n
  pub sizes : (d n : ℕ) → r.LieAway d n ↔ s.LieAway d n

module _ (kinds : List TileKind) (a : TreeAutomaton) (k : ℕ) where
  -- What the tree says and what walks say is the same.
  abbrev pub ReadingsAgree : Type 0
  ReadingsAgree = SayTheSame kinds (tree_reading kinds a k) (walk_reading kinds a k)

  -- So a reply is due by what the tree says exactly where it is due by what walks say.
  abbrev pub RepliesAgree : Type 0
  RepliesAgree =
      (history : History) (c : Command) (x : Reply)
      → IsTreeReply kinds a k history c x ↔ IsWalkReply kinds a k history c x

  -- Two replies to `at`, to whichever walkers after whichever histories, have one name exactly where
  -- the walks of the walkers are at the same tile.
  abbrev pub AnswersTellTiles : Type 0
  AnswersTellTiles =
      (history other : History) (w v : ℕ) (name name' : List ℕ) (spin spin' kind kind' : ℕ)
      → IsWalkReply kinds a k history (At w) (AtPlace name spin kind)
      → IsWalkReply kinds a k other (At v) (AtPlace name' spin' kind')
      → (name ≡ name') ↔ AreAtSameTile kinds (k, 0) (walk_of history w) (walk_of other v)

  -- And they have one name and one spin exactly where the walks are related.
  abbrev pub AnswersTellRelated : Type 0
  AnswersTellRelated =
      (history other : History) (w v : ℕ) (name name' : List ℕ) (spin spin' kind kind' : ℕ)
      → IsWalkReply kinds a k history (At w) (AtPlace name spin kind)
      → IsWalkReply kinds a k other (At v) (AtPlace name' spin' kind')
      → ((name ≡ name') × (spin ≡ spin'))
      ↔ AreRelated kinds (k, 0) (walk_of history w) (walk_of other v)

  -- The walk in a reply to `path` leads from the tile of the first walker to that of the second,
  -- with the least number of crossings.
  abbrev pub PathsAreShortest : Type 0
  PathsAreShortest =
      (history : History) (w v : ℕ) (way : List Letter)
      → IsWalkReply kinds a k history (Path w v) (Along way)
      → IsShortestWay kinds (k, 0) (walk_of history w) (walk_of history v) way

  -- The names that follow a reply to `ring` are those of the tiles at its distance: the name in a
  -- reply to `at` is one of ring d exactly where the walk of the walker lies d crossings away.
  abbrev pub RingsListTiles : Type 0
  RingsListTiles =
      (d : ℕ) (names : List (List ℕ)) (history : History) (w : ℕ) (name : List ℕ) (spin kind : ℕ)
      → IsRing kinds a k d names
      → IsWalkReply kinds a k history (At w) (AtPlace name spin kind)
      → Contains names name ↔ IsDistance kinds (k, 0) [] (walk_of history w) d
