-- Sessions: walkers and texts in the tree of a kind, and the histories that a session stands for.
use Rattle.std.specs.Prelude.{◌≡◌, ℕ, ◌<◌, ◌≤◌, ◌↔◌, nat_eq, List, length, slice_index_or, Contains}
use Rattle.std.specs.Cmp.Lexicographic.{pointwise}
use Rattle.std.specs.List.{IsDistinct}
use Rattle.std.specs.Prelude.{Option, None, Some, IsSome}
use Rattle.tile_model.specs.declared.Letter.{Letter}
use Rattle.tree_model.specs.Limits.{deepest}
use Rattle.tree_model.specs.Positions.{Position}
use Rattle.structure_check.specs.Rules.{TreeRules, AreSound}
use Rattle.turn_rules.specs.Spots.{TreeSpot, IsSpot, position, root_kind}
use Rattle.reply_model.specs.declared.Command.{Command}
use Rattle.lazy_map.specs.Texts.{Texts, text_under}
use Rattle.ring_listing.specs.Rings.{KindTree}
use Rattle.reply_model.specs.declared.Command.TheVariants.{New, Go, At, Same, Level, Dist, Path}
use Rattle.reply_model.specs.declared.Command.TheVariants.{Put, Get, Ring, Count}
use Rattle.reply_model.specs.declared.Reply.{Reply}
use Rattle.reply_model.specs.Histories.{History, most_walkers, AreDue, Exists, walk_of}
use Rattle.reply_model.specs.Readings.{Reading}
use Rattle.reply_model.specs.Replies.{IsReply}
use Rattle.reply_model.specs.Texts.{IsLastText, IsBlank}
use Rattle.reply_model.specs.WalkReadings.{walk_reading}
use Rattle.reply_model.specs.TreeReadings.{tree_reading}

-- the rules, the kind of the root, for each walker that there is its spot, and the texts on tiles
pub record SessionState : Type 0 where
  pub rules : TreeRules
  pub kind : ℕ
  pub walkers : List (Option TreeSpot)
  pub texts : Texts

-- what a session keeps while it has no rules
pub record RestingState : Type 0 where
  pub kind : ℕ
  pub walkers : List (Option TreeSpot)
  pub texts : Texts

-- the session that goes on from there over these rules
abbrev pub session_over : TreeRules → RestingState → SessionState
session_over rules resting =
    record {
      rules = rules;
      kind = resting.kind;
      walkers = resting.walkers;
      texts = resting.texts;
    }

-- the spot of walker w, if there is this walker
abbrev pub walker_at : SessionState → ℕ → Option TreeSpot
walker_at session w = slice_index_or session.walkers w None

-- a spot of these rules, in the tree of kind k, that does not lie too deep
pub record IsWalker (rules : TreeRules) (k : ℕ) (s : TreeSpot) : Type 0 where
  pub spot : IsSpot rules s
  pub tree : root_kind rules s ≡ k
  pub near : length s.name ≤ deepest

-- What holds of every session: its rules are accepted, its kind is one of theirs, there are as many
-- places as walkers, and the walkers have spots in the tree of this kind.
pub record IsSession (session : SessionState) : Type 0 where
  pub sound : AreSound session.rules
  pub known : session.kind < length session.rules.kinds
  pub places : length session.walkers ≡ most_walkers
  pub spots :
      (w : ℕ) (s : TreeSpot) → walker_at session w ≡ Some s → IsWalker session.rules session.kind s

-- The rings whose sizes a session has counted are those of its tree.
pub record HasItsRings (s : SessionState) (rings : KindTree) : Type 0 where
  pub session : IsSession s
  pub rules : rings.rules ≡ s.rules
  pub kind : rings.kind ≡ s.kind

-- The numbers of walkers in the command are such numbers.
abbrev pub HasNumbers : Command → Type 0
HasNumbers (New w) = w < most_walkers
HasNumbers (Go w walk) = w < most_walkers
HasNumbers (At w) = w < most_walkers
HasNumbers (Same w v) = (w < most_walkers) × (v < most_walkers)
HasNumbers (Level w) = w < most_walkers
HasNumbers (Dist w v) = (w < most_walkers) × (v < most_walkers)
HasNumbers (Path w v) = (w < most_walkers) × (v < most_walkers)
HasNumbers (Put w text) = w < most_walkers
HasNumbers (Get w) = w < most_walkers
HasNumbers (Ring d) = Unit {0}
HasNumbers (Count d) = Unit {0}

-- What is kept for the tile of the walk u is what was last written there, and nothing is kept where
-- nothing was.
abbrev pub IsKept : Reading → History → List Letter → Option (List ℕ) → Type 0
IsKept reading history u None = IsBlank reading history u
IsKept reading history u (Some text) = IsLastText reading history u text

-- the name is that of a tile: of the place of a walk
pub record IsTileName (reading : Reading) (k : ℕ) (name : List ℕ) : Type 0 where
  pub walk : List Letter
  pub place : Position
  pub placed : reading.HasPlace k walk place
  pub named : place.name ≡ name

-- By a reading, so many tiles have a text after the history: their names can be listed, each once,
-- and the name of a tile is among them exactly where something was written on it.
pub record HaveTexts (reading : Reading) (k : ℕ) (history : History) (n : ℕ) : Type 0 where
  pub listed : List (List ℕ)
  pub count : length listed ≡ n
  pub once : IsDistinct (pointwise nat_eq) listed
  pub of_tiles : (name : List ℕ) → Contains listed name → IsTileName reading k name
  pub some :
      (u : List Letter) (p : Position)
      → reading.HasPlace k u p
      → Contains listed p.name
      → ¬ IsBlank reading history u
  pub all :
      (u : List Letter) (p : Position)
      → reading.HasPlace k u p
      → ¬ IsBlank reading history u
      → Contains listed p.name

-- By a reading of the words of a reply, a session stands for a history: the replies in it are due,
-- there is a spot for exactly the walkers that exist after it, the spot of each is the place of its
-- walk, under the name of each tile its text is kept, and under other names none is.
pub record Stands (reading : Reading) (session : SessionState) (history : History) : Type 0 where
  pub replies : AreDue (IsReply session.rules.kinds session.kind reading) history
  pub walkers : (w : ℕ) → IsSome (walker_at session w) ↔ Exists history w
  pub spots :
      (w : ℕ) (s : TreeSpot)
      → walker_at session w ≡ Some s
      → reading.HasPlace session.kind (walk_of history w) (position s)
  pub texts :
      (u : List Letter) (p : Position)
      → reading.HasPlace session.kind u p
      → IsKept reading history u (text_under session.texts p.name)
  pub names :
      (name : List ℕ)
      → IsSome (text_under session.texts name)
      → IsTileName reading session.kind name

-- The two readings, for the tree of this session.
abbrev pub session_over_walks : SessionState → Reading
session_over_walks session = walk_reading session.rules.kinds session.rules.automaton session.kind

abbrev pub session_over_tree : SessionState → Reading
session_over_tree session = tree_reading session.rules.kinds session.rules.automaton session.kind

-- The session stands for the history, by what walks say and by what the tree says.
abbrev pub StandsForWalks : SessionState → History → Type 0
StandsForWalks session = Stands (session_over_walks session) session

abbrev pub StandsFor : SessionState → History → Type 0
StandsFor session = Stands (session_over_tree session) session

-- The reply is due to the command after the history, by what walks say and by what the tree says.
abbrev pub IsDueOverWalks : SessionState → History → Command → Reply → Type 0
IsDueOverWalks session = IsReply session.rules.kinds session.kind (session_over_walks session)

abbrev pub IsDueOverTree : SessionState → History → Command → Reply → Type 0
IsDueOverTree session = IsReply session.rules.kinds session.kind (session_over_tree session)

-- What walks say of the session is what the tree says.
pub record AreReadAlike (session : SessionState) : Type 0 where
  pub stands : (history : History) → StandsForWalks session history ↔ StandsFor session history
  pub due :
      (history : History) (c : Command) (x : Reply)
      → IsDueOverWalks session history c x ↔ IsDueOverTree session history c x
