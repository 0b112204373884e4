-- A session that owns its rules, and the answers that wait to be taken.
use Rattle.std.specs.Prelude.{◌≡◌, ℕ, ◌≤◌, ◌-◌, ◌^◌, List, [], ◌∷◌, ◌++◌, length, take, drop, replicate, Option, Some, None, IsSome}
use Rattle.tile_model.specs.Tessellations.{TileKind}
use Rattle.tree_model.specs.Automata.{TreeAutomaton}
use Rattle.structure_check.specs.Rules.{TreeRules}
use Rattle.session_core.specs.Sessions.{SessionState, RestingState, session_over, IsSession, StandsForWalks}
use Rattle.line_server.specs.Lines.{LacksFeed, feed}
use Rattle.line_server.specs.Whole.{HasAnsweredWhole}

pub record SeatState : Type 0 where
  pub session : SessionState
  pub waiting : List ℕ

-- where the session rests, if it does
abbrev pub resting_of : Option RestingState → RestingState
resting_of None = record { kind = 0; walkers = []; texts = [] }
resting_of (Some resting) = resting

abbrev pub seat_of : TreeRules → Option RestingState → List ℕ → ℕ → SeatState
seat_of rules resting bytes given =
    record {
      session = session_over rules (resting_of resting);
      waiting = drop given bytes;
    }

-- What holds between two calls: the session rests, and no more was given than there was.
pub record IsSeat (rules : TreeRules) (resting : Option RestingState) (bytes : List ℕ) (given : ℕ) :
    Type 0 where
  pub rests : IsSome resting
  pub session : IsSession (session_over rules (resting_of resting))
  pub within : given ≤ length bytes

-- a session over these rules, in the tree of kind k, without walkers and texts, and nothing waits
pub record IsNew (kinds : List TileKind) (a : TreeAutomaton) (k : ℕ) (seat : SeatState) : Type 0 where
  pub stands : StandsForWalks seat.session []
  pub kinds_are : seat.session.rules.kinds ≡ kinds
  pub automaton_is : seat.session.rules.automaton ≡ a
  pub kind_is : seat.session.kind ≡ k
  pub empty : seat.waiting ≡ []

-- the line without the line feed that ends it, if one does
pub data IsLine (bytes : List ℕ) : List ℕ → Type 0 where
  bare : IsLine bytes bytes
  fed : (line : List ℕ) → bytes ≡ line ++ feed ∷ [] → IsLine bytes line

-- The session answered a line that was handed over, and the answer waits behind what waited.
pub record HasTold (old : SeatState) (bytes : List ℕ) (new : SeatState) : Type 0 where
  pub line : List ℕ
  pub is_line : IsLine bytes line
  pub whole : LacksFeed line
  pub answered : HasAnsweredWhole old.session line old.waiting new.session new.waiting

-- The first of what waited was put into the room, as much as fits, and no longer waits.
pub record HasGiven (old : SeatState) (room room' : List ℕ) (new : SeatState) (count : ℕ) :
    Type 0 where
  pub waited : count ≡ length old.waiting
  pub rest : new.waiting ≡ drop (length room) old.waiting
  pub put : room' ≡ take (length room) old.waiting ++ drop (length old.waiting) room
  pub session : new.session ≡ old.session

-- a text in a room: as much of it as fits, and zeros behind it
abbrev pub filled : List ℕ → List ℕ → List ℕ
filled room text = take (length room) text ++ replicate (length room - length text) 0

-- What becomes of a line that is handed over, by the number that is told: how many bytes waited
-- before the first of them were given, or 2^64 less a status of the program.
pub data HasAnswered (old : SeatState) (bytes room : List ℕ) (new : SeatState) (room' : List ℕ) :
    ℕ → Type 0 where
  answered :
      (between : SeatState) (count : ℕ)
      → HasTold old bytes between
      → HasGiven between room room' new count
      → HasAnswered old bytes room new room' count
  -- a line feed stands in it, and not at its end alone: `usage`
  no_line :
      ((line : List ℕ) → IsLine bytes line → LacksFeed line → ⊥)
      → new ≡ old
      → room' ≡ room
      → HasAnswered old bytes room new room' (2 ^ 64 - 2)
  -- there is no memory
  no_memory : new ≡ old → room' ≡ room → HasAnswered old bytes room new room' (2 ^ 64 - 11)
