-- What the outputs of streams come to.
use Rattle.std.specs.Prelude.{◌≡◌, ◌≢◌, ◌↔◌, ℕ, ◌≤◌, List, [], ◌∷◌, ◌++◌, length}
use Rattle.tile_model.specs.Tessellations.{TileKind}
use Rattle.tree_model.specs.Automata.{TreeAutomaton}
use Rattle.reply_model.specs.declared.Command.{Command}
use Rattle.reply_model.specs.Histories.{History, AreDue}
use Rattle.reply_laws.specs.Laws.{as_move, AsksPlace}
use Rattle.command_text.specs.CommandLines.{IsSpelling, most_of_line}
use Rattle.line_server.specs.Lines.{text_of, most_of_stream}
use Rattle.line_server.specs.Answering.{Answering, over_walks, over_tree}
use Rattle.line_server.specs.Outputs.{IsAnswered, AreAnswered, IsLinesOutput, IsOutput, IsFrontOutput}

-- the bytes begin with these
pub record Begins (bytes front : List ℕ) : Type 0 where
  pub rest : List ℕ
  pub all : bytes ≡ front ++ rest

-- the line is not too long, and its text spells the command
pub record Spells (line : List ℕ) (c : Command) : Type 0 where
  pub short : length line ≤ most_of_line
  pub spelling : IsSpelling (text_of line) c

-- The commands that make and move walkers among those that the lines spell, in their order.
pub data HaveMoves : List (List ℕ) → List Command → Type 0 where
  no_lines : HaveMoves [] []
  spells_one :
      (line : List ℕ) (lines : List (List ℕ)) (c : Command) (moves : List Command)
      → Spells line c
      → HaveMoves lines moves
      → HaveMoves (line ∷ lines) (as_move c ++ moves)
  spells_none :
      (line : List ℕ) (lines : List (List ℕ)) (moves : List Command)
      → ((c : Command) → ¬ (Spells line c))
      → HaveMoves lines moves
      → HaveMoves (line ∷ lines) moves

module _ (answering : Answering) where
  -- A stream has one output after a history, and leads to one history.
  pub record StreamsHaveOneOutput : Type 0 where
    pub some :
        (before : History) (bytes : List ℕ)
        → (out : List ℕ) × (after : History) × IsOutput answering before bytes out after
    pub one :
        (before : History) (bytes out other : List ℕ) (after another : History)
        → IsOutput answering before bytes out after
        → IsOutput answering before bytes other another
        → (out ≡ other) × (after ≡ another)

  -- What is written of a stream that ends early begins the output that the whole stream has.
  abbrev pub FrontsBegin : Type 0
  FrontsBegin =
      (before : History) (bytes front out : List ℕ) (after : History)
      → IsFrontOutput answering before bytes front
      → IsOutput answering before bytes out after
      → Begins out front

  -- Where the stream is over the limit, it begins the output of the lines that end within it.
  abbrev pub FrontsBeginWithinLimit : Type 0
  FrontsBeginWithinLimit =
      (before : History) (bytes first more front out : List ℕ) (after : History)
      → bytes ≡ first ++ more
      → length first ≡ most_of_stream
      → more ≢ []
      → IsFrontOutput answering before bytes front
      → IsLinesOutput answering before first out after
      → Begins out front

  -- The replies of the history that an output leads to are due, if those before were.
  abbrev pub HistoriesStayDue : Type 0
  HistoriesStayDue =
      (before : History) (bytes out : List ℕ) (after : History)
      → AreDue answering.IsDue before
      → IsOutput answering before bytes out after
      → AreDue answering.IsDue after

  -- Two streams may have the same lines that make and move walkers, in the same order, whatever
  -- other lines come between. Then two lines that ask where one walker is, each behind as many of
  -- these lines of its stream, have one answer.
  abbrev pub StreamsInterleave : Type 0
  StreamsInterleave =
      (lines others : List (List ℕ)) (moves : List Command)
      → HaveMoves lines moves
      → HaveMoves others moves
      → (answers replies : List ℕ) (after another : History)
      → AreAnswered answering [] lines answers after
      → AreAnswered answering [] others replies another
      → (c : Command) (line other answer reply : List ℕ) (next following : History)
      → AsksPlace c
      → Spells line c
      → Spells other c
      → IsAnswered answering after line (text_of line) answer next
      → IsAnswered answering another other (text_of other) reply following
      → answer ≡ reply

module _ (kinds : List TileKind) (a : TreeAutomaton) (k : ℕ) where
  -- All of this holds of the answers by what walks say.
  abbrev pub OutputsAreOne : Type 0
  OutputsAreOne = StreamsHaveOneOutput (over_walks kinds a k)

  abbrev pub FrontsBeginOutputs : Type 0
  FrontsBeginOutputs = FrontsBegin (over_walks kinds a k)

  abbrev pub FrontsBeginWhatIsWithin : Type 0
  FrontsBeginWhatIsWithin = FrontsBeginWithinLimit (over_walks kinds a k)

  abbrev pub OutputsLeadToDue : Type 0
  OutputsLeadToDue = HistoriesStayDue (over_walks kinds a k)

  abbrev pub InterleavingsHaveOneAnswer : Type 0
  InterleavingsHaveOneAnswer = StreamsInterleave (over_walks kinds a k)

  -- The output by what walks say is the output by what the tree says.
  abbrev pub OutputsAgree : Type 0
  OutputsAgree =
      (before : History) (bytes out : List ℕ) (after : History)
      → IsOutput (over_walks kinds a k) before bytes out after
      ↔ IsOutput (over_tree kinds a k) before bytes out after
