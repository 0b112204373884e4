-- The readers of regions, and the tables that are read with all of them.
use Rattle.std.specs.Prelude.{◌≡◌, ℕ, ◌+◌, ◌<◌, ◌≤◌, List, map, length, slice_index_or, Option, None, Some}
use Rattle.std.specs.Option.{option_map}
use Rattle.tree_model.specs.Automata.{TreeState, CornerType, TreeAutomaton, no_state, no_corner}
use Rattle.look_classes.specs.Numbers.{entry}
use Rattle.look_classes.specs.Classes.{ClassLists, AreClasses}
use Rattle.look_classes.specs.States.{LooksState}
use Rattle.state_candidates.specs.Reading.{IsFirstWith}
use Rattle.state_candidates.specs.Candidates.{no_region, no_lists, lists_at, looks_at, states_before, corners_before, IsReadOff}
use Rattle.state_candidates.specs.Readers.{ReaderState, IsReader, IsLacking, state_read, corner_read, tables_of}

-- what stands for a reader that is not there
abbrev pub no_reader : ReaderState
no_reader = record {
  region = no_region;
  horizon = 0;
  lists = no_lists;
  first_state = 0;
  first_corner = 0;
}

abbrev pub reader_at : List ReaderState → ℕ → ReaderState
reader_at readers k = slice_index_or readers k no_reader

abbrev pub lists_of : List ReaderState → List ClassLists
lists_of readers = map (λ v. v.lists) readers

-- reader k: its states and corner types come behind those of the readers before it
pub record IsReaderAt (readers : List ReaderState) (k : ℕ) : Type 0 where
  pub reader : IsReader (reader_at readers k)
  pub first_state : (reader_at readers k).first_state ≡ states_before (lists_of readers) k
  pub first_corner : (reader_at readers k).first_corner ≡ corners_before (lists_of readers) k

abbrev pub AreReaders : List ReaderState → Type 0
AreReaders readers = (k : ℕ) → k < length readers → IsReaderAt readers k

-- The readers are those of the first of the looks, as many as there are.
pub record AreReadersOf (looks : List LooksState) (readers : List ReaderState) : Type 0 where
  pub readers_ok : AreReaders readers
  pub region : (k : ℕ) → k < length readers
      → (reader_at readers k).region ≡ (looks_at looks k).region
  pub horizon : (k : ℕ) → k < length readers
      → (reader_at readers k).horizon ≡ (looks_at looks k).horizon

-- the classes of each of the looks
pub record AreClassesOf (looks : List LooksState) (lists : List ClassLists) : Type 0 where
  pub long : length lists ≡ length looks
  pub each : (k : ℕ) → k < length looks
      → AreClasses (looks_at looks k).horizon (looks_at looks k).region (lists_at lists k)

-- there are more than 100,000 states or 20,000 corner types
abbrev pub HasTooMany : List LooksState → Type 0
HasTooMany looks = (lists : List ClassLists) → AreClassesOf looks lists
    → states_before lists (length looks) ≤ 100000
    → corners_before lists (length looks) ≤ 20000 → ⊥

-- What is read off the first entry with each number of each of the first n readers stands in a
-- list, from the first number of the reader on.
pub record HaveRead {A B : Type 0} (numbers : ℕ → List (Option ℕ)) (of : ℕ → ℕ → Option B)
    (show : A → B) (first : ℕ → ℕ) (none : A) (list : List A) (n : ℕ) : Type 0 where
  pub long : length list ≡ first n
  pub each : (k m i : ℕ) → k < n → IsFirstWith (numbers k) m i
      → of k i ≡ Some (show (slice_index_or list (first k + m) none))

abbrev pub HaveStates : List ReaderState → List TreeState → ℕ → Type 0
HaveStates readers states n = HaveRead
    (λ k. (reader_at readers k).lists.cells)
    (λ k. state_read (reader_at readers k))
    (λ s. s) (states_before (lists_of readers)) no_state states n

abbrev pub HaveCorners : List ReaderState → List CornerType → ℕ → Type 0
HaveCorners readers corners n = HaveRead
    (λ k. (reader_at readers k).lists.corners)
    (λ k. corner_read (reader_at readers k))
    tables_of (corners_before (lists_of readers)) no_corner corners n

-- the root of each of the first n readers: the state of its cell 0
abbrev pub root_read : ReaderState → Option ℕ
root_read v = option_map (λ m. v.first_state + m) (entry v.lists.cells 0)

pub record HaveRoots (readers : List ReaderState) (roots : List ℕ) (n : ℕ) : Type 0 where
  pub long : length roots ≡ n
  pub each : (k : ℕ) → k < n
      → root_read (reader_at readers k) ≡ Some (slice_index_or roots k 0)

-- something is not there that some reader is to read
pub record Lacks (readers : List ReaderState) (P : ReaderState → Type 0) : Type 0 where
  pub number : ℕ
  pub within : number < length readers
  pub lacking : P (reader_at readers number)

abbrev pub LackStates : List ReaderState → Type 0
LackStates readers = Lacks readers (λ v. IsLacking v.lists.cells (state_read v))

abbrev pub LackCorners : List ReaderState → Type 0
LackCorners readers = Lacks readers (λ v. IsLacking v.lists.corners (corner_read v))

abbrev pub LackRoots : List ReaderState → Type 0
LackRoots readers = Lacks readers (λ v. root_read v ≡ None)

-- An automaton is read with readers, as many as there are kinds.
pub record IsAssembled (readers : List ReaderState) (a : TreeAutomaton) : Type 0 where
  pub read : (k : ℕ) → k < length readers
      → IsReadOff (reader_at readers k).region (reader_at readers k).lists
      (reader_at readers k).first_state (reader_at readers k).first_corner k a
  pub state_count : length a.states ≡ states_before (lists_of readers) (length readers)
  pub corner_count : length a.corners ≡ corners_before (lists_of readers) (length readers)
  pub root_count : length a.roots ≡ length readers
