-- The automaton in which states that no path tells apart are one, and of which state each state has
-- become a part.
use Rattle.std.specs.Prelude.{◌≡◌, ◌≢◌, ℕ, ◌<◌, List, length, map, slice_index_or, Option, Some, None}
use Rattle.tile_model.specs.Tessellations.{TileKind}
use Rattle.tree_model.specs.Automata.{TreeAutomaton, state_at}
use Rattle.tree_model.specs.Names.{IsName, state_of}
use Rattle.merge_model.specs.Faces.{with_children}
use Rattle.merge_model.specs.Telling.{AreTold, AreAlike}

-- State s is reachable: some name of some kind reaches it.
pub record IsReachable (kinds : List TileKind) (a : TreeAutomaton) (s : ℕ) : Type 0 where
  pub kind : ℕ
  pub is_kind : kind < length kinds
  pub name : List ℕ
  pub is_name : IsName kinds a kind name
  pub reaches : state_of a kind name ≡ s

-- the class of state s, by its number: None where the list has no number for s
unfoldable pub class_at : List (Option ℕ) → ℕ → Option ℕ
class_at classes s = slice_index_or classes s None

-- the number itself, 0 for None
abbrev pub number : Option ℕ → ℕ
number (Some m) = m
number None = 0

-- the number of the class of state s
abbrev pub class_number : List (Option ℕ) → ℕ → ℕ
class_number classes s = number (class_at classes s)

-- The list has the classes of the states, which are so many.
pub record AreClasses (kinds : List TileKind) (a : TreeAutomaton)
    (classes : List (Option ℕ)) (count : ℕ) : Type 0 where
  -- there is an entry for each state, None exactly where the state is not reachable
  pub entries : length classes ≡ length a.states
  pub on : (s m : ℕ) → class_at classes s ≡ Some m → IsReachable kinds a s
  pub off : (s : ℕ) → s < length a.states → class_at classes s ≡ None → ¬ (IsReachable kinds a s)
  -- two reachable states have one number exactly where no path tells them apart
  pub alike :
      (s t m : ℕ) → class_at classes s ≡ Some m → class_at classes t ≡ Some m → AreAlike kinds a s t
  pub told :
      (s t m n : ℕ) → class_at classes s ≡ Some m → class_at classes t ≡ Some n → m ≢ n
      → AreTold kinds a s t
  -- the numbers are those below the count
  pub known : (s m : ℕ) → class_at classes s ≡ Some m → m < count
  pub used : (m : ℕ) → m < count → (s : ℕ) × (class_at classes s ≡ Some m)
  -- in the order of the least state of each class: a lesser number has a state before
  pub ordered :
      (s m n : ℕ) → class_at classes s ≡ Some m → n < m
      → (t : ℕ) × (t < s) × (class_at classes t ≡ Some n)

-- Automaton b has a state for each class: that of any state of the class, with each Child replaced
-- by the class of that child. The roots are replaced likewise, and the corner types are those of a.
pub record IsReduced (a : TreeAutomaton) (classes : List (Option ℕ)) (b : TreeAutomaton) : Type 0
  where
    pub state :
        (s m : ℕ) → class_at classes s ≡ Some m
        → state_at b m ≡ with_children (class_number classes) (state_at a s)
    pub roots : b.roots ≡ map (class_number classes) a.roots
    pub corners : b.corners ≡ a.corners

-- Automaton b is a with the states merged that no path tells apart, and without those that the tree
-- does not reach.
pub record IsMerged (kinds : List TileKind) (a : TreeAutomaton)
    (classes : List (Option ℕ)) (b : TreeAutomaton) : Type 0 where
  pub classed : AreClasses kinds a classes (length b.states)
  pub reduced : IsReduced a classes b
