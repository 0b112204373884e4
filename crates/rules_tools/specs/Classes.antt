-- Classes of states, by number, while they are refined.
use Rattle.std.specs.Prelude.{◌≡◌, ◌≢◌, ◌↔◌, ℕ, ◌<◌, List, length}
use Rattle.tile_model.specs.Tessellations.{TileKind}
use Rattle.tree_model.specs.declared.Rule.TheVariants.{Child}
use Rattle.tree_model.specs.Automata.{TreeAutomaton, rule_at, side_count}
use Rattle.tree_model.specs.Conditions.{IsAccepted}
use Rattle.tree_model.specs.Names.{child_of}
use Rattle.merge_model.specs.Faces.{face_at}
use Rattle.merge_model.specs.Telling.{AreTold}
use Rattle.rules_tools.specs.Keys.{class_of, key_of}

-- a path tells states of two classes apart
abbrev pub AreApart : List TileKind → TreeAutomaton → List ℕ → Type 0
AreApart kinds a class =
    (s t : ℕ) → s < length a.states → t < length a.states → class_of class s ≢ class_of class t
    → AreTold kinds a s t

-- states of one class have one face, and side by side children of one class
pub record AreStable (kinds : List TileKind) (a : TreeAutomaton) (class : List ℕ) : Type 0 where
  pub faces :
      (s t : ℕ) → s < length a.states → t < length a.states → class_of class s ≡ class_of class t
      → face_at a s ≡ face_at a t
  pub children :
      (s t i : ℕ) → s < length a.states → t < length a.states → class_of class s ≡ class_of class t
      → i < side_count kinds a s → rule_at a s i ≡ Child (child_of (rule_at a s i))
      → class_of class (child_of (rule_at a s i)) ≡ class_of class (child_of (rule_at a t i))

-- each number below the count is the class of some state
abbrev pub Uses : TreeAutomaton → List ℕ → ℕ → Type 0
Uses a class count =
    (m : ℕ) → m < count → (s : ℕ) × (s < length a.states) × (class_of class s ≡ m)

-- the classes are those of keys, numbered 0, 1, 2 and so on as states first have them
pub record AreByKey (a : TreeAutomaton) (before class : List ℕ) (count : ℕ) : Type 0 where
  pub long : length class ≡ length a.states
  pub one :
      (s t : ℕ) → s < length a.states → t < length a.states
      → (class_of class s ≡ class_of class t) ↔ (key_of a before s ≡ key_of a before t)
  pub first :
      (s m : ℕ) → s < length a.states → m < class_of class s
      → (t : ℕ) × (t < s) × (class_of class t ≡ m)
  pub known : (s : ℕ) → s < length a.states → class_of class s < count
  pub used : Uses a class count

-- classes by rounds from the classes `start`: those of the last round, by keys of those before
pub record IsSettling
    (a : TreeAutomaton) (start before class : List ℕ) (count more : ℕ) : Type 0
  where
    pub keys : AreByKey a before class more
    pub used : Uses a before count
    pub apart :
        (kinds : List TileKind) → IsAccepted kinds a
        → AreApart kinds a start → AreApart kinds a before

-- two states have one number exactly where they have one face
abbrev pub AreFaces : TreeAutomaton → List ℕ → Type 0
AreFaces a faces =
    (s t : ℕ) → s < length a.states → t < length a.states
    → (class_of faces s ≡ class_of faces t) ↔ (face_at a s ≡ face_at a t)
