-- What merging comes to. Each law speaks of every tessellation, of all rules that are accepted for
-- it, and of each merging of them.
use Rattle.std.specs.Prelude.{◌≡◌, ◌≢◌, ◌↔◌, ℕ, ◌<◌, List, length, Option, Some}
use Rattle.tile_model.specs.declared.Letter.{Letter}
use Rattle.tile_model.specs.Tessellations.{TileKind}
use Rattle.tile_model.specs.Validity.{IsValid}
use Rattle.tree_model.specs.Automata.{TreeAutomaton}
use Rattle.tree_model.specs.Conditions.{IsAccepted}
use Rattle.tree_model.specs.Names.{IsName, state_of}
use Rattle.tree_model.specs.Positions.{Position}
use Rattle.tree_model.specs.Places.{IsPlace}
use Rattle.merge_model.specs.Telling.{TellsApart, AreTold}
use Rattle.merge_model.specs.Merging.{class_at, IsMerged}

-- of each merging of rules that are accepted
abbrev pub OfEachMerging :
    (List TileKind → TreeAutomaton → List (Option ℕ) → TreeAutomaton → Type 0) → Type 0
OfEachMerging P =
    (kinds : List TileKind) (a : TreeAutomaton) (classes : List (Option ℕ)) (b : TreeAutomaton)
    → IsValid kinds → IsAccepted kinds a → IsMerged kinds a classes b → P kinds a classes b

module _
    (kinds : List TileKind) (a : TreeAutomaton) (classes : List (Option ℕ)) (b : TreeAutomaton)
  where
    -- the merged automaton meets the twelve conditions
    abbrev pub MergedIsAccepted : Type 0
    MergedIsAccepted = IsAccepted kinds b

    -- the trees have the names that they had
    abbrev pub NamesStay : Type 0
    NamesStay =
        (k : ℕ) → k < length kinds → (name : List ℕ)
        → IsName kinds a k name ↔ IsName kinds b k name

    -- the state that a name reaches is the class of the state that it reached
    abbrev pub StatesAreClasses : Type 0
    StatesAreClasses =
        (k : ℕ) → k < length kinds → (name : List ℕ) → IsName kinds a k name
        → class_at classes (state_of a k name) ≡ Some (state_of b k name)

    -- a position is a place of a walk where it was one
    abbrev pub PlacesStay : Type 0
    PlacesStay =
        (k : ℕ) → k < length kinds → (u : List Letter) (p : Position)
        → IsPlace kinds a k u p ↔ IsPlace kinds b k u p

    -- a path tells any two states of the merged automaton apart
    abbrev pub StatesAreTold : Type 0
    StatesAreTold =
        (m n : ℕ) → m < length b.states → n < length b.states → m ≢ n → AreTold kinds b m n

    -- two states of classes m and n are of one class exactly where no path tells them apart
    abbrev pub ClassesAreExact : Type 0
    ClassesAreExact =
        (s t m n : ℕ) → class_at classes s ≡ Some m → class_at classes t ≡ Some n
        → (m ≡ n) ↔ ((path : List ℕ) → ¬ (TellsApart kinds a s t path))

    -- there is no other merging
    abbrev pub MergingIsOne : Type 0
    MergingIsOne =
        (classes' : List (Option ℕ)) (b' : TreeAutomaton) → IsMerged kinds a classes' b'
        → (classes' ≡ classes) × (b' ≡ b)
