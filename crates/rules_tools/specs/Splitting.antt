-- Classes that are split, and what splits them.
use Rattle.std.specs.Prelude.{◌≡◌, ℕ, ◌<◌, List, length, Contains, Vec}
use Rattle.std.specs.declared.alloc.Global.{Global}
use Rattle.tile_model.specs.Tessellations.{TileKind}
use Rattle.tree_model.specs.Automata.{TreeAutomaton}
use Rattle.merge_model.specs.Telling.{AreTold}
use Rattle.rules_tools.specs.declared.parents.Parent.{Parent}
use Rattle.rules_tools.specs.declared.parents.Parents.{Parents}
use Rattle.rules_tools.specs.declared.splitting.Classes.{Classes}
use Rattle.rules_tools.specs.Keys.{class_of}
use Rattle.rules_tools.specs.Classes.{AreApart}
use Rattle.rules_tools.specs.Rows.{row}
use Rattle.rules_tools.specs.Parents.{HasParent, AreTrue, AreAll}

-- each state is among the members of its class
abbrev pub HasMembers : Classes → Type 0
HasMembers x =
    (s : ℕ) → s < length x.class.items
    → Contains (row x.members.items (class_of x.class.items s)) s

-- these are the parents of the states
pub record HasParents (a : TreeAutomaton) (p : Parents) : Type 0 where
  pub sound : AreTrue a p
  pub all : AreAll a p (length a.states)

-- classes of the states, with their members, which paths tell apart
pub record IsApart (kinds : List TileKind) (a : TreeAutomaton) (x : Classes) : Type 0 where
  pub long : length x.class.items ≡ length a.states
  pub members : HasMembers x
  pub apart : AreApart kinds a x.class.items

-- what rows hold stays
abbrev pub KeepsRows : List (Vec ℕ Global) → List (Vec ℕ Global) → Type 0
KeepsRows rows rows' = (i s : ℕ) → Contains (row rows i) s → Contains (row rows' i) s

-- row i has the parents at side i of the members of a class
pub record AreFound (x : Classes) (p : Parents) (number : ℕ) (found : List (Vec ℕ Global)) :
    Type 0 where
  pub sound :
      (i s : ℕ) → Contains (row found i) s
      → (u : ℕ) × (class_of x.class.items u ≡ number)
      × HasParent p u (record { state = s; side = i })
  pub all :
      (u : ℕ) (y : Parent) → Contains (row x.members.items number) u
      → class_of x.class.items u ≡ number → HasParent p u y → y.side < 64
      → Contains (row found y.side) y.state

-- Classes are cut into states that were found and the others: both keep together, the ones under
-- numbers of their own.
pub record IsCut (found class class' : List ℕ) : Type 0 where
  pub to : ℕ → ℕ
  pub these :
      (s : ℕ) → s < length class → Contains found s
      → class_of class' s ≡ to (class_of class s)
  pub others :
      (s : ℕ) → s < length class → (Contains found s → ⊥)
      → class_of class' s ≡ class_of class s

-- a path tells states that were found from others
abbrev pub Cuts : List TileKind → TreeAutomaton → List ℕ → Type 0
Cuts kinds a found =
    (s t : ℕ) → s < length a.states → t < length a.states
    → Contains found s → (Contains found t → ⊥) → AreTold kinds a s t
