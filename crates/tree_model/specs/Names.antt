-- The tree that an automaton generates: names of tiles, the states that they reach, their words,
-- and the rings of names.
use Rattle.std.specs.Prelude.{◌≡◌, ℕ, ◌<◌, ◌↔◌, List, [], ◌∷◌, ◌++◌, length, replicate, Contains, AllPairs}
use Rattle.tile_model.specs.declared.Letter.{Letter}
use Rattle.tile_model.specs.declared.Letter.TheVariants.{L, X}
use Rattle.tile_model.specs.Tessellations.{TileKind}
use Rattle.tree_model.specs.declared.Rule.{Rule}
use Rattle.tree_model.specs.declared.Rule.TheVariants.{Child}
use Rattle.tree_model.specs.Automata.{TreeAutomaton, rule_at, root_at, side_count}

-- the state of the child that a Child side leads to
abbrev pub child_of : Rule → ℕ
child_of (Child c) = c
child_of _ = 0

-- the state that is reached from state s by a list of child sides
abbrev pub reached : TreeAutomaton → ℕ → List ℕ → ℕ
reached a s [] = s
reached a s (i ∷ name) = reached a (child_of (rule_at a s i)) name

-- The list is a name below state s: each side in turn is Child in the state reached.
abbrev pub IsNameBelow : List TileKind → TreeAutomaton → ℕ → List ℕ → Type 0
IsNameBelow kinds a s [] = Unit {0}
IsNameBelow kinds a s (i ∷ name) =
    (i < side_count kinds a s) × (rule_at a s i ≡ Child (child_of (rule_at a s i)))
    × IsNameBelow kinds a (child_of (rule_at a s i)) name

-- a name in the tree of kind k
abbrev pub IsName : List TileKind → TreeAutomaton → ℕ → List ℕ → Type 0
IsName kinds a k name = IsNameBelow kinds a (root_at a k) name

-- the state of the tile of a name in the tree of kind k
abbrev pub state_of : TreeAutomaton → ℕ → List ℕ → ℕ
state_of a k name = reached a (root_at a k) name

-- the word of a name: for each side of it that many letters L, and then X
abbrev pub word : List ℕ → List Letter
word [] = []
word (i ∷ name) = replicate i L ++ X ∷ word name

-- the order of names, which is that of lists
pub data IsBefore : List ℕ → List ℕ → Type 0 where
  shorter : (i : ℕ) (name : List ℕ) → IsBefore [] (i ∷ name)
  smaller : (i j : ℕ) (m n : List ℕ) → i < j → IsBefore (i ∷ m) (j ∷ n)
  later : (i : ℕ) (m n : List ℕ) → IsBefore m n → IsBefore (i ∷ m) (i ∷ n)

-- Ring d of kind k: the list, in the order of names, of all names of length d in the tree of k.
pub record IsRing (kinds : List TileKind) (a : TreeAutomaton) (k d : ℕ)
    (names : List (List ℕ)) : Type 0 where
  pub ordered : AllPairs IsBefore names
  pub members : (name : List ℕ) → Contains names name ↔ (IsName kinds a k name × (length name ≡ d))
