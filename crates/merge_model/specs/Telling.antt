-- Which states a path tells apart. A path is a list of sides. It can be walked from a state where it
-- is a name below that state: each side in turn is Child in the state reached.
use Rattle.std.specs.Prelude.{◌≡◌, ◌≢◌, ℕ, ◌<◌, ◌⊎◌, List, length}
use Rattle.tile_model.specs.Tessellations.{TileKind}
use Rattle.tree_model.specs.Automata.{TreeAutomaton}
use Rattle.tree_model.specs.Names.{reached, IsNameBelow, IsBefore}
use Rattle.merge_model.specs.Faces.{face_at}

-- Of two paths the one that comes first: the shorter one, and of two that are as long the one that
-- is before the other as names are.
abbrev pub ComesFirst : List ℕ → List ℕ → Type 0
ComesFirst path other =
    (length path < length other) ⊎ ((length path ≡ length other) × IsBefore path other)

module _ (kinds : List TileKind) (a : TreeAutomaton) (s t : ℕ) where
  -- The path tells the states s and t apart: it can be walked from both, and the faces of the states
  -- reached differ.
  pub record TellsApart (path : List ℕ) : Type 0 where
    pub from_first : IsNameBelow kinds a s path
    pub from_second : IsNameBelow kinds a t path
    pub differ : face_at a (reached a s path) ≢ face_at a (reached a t path)

  -- some path tells them apart
  abbrev pub AreTold : Type 0
  AreTold = (path : List ℕ) × TellsApart path

  -- No path tells them apart: whichever path can be walked from both, the faces of the states
  -- reached are one.
  abbrev pub AreAlike : Type 0
  AreAlike =
      (path : List ℕ) → IsNameBelow kinds a s path → IsNameBelow kinds a t path
      → face_at a (reached a s path) ≡ face_at a (reached a t path)

  -- the first of the paths that tell them apart
  pub record IsFirstTelling (path : List ℕ) : Type 0 where
    pub tells : TellsApart path
    pub first : (other : List ℕ) → TellsApart other → ¬ (ComesFirst other path)
