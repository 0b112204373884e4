-- Pairs of states to which one path leads from two states, gone through breadth first.
use Rattle.std.specs.Prelude.{◌≡◌, ℕ, suc, ◌+◌, ◌<◌, ◌≤◌, ◌⊎◌, List, [], ◌∷◌, ◌++◌, length, slice_index_or, Option}
use Rattle.tile_model.specs.Tessellations.{TileKind}
use Rattle.tree_model.specs.declared.Rule.TheVariants.{Child}
use Rattle.tree_model.specs.Automata.{TreeAutomaton, rule_at, side_count}
use Rattle.tree_model.specs.Names.{child_of, reached, IsNameBelow}
use Rattle.merge_model.specs.Faces.{face_at}
use Rattle.merge_model.specs.Telling.{ComesFirst}
use Rattle.rules_tools.specs.declared.pairs.Pair.{Pair}
use Rattle.rules_tools.specs.Joined.{Linked, AreLinks, AreFalling, set_count}

-- what stands for a pair that is not there
abbrev pub no_pair : Pair
no_pair = record { first = 0; second = 0; from = 0; side = 0 }

abbrev pub pair_at : List Pair → ℕ → Pair
pair_at queue j = slice_index_or queue j no_pair

abbrev pub path_at : List (List ℕ) → ℕ → List ℕ
path_at paths j = slice_index_or paths j []

-- a path does not come after another one
abbrev pub AtMost : List ℕ → List ℕ → Type 0
AtMost path other = (path ≡ other) ⊎ ComesFirst path other

-- x and y are a pair of the queue, with a path that does not come after the bound
pub record IsPairWithin (queue : List Pair) (paths : List (List ℕ)) (bound : List ℕ) (x y : ℕ) :
    Type 0 where
  pub entry : ℕ
  pub within : entry < length queue
  pub first : (pair_at queue entry).first ≡ x
  pub second : (pair_at queue entry).second ≡ y
  pub path : AtMost (path_at paths entry) bound

-- x and y are a pair of the queue
pub record IsPair (queue : List Pair) (x y : ℕ) : Type 0 where
  pub entry : ℕ
  pub within : entry < length queue
  pub first : (pair_at queue entry).first ≡ x
  pub second : (pair_at queue entry).second ≡ y

module _ (kinds : List TileKind) (a : TreeAutomaton) (s t : ℕ) where
  -- the path of entry j leads from s and t to its states, by its side from an entry before
  pub record IsEntry (queue : List Pair) (paths : List (List ℕ)) (j : ℕ) : Type 0 where
    pub first_below : IsNameBelow kinds a s (path_at paths j)
    pub second_below : IsNameBelow kinds a t (path_at paths j)
    pub first : reached a s (path_at paths j) ≡ (pair_at queue j).first
    pub second : reached a t (path_at paths j) ≡ (pair_at queue j).second
    pub step :
        (j ≡ 0)
        ⊎ (((pair_at queue j).from < j)
        × (path_at paths j
        ≡ path_at paths (pair_at queue j).from ++ (pair_at queue j).side ∷ []))

  -- the pairs stand in the order of their paths, the first with the empty one
  pub record ArePairs (queue : List Pair) (paths : List (List ℕ)) : Type 0 where
    pub long : length paths ≡ length queue
    pub some : 0 < length queue
    pub start : path_at paths 0 ≡ []
    pub start_first : (pair_at queue 0).first ≡ s
    pub start_second : (pair_at queue 0).second ≡ t
    pub each : (j : ℕ) → j < length queue → IsEntry queue paths j
    pub ordered :
        (i j : ℕ) → i < j → j < length queue → ComesFirst (path_at paths i) (path_at paths j)

  -- the children of the pair of entry j at side i are linked by pairs up to their path
  abbrev pub ChildrenLinked : List Pair → List (List ℕ) → ℕ → ℕ → Type 0
  ChildrenLinked queue paths j i =
      i < side_count kinds a (pair_at queue j).first
      → rule_at a (pair_at queue j).first i ≡ Child (child_of (rule_at a (pair_at queue j).first i))
      → Linked (IsPairWithin queue paths (path_at paths j ++ i ∷ []))
      (child_of (rule_at a (pair_at queue j).first i))
      (child_of (rule_at a (pair_at queue j).second i))

  -- The pairs before entry `next` were gone through, and of it the sides below `side`.
  pub record IsGoneThrough
      (above : List (Option ℕ)) (queue : List Pair) (next side : ℕ) : Type 0
    where
      pub paths : List (List ℕ)
      pub pairs : ArePairs queue paths
      pub long : length above ≡ length a.states
      pub falling : AreFalling above
      pub links : AreLinks (IsPair queue) above
      pub balance : set_count above + length queue ≤ suc (length a.states)
      pub small : (j : ℕ) → j < length queue → (pair_at queue j).side < 64
      pub faces :
          (j : ℕ) → j < next
          → face_at a (pair_at queue j).first ≡ face_at a (pair_at queue j).second
      pub passed : (j i : ℕ) → j < next → ChildrenLinked queue paths j i
      pub passing : (i : ℕ) → i < side → ChildrenLinked queue paths next i
      pub before :
          (j : ℕ) → 0 < j → j < length queue
          → ((pair_at queue j).from < next)
          ⊎ (((pair_at queue j).from ≡ next) × ((pair_at queue j).side < side))
