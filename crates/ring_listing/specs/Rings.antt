-- The sizes of the rings of a kind, and which rings have more names than are counted.
use Rattle.std.specs.Prelude.{◌≡◌, ℕ, ◌<◌, ◌≤◌, List, length}
use Rattle.tile_model.specs.Tessellations.{TileKind}
use Rattle.tree_model.specs.Automata.{TreeAutomaton}
use Rattle.tree_model.specs.Names.{IsRing}
use Rattle.tree_model.specs.Limits.{most_counted}
use Rattle.structure_check.specs.Rules.{TreeRules}

module _ (kinds : List TileKind) (a : TreeAutomaton) (k : ℕ) where
  -- ring d has n names
  pub record HasSize (d n : ℕ) : Type 0 where
    pub names : List (List ℕ)
    pub ring : IsRing kinds a k d names
    pub count : length names ≡ n

  -- ring d has more names than are counted
  pub record IsTooBigRing (d : ℕ) : Type 0 where
    pub size : ℕ
    pub has : HasSize d size
    pub big : most_counted < size

  -- of the rings up to d, r is the first that is too big
  pub record IsFirstTooBigRing (d r : ℕ) : Type 0 where
    pub within : r ≤ d
    pub big : IsTooBigRing r
    pub first : (q : ℕ) → q < r → ¬ (IsTooBigRing q)

  -- No ring up to d is too big, and ring d has n names.
  pub record RingsAreCounted (d n : ℕ) : Type 0 where
    pub none_big : (r : ℕ) → r ≤ d → ¬ (IsTooBigRing r)
    pub has : HasSize d n

-- the tree of one kind: rules, and the kind of its root
pub record KindTree : Type 0 where
  pub rules : TreeRules
  pub kind : ℕ

-- A ring that is listed: its tree, the number of sides of its names, and the names that are still to
-- be given, in order.
pub record Listing : Type 0 where
  pub rules : TreeRules
  pub kind : ℕ
  pub sides : ℕ
  pub rest : List (List ℕ)
