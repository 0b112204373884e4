-- The tree of accepted rules never ends, so that no tessellation with finitely many tiles has any.
use Rattle.std.specs.Prelude.{◌≡◌, ℕ, ◌<◌, ◌≤◌, List, [], length}
use Rattle.tile_model.specs.declared.Letter.{Letter}
use Rattle.tile_model.specs.Tessellations.{TileKind}
use Rattle.tile_model.specs.Validity.{IsValid}
use Rattle.tile_model.specs.Relation.{IsDistance}
use Rattle.tile_model.specs.TileCounts.{HaveTiles}
use Rattle.tree_model.specs.Automata.{TreeAutomaton}
use Rattle.tree_model.specs.Conditions.{IsAccepted}
use Rattle.tree_model.specs.Names.{IsName, IsRing}

-- Walks from side 0 of kind k lead to exactly n tiles.
abbrev pub LeadToTiles : List TileKind → ℕ → ℕ → Type 0
LeadToTiles kinds k n = HaveTiles kinds (k, 0) (λ _. Unit {0}) n

module _ (kinds : List TileKind) (a : TreeAutomaton) (k : ℕ) where
  -- The tree has names of each length.
  abbrev pub NamesGoOn : Type 0
  NamesGoOn = (n : ℕ) → (name : List ℕ) × IsName kinds a k name × (length name ≡ n)

  -- No ring is empty.
  abbrev pub RingsAreInhabited : Type 0
  RingsAreInhabited =
      (d : ℕ) (ring : List (List ℕ)) → IsRing kinds a k d ring → 1 ≤ length ring

  -- A walk leads to each distance from the root.
  abbrev pub DistancesAreReached : Type 0
  DistancesAreReached = (d : ℕ) → (u : List Letter) × IsDistance kinds (k, 0) [] u d

  -- No number is that of the tiles.
  abbrev pub TilesNeverEnd : Type 0
  TilesNeverEnd = (n : ℕ) → ¬ (LeadToTiles kinds k n)

-- Where walks from some kind lead to finitely many tiles no rules are accepted.
abbrev pub ClosedHaveNoRules : Type 0
ClosedHaveNoRules =
    (kinds : List TileKind) (k n : ℕ) → IsValid kinds → k < length kinds → LeadToTiles kinds k n →
    (a : TreeAutomaton) → ¬ (IsAccepted kinds a)
