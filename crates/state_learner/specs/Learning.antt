-- What the learner answers: rules of the tessellation handed in, or a cause.
use Rattle.std.specs.Prelude.{◌≡◌, ℕ, suc, ◌<◌, ◌≤◌, min, List, length, sum_by, slice_get, Some, ⊤}
use Rattle.tile_model.specs.Tessellations.{TileKind}
use Rattle.coincidence.specs.Tables.{kind_of}
use Rattle.region_grower.specs.Ways.{HasOpen}
use Rattle.region_grower.specs.Tiles.{HasTiles}
use Rattle.region_grower.specs.Regions.{RegionState}
use Rattle.region_grower.specs.Calls.{IsGrownFrom}
use Rattle.tree_model.specs.Automata.{TreeAutomaton}
use Rattle.tree_model.specs.Conditions.{IsAccepted}
use Rattle.structure_check.specs.Rules.{TreeRules, AreSound}
use Rattle.regular_maker.specs.Regular.{IsRegular, IsSpherical, p_of, q_of}
use Rattle.regular_maker.specs.Rules.{AreRegular}
use Rattle.state_candidates.specs.Candidates.{IsCandidate}
use Rattle.state_learner.specs.declared.fault.LearnFault.{LearnFault}
use Rattle.state_learner.specs.declared.fault.LearnFault.TheVariants.{Spherical, Closed, GaveUp, Memory}

-- Rules of a tessellation: over its own kinds, and all twelve conditions hold. For a regular one
-- they are exactly those of {p,q}.
pub record AreLearnt (tess : List TileKind) (rules : TreeRules) : Type 0 where
  pub kinds : rules.kinds ≡ tess
  pub sound : AreSound rules
  pub regular : IsRegular tess → AreRegular tess rules

-- the regular tessellation {p,q}, which lies on the sphere
pub record IsSphere (tess : List TileKind) (p q : ℕ) : Type 0 where
  pub regular : IsRegular tess
  pub sides : p ≡ p_of tess
  pub tiles : q ≡ q_of tess
  pub spherical : IsSpherical p q

-- The tessellation is not regular, and from a tile of some kind walks lead to exactly n tiles.
pub record HasClosed (tess : List TileKind) (n : ℕ) : Type 0 where
  pub irregular : ¬ (IsRegular tess)
  pub kind : ℕ
  pub is_kind : kind < length tess
  pub tiles : HasTiles tess (kind, 0) n

-- the number of cells that a region has made
abbrev pub made : RegionState → ℕ
made r = length r.table.origins

-- P holds of each region of a list and of its number there.
abbrev pub EachRegion : List RegionState → (ℕ → RegionState → Type 0) → Type 0
EachRegion regions P = (k : ℕ) (r : RegionState) → slice_get regions k ≡ Some r → P k r

-- A region of the tessellation was started at a tile of kind k and is what calls of `grow` made of
-- it, and some dart of a live cell of it is not joined.
pub record IsOpenFrom (tess : List TileKind) (k : ℕ) (r : RegionState) : Type 0 where
  pub kinds : r.table.kinds ≡ tess
  pub start : kind_of r.table.origins 0 ≡ k
  pub calls : IsGrownFrom tess k r
  pub opened : (c : ℕ) × HasOpen r.table c

-- No candidate over the regions, to a horizon of at most h, meets the twelve conditions.
abbrev pub NoneAccepted : List TileKind → List RegionState → ℕ → Type 0
NoneAccepted tess regions h = (g : ℕ) (a : TreeAutomaton) → g ≤ h → IsCandidate tess regions g a
    → ¬ (IsAccepted tess a)

-- The learner has given up. The tessellation is not regular. Regions of it were started at kinds 0,
-- 1 and so on, one for each kind, or as many as the budget where the budget is smaller. The cells
-- that they made add up to the budget. Each has a dart that is not joined. The numbers of their
-- last layers differ by at most 1. And no candidate over them, to the horizons 0 to 8, meets the
-- twelve conditions.
pub record HasGivenUp (tess : List TileKind) (budget : ℕ) (regions : List RegionState) : Type 0
  where
    pub irregular : ¬ (IsRegular tess)
    pub count : length regions ≡ min (length tess) budget
    pub each : EachRegion regions (IsOpenFrom tess)
    pub spent : sum_by made regions ≡ budget
    pub level : EachRegion regions (λ _ r. EachRegion regions (λ _ s. r.layers ≤ suc s.layers))
    pub tried : NoneAccepted tess regions 8

-- why no rules are answered
abbrev pub IsFault : List TileKind → ℕ → LearnFault → Type 0
IsFault tess budget (Spherical p q) = IsSphere tess p q
IsFault tess budget (Closed n) = HasClosed tess n
IsFault tess budget (GaveUp regions) = HasGivenUp tess budget regions.items
IsFault tess budget Memory = ⊤
