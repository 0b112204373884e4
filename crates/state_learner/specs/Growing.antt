-- Regions that are grown in turns, and what a round of turns comes to.
use Rattle.std.specs.Prelude.{◌≡◌, ℕ, suc, ◌+◌, ◌<◌, ◌≤◌, min, List, [], ◌∷◌, length, sum_by}
use Rattle.tile_model.specs.Tessellations.{TileKind}
use Rattle.region_grower.specs.Tiles.{HasTiles}
use Rattle.region_grower.specs.Regions.{RegionState}
use Rattle.tree_model.specs.Automata.{TreeAutomaton}
use Rattle.tree_model.specs.Conditions.{IsAccepted}
use Rattle.state_candidates.specs.Candidates.{IsCandidate}
use Rattle.state_learner.specs.Learning.{EachRegion, IsOpenFrom, made}
use Rattle.structure_check.specs.Rules.{AreSound}
use Rattle.state_learner.specs.declared.rounds.Round.{Round}
use Rattle.state_learner.specs.declared.rounds.Round.TheVariants.{Layer, Full, Closed}
use Rattle.state_learner.specs.declared.attempts.Trial.{Trial}
use Rattle.state_learner.specs.declared.attempts.Trial.TheVariants.{Missing, Refused, Accepted}
use Rattle.state_learner.specs.declared.by_regions.Outcome.{Outcome}
use Rattle.state_learner.specs.declared.by_regions.Outcome.TheVariants.{Learnt, Finite, Spent}

-- Regions of a tessellation are grown in turns, one for each kind, or as many as the budget where
-- that is smaller. The first so many of them are one layer ahead of the others; `left` cells of
-- the budget may still be made.
pub record AreGrowing (tess : List TileKind) (budget left layers ahead : ℕ)
    (regions : List RegionState) : Type 0
  where
    pub count : length regions ≡ min (length tess) budget
    pub each : EachRegion regions (IsOpenFrom tess)
    pub spent : sum_by made regions + left ≡ budget
    pub before : EachRegion regions (λ k r. k < ahead → r.layers ≡ suc layers)
    pub behind : EachRegion regions (λ k r. ahead ≤ k → r.layers ≡ layers)

-- Regions of one cell, of the first n kinds.
pub record AreStarted (tess : List TileKind) (n : ℕ) (regions : List RegionState) : Type 0 where
  pub count : length regions ≡ n
  pub each : EachRegion regions (IsOpenFrom tess)
  pub cells : sum_by made regions ≡ n
  pub layers : EachRegion regions (λ _ r. r.layers ≡ 0)

-- the regions are spent: all cells of the budget were made
pub record AreSpent (tess : List TileKind) (budget : ℕ) (regions : List RegionState) : Type 0 where
  pub layers : ℕ
  pub ahead : ℕ
  pub growing : AreGrowing tess budget 0 layers ahead regions

-- the number of the last layer of the first region
abbrev pub layers_of : List RegionState → ℕ
layers_of [] = 0
layers_of (r ∷ rs) = r.layers

-- for some kind there are exactly n tiles
pub record HasTilesOf (tess : List TileKind) (n : ℕ) : Type 0 where
  pub kind : ℕ
  pub is_kind : kind < length tess
  pub tiles : HasTiles tess (kind, 0) n

-- What a round of turns comes to, in which each region has had its turn, or one of them has ended
-- it. The number of a layer is less than that of the cells, and so than the budget.
abbrev pub IsRound : List TileKind → (budget left layers : ℕ) → List RegionState → Round → Type 0
IsRound tess budget left layers regions Layer =
    AreGrowing tess budget left (suc layers) 0 regions × (suc layers < budget)
IsRound tess budget left layers regions Full = AreSpent tess budget regions
IsRound tess budget left layers regions (Closed n) = HasTilesOf tess n

-- what a trial of the candidate to horizon h comes to
abbrev pub IsTrial : List TileKind → List RegionState → ℕ → Trial → Type 0
IsTrial tess regions h Missing = (a : TreeAutomaton) → ¬ (IsCandidate tess regions h a)
IsTrial tess regions h Refused = (a : TreeAutomaton) → IsCandidate tess regions h a
    → ¬ (IsAccepted tess a)
IsTrial tess regions h (Accepted rules) = (rules.kinds ≡ tess) × AreSound rules

-- what growing the regions comes to
abbrev pub IsOutcome : List TileKind → (budget : ℕ) → List RegionState → Outcome → Type 0
IsOutcome tess budget regions (Learnt rules) = (rules.kinds ≡ tess) × AreSound rules
IsOutcome tess budget regions (Finite n) = HasTilesOf tess n
IsOutcome tess budget regions Spent = AreSpent tess budget regions

-- no candidate to a horizon below h meets the twelve conditions
abbrev pub AreTried : List TileKind → List RegionState → ℕ → Type 0
AreTried tess regions h = (g : ℕ) (a : TreeAutomaton) → g < h → IsCandidate tess regions g a
    → ¬ (IsAccepted tess a)
