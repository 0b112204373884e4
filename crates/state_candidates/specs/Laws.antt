-- What holds of all candidates.
use Rattle.std.specs.Prelude.{◌≡◌, ℕ, List}
use Rattle.tile_model.specs.Tessellations.{TileKind}
use Rattle.tree_model.specs.Automata.{TreeAutomaton}
use Rattle.region_grower.specs.Regions.{RegionState}
use Rattle.state_candidates.specs.Candidates.{IsCandidate}

-- two candidates over the same regions to the same horizon are equal
abbrev pub RegionsHaveOneCandidate : Type 0
RegionsHaveOneCandidate = (kinds : List TileKind) (regions : List RegionState) (h : ℕ)
    (a b : TreeAutomaton)
    → IsCandidate kinds regions h a → IsCandidate kinds regions h b → a ≡ b
