-- Candidates: automata that are read off regions, one for each kind, to a horizon.
use Rattle.std.specs.Prelude.{◌≡◌, ℕ, ◌+◌, ◌<◌, ◌≤◌, List, [], length, take, sum_by, slice_index_or, Some}
use Rattle.std.specs.Option.{option_map}
use Rattle.tile_model.specs.Tessellations.{TileKind}
use Rattle.tree_model.specs.Automata.{TreeAutomaton, state_at, corner_at, root_at}
use Rattle.region_grower.specs.Regions.{RegionState}
use Rattle.look_classes.specs.Tree.{sides_of, dart_of}
use Rattle.look_classes.specs.Numbers.{entry}
use Rattle.look_classes.specs.Classes.{ClassLists, AreClasses, made}
use Rattle.look_classes.specs.States.{LooksState}
use Rattle.state_candidates.specs.Reading.{IsFirstWith, corner_index, state_of, corner_of}

-- what a search for candidates stands at: regions, and the horizon that it has come to
pub record CandidatesState : Type 0 where
  pub regions : List RegionState
  pub horizon : ℕ

-- what stands for a region, and for its classes, that are not there
abbrev pub no_region : RegionState
no_region = record {
  table = record { kinds = []; origins = []; cells = []; slots = [] };
  radii = [];
  layers = 0;
}

abbrev pub no_lists : ClassLists
no_lists = record { cells = []; corners = []; cell_count = 0; corner_count = 0 }

-- the region of number k, and its classes
abbrev pub region_at : List RegionState → ℕ → RegionState
region_at regions k = slice_index_or regions k no_region

abbrev pub lists_at : List ClassLists → ℕ → ClassLists
lists_at lists k = slice_index_or lists k no_lists

-- how many states, and how many corner types, the regions before number k give
abbrev pub states_before : List ClassLists → ℕ → ℕ
states_before lists k = sum_by (λ x. x.cell_count) (take k lists)

abbrev pub corners_before : List ClassLists → ℕ → ℕ
corners_before lists k = sum_by (λ x. x.corner_count) (take k lists)

-- The states of an automaton from s on are those of the least cells with each number, the corner
-- types from g on those of the least sides with each number, by cell and then by the number of the
-- side, and its root of kind k is the state of cell 0.
pub record IsReadOff (r : RegionState) (x : ClassLists) (s g k : ℕ)
    (a : TreeAutomaton) : Type 0 where
  pub states : (m c : ℕ) → IsFirstWith x.cells m c → state_of r x s g c ≡ Some (state_at a (s + m))
  pub corners : (m c i : ℕ) → c < made r → i < sides_of r c
      → IsFirstWith x.corners m (corner_index r c i)
      → corner_of r x g (dart_of r c i)
      ≡ Some ((corner_at a (g + m)).offsets, (corner_at a (g + m)).outer)
  pub root : option_map (λ m. s + m) (entry x.cells 0) ≡ Some (root_at a k)

-- An automaton is the candidate of regions, one for each kind, to a horizon: each region gives its
-- own states and corner types, those of earlier regions first, one for each number of its classes
-- to the horizon. There are at most 100,000 states and 20,000 corner types.
pub record IsCandidate (kinds : List TileKind) (regions : List RegionState) (h : ℕ)
    (a : TreeAutomaton) :
    Type 0 where
  pub one_each : length regions ≡ length kinds
  pub lists : List ClassLists
  pub long : length lists ≡ length regions
  pub classes : (k : ℕ) → k < length regions → AreClasses h (region_at regions k) (lists_at lists k)
  pub read : (k : ℕ) → k < length regions
      → IsReadOff (region_at regions k) (lists_at lists k)
      (states_before lists k) (corners_before lists k) k a
  pub state_count : length a.states ≡ states_before lists (length regions)
  pub corner_count : length a.corners ≡ corners_before lists (length regions)
  pub root_count : length a.roots ≡ length kinds
  pub few_states : length a.states ≤ 100000
  pub few_corners : length a.corners ≤ 20000

-- what stands for the looks of a region that are not there
abbrev pub no_looks : LooksState
no_looks = record { region = no_region; horizon = 0 }

abbrev pub looks_at : List LooksState → ℕ → LooksState
looks_at looks k = slice_index_or looks k no_looks

-- the same looks to a horizon one farther
abbrev pub one_farther : LooksState → LooksState
one_farther x = record { region = x.region; horizon = x.horizon + 1 }

-- the looks of region k to a horizon
abbrev pub AreLooksOf : List RegionState → ℕ → List LooksState → ℕ → Type 0
AreLooksOf regions h looks k = looks_at looks k
    ≡ record { region = region_at regions k; horizon = h }

-- the looks of the first of the regions to a horizon, as many as are there
pub record AreLooks (regions : List RegionState) (h : ℕ) (looks : List LooksState) : Type 0 where
  pub long : length looks ≤ length regions
  pub each : (k : ℕ) → k < length looks → AreLooksOf regions h looks k
