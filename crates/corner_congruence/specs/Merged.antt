-- Automata with fewer states and corner types.
use Rattle.std.specs.Prelude.{◌≡◌, ◌≤◌, ℕ, List, length, map, slice_index_or}
use Rattle.tree_model.specs.declared.Claim.{Claim}
use Rattle.tree_model.specs.Automata.{TreeState, CornerType, TreeAutomaton}
use Rattle.cone_types.specs.Cones.{renamed_rule}
use Rattle.cone_types.specs.Partitions.{IsPartition}
use Rattle.cone_types.specs.Representatives.{StandForClasses}

-- A claim with the class of the corner type as its number; a corner type without class keeps its
-- number.
abbrev pub renamed_claim : List ℕ → Claim → Claim
renamed_claim classes claim =
    record { corner = slice_index_or classes claim.corner claim.corner; place = claim.place }

-- A corner type with the class of its outer corner as its number.
abbrev pub renamed_corner : List ℕ → CornerType → CornerType
renamed_corner classes g =
    record { offsets = g.offsets; outer = renamed_claim classes g.outer }

-- A state with the classes of its children and of its corner types as their numbers.
abbrev pub renamed_state : (classes corner_classes : List ℕ) → TreeState → TreeState
renamed_state classes corner_classes s = record {
  kind = s.kind;
  off = s.off;
  rules = map (renamed_rule classes) s.rules;
  claims = map (renamed_claim corner_classes) s.claims;
}

-- A root with the class of its state as its number.
abbrev pub renamed_root : List ℕ → ℕ → ℕ
renamed_root classes root = slice_index_or classes root root

-- Each state and each corner type is one of its class in the first automaton, with classes as
-- numbers, and so are the roots.
pub record IsMerged (a m : TreeAutomaton) : Type 0 where
  pub state_classes : List ℕ
  pub corner_classes : List ℕ
  pub partition : IsPartition (length a.states) (length a.roots) state_classes
  pub corner_partition : IsPartition (length a.corners) 0 corner_classes
  pub states : StandForClasses (renamed_state state_classes corner_classes) state_classes
      a.states m.states
  pub corners : StandForClasses (renamed_corner corner_classes) corner_classes a.corners m.corners
  pub roots : m.roots ≡ map (renamed_root state_classes) a.roots
  pub few_states : length m.states ≤ length a.states
  pub few_corners : length m.corners ≤ length a.corners
