-- Base automata as plain lists.
use Rattle.std.specs.Prelude.{ℕ, List, length, map, slice_index_or}
use Rattle.tree_model.specs.declared.Rule.{Rule}
use Rattle.tree_model.specs.declared.Rule.TheVariants.{Parent, Child, Left, Right}
use Rattle.cone_types.specs.Partitions.{IsPartition}
use Rattle.cone_types.specs.Representatives.{StandForClasses}

-- A cone type: the kind of its tiles, the residue of their side 0, and a rule for each side. A
-- Child names a cone type of the list by its number.
pub record Cone : Type 0 where
  pub kind : ℕ
  pub off : ℕ
  pub rules : List Rule

-- A rule with the class of the child as its number; a child without class keeps its number.
abbrev pub renamed_rule : List ℕ → Rule → Rule
renamed_rule classes Parent = Parent
renamed_rule classes (Child c) = Child (slice_index_or classes c c)
renamed_rule classes Left = Left
renamed_rule classes Right = Right

-- A cone type with the classes of the children as their numbers.
abbrev pub renamed_cone : List ℕ → Cone → Cone
renamed_cone classes cone =
    record { kind = cone.kind; off = cone.off; rules = map (renamed_rule classes) cone.rules }

-- Each cone type of the second list is one of its class in the first list, with the classes of the
-- children as their numbers.
pub record IsCoarser (types : List Cone) (kinds : ℕ) (coarse : List Cone) : Type 0 where
  pub classes : List ℕ
  pub partition : IsPartition (length types) kinds classes
  pub stand : StandForClasses (renamed_cone classes) classes types coarse
