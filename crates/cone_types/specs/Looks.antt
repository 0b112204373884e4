-- What the rules of a cone type show where only the classes of its children are known.
use Rattle.std.specs.Prelude.{ℕ, List, slice_index_or}
use Rattle.tree_model.specs.declared.Rule.{Rule}
use Rattle.tree_model.specs.declared.Rule.TheVariants.{Parent, Child, Left, Right}
use Rattle.cone_types.specs.declared.look.SeenRule.{SeenRule}
use Rattle.cone_types.specs.declared.look.SeenRule.TheVariants.{Parent as seen_parent, Child as seen_child, Left as seen_left, Right as seen_right}

-- A rule with the class of the child in place of its number; a child without class keeps its
-- number.
abbrev pub seen_rule : List ℕ → Rule → SeenRule
seen_rule classes Parent = seen_parent
seen_rule classes (Child c) = seen_child (slice_index_or classes c c)
seen_rule classes Left = seen_left
seen_rule classes Right = seen_right
