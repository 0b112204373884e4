-- What is read off the cells and the corners of a region: the states and the corner types of a
-- candidate. The states of a region are numbered from s on, in the order of the numbers of its
-- cells, and the corner types from g on, in the order of the numbers of its corners.
use Rattle.std.specs.Prelude.{◌≡◌, ℕ, ◌+◌, ◌<◌, List, length, ℤ, Option, Some}
use Rattle.std.specs.Option.{option_map, option_and_then}
use Rattle.tree_model.specs.declared.Rule.{Rule}
use Rattle.tree_model.specs.declared.Rule.TheVariants.{Parent, Child, Left, Right}
use Rattle.tree_model.specs.declared.Claim.{Claim}
use Rattle.tree_model.specs.Automata.{TreeState}
use Rattle.coincidence.specs.Tables.{joined_to, kind_of, type_at}
use Rattle.region_grower.specs.Regions.{RegionState}
use Rattle.look_classes.specs.declared.rule.SideRule.{SideRule}
use Rattle.look_classes.specs.declared.rule.SideRule.TheVariants.{Parent as ToParent, Child as ToChild, Left as ToLeft, Right as ToRight}
use Rattle.look_classes.specs.Tree.{sides_of, counted}
use Rattle.look_classes.specs.Places.{place, outer_side, rule_of}
use Rattle.look_classes.specs.Looks.{both, each_below, first_look}
use Rattle.look_classes.specs.Numbers.{entry}
use Rattle.look_classes.specs.Classes.{ClassLists, sides_below}

-- the first entry with a number
pub record IsFirstWith (numbers : List (Option ℕ)) (m i : ℕ) : Type 0 where
  pub here : entry numbers i ≡ Some m
  pub before : (j : ℕ) → j < i → ¬ (entry numbers j ≡ Some m)

-- where the corner of side i of a cell stands, by cell and then by the number of the side
abbrev pub corner_index : RegionState → ℕ → ℕ → ℕ
corner_index r c i = length (sides_below c r) + i

-- the number of the corner at the left end of a dart
abbrev pub corner_number : RegionState → ClassLists → ℕ × ℕ → Option ℕ
corner_number r x d = entry x.corners (corner_index r d.0 d.1)

-- The claim of a side: the corner type and the place.
unfoldable pub claim_of : RegionState → ClassLists → ℕ → ℕ × ℕ → Option Claim
claim_of r x g d = both (λ m p. record { corner = g + m; place = p })
    (corner_number r x d) (place r d)

-- the rule Child with the state of the cell across a dart
unfoldable pub child_of : RegionState → ClassLists → ℕ → ℕ × ℕ → Option Rule
child_of r x s d = option_map (λ m. Child (s + m))
    (option_and_then (λ e. entry x.cells e.0) (joined_to r.table d))

-- the rule of a dart in a state
abbrev pub state_rule : RegionState → ClassLists → ℕ → ℕ × ℕ → SideRule → Option Rule
state_rule r x s d ToParent = Some Parent
state_rule r x s d ToChild = child_of r x s d
state_rule r x s d ToLeft = Some Left
state_rule r x s d ToRight = Some Right

-- the rule of side j of a cell, counted from its parent side
unfoldable pub rule_at_side : RegionState → ClassLists → ℕ → ℕ → ℕ → Option Rule
rule_at_side r x s c j = option_and_then (state_rule r x s (counted r c j)) (rule_of r c j)

unfoldable pub rules_of : RegionState → ClassLists → ℕ → ℕ → Option (List Rule)
rules_of r x s c = each_below (sides_of r c) (rule_at_side r x s c)

-- the claim of side j of a cell, counted from its parent side
abbrev pub claim_at_side : RegionState → ClassLists → ℕ → ℕ → ℕ → Option Claim
claim_at_side r x g c j = claim_of r x g (counted r c j)

unfoldable pub claims_of : RegionState → ClassLists → ℕ → ℕ → Option (List Claim)
claims_of r x g c = each_below (sides_of r c) (claim_at_side r x g c)

-- The state that is read off a cell: its kind, the residue of the side that is counted as 0, and
-- the rules and claims of its sides. None where a cell or a side that it names has no number.
unfoldable pub state_of : RegionState → ClassLists → ℕ → ℕ → ℕ → Option TreeState
state_of r x s g c = both
    (λ rules claims. record {
      kind = kind_of r.table.origins c;
      off = (type_at r.table (counted r c 0)).1;
      rules = rules;
      claims = claims;
    })
    (rules_of r x s c)
    (claims_of r x g c)

-- The offsets and the outer corner of the corner type that is read off a dart: the list of its
-- look, and the claim of its outer side.
unfoldable pub corner_of : RegionState → ClassLists → ℕ → ℕ × ℕ → Option (List ℤ × Claim)
corner_of r x g d = both (λ look outer. (look.distances, outer))
    (first_look r d) (option_and_then (claim_of r x g) (outer_side r d))
