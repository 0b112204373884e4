-- Positions in the tree of a kind, the turns, and what lies across each side.
use Rattle.std.specs.Prelude.{◌≡◌, ℕ, ◌<◌, List, [], ◌∷◌, ◌++◌}
use Rattle.tile_model.specs.declared.Letter.{Letter}
use Rattle.tile_model.specs.declared.Letter.TheVariants.{L, R, X}
use Rattle.tile_model.specs.Tessellations.{TileKind}
use Rattle.tree_model.specs.declared.Rule.{Rule}
use Rattle.tree_model.specs.declared.Rule.TheVariants.{Parent, Child, Left, Right}
use Rattle.tree_model.specs.declared.Claim.{Claim}
use Rattle.tree_model.specs.Automata.{TreeAutomaton, rule_at, claim_at, type_at, side_count, next, previous}
use Rattle.tree_model.specs.Contours.{Mark, Tree, Opens, Closes, AreMatched}
use Rattle.tree_model.specs.Names.{IsName, state_of}

-- a name, and a side of its tile
pub record Position : Type 0 where
  pub name : List ℕ
  pub side : ℕ

-- side 0 of the root
abbrev pub root : Position
root = record { name = []; side = 0 }

-- the name without its last side
abbrev pub parent : List ℕ → List ℕ
parent [] = []
parent (i ∷ []) = []
parent (i ∷ j ∷ name) = i ∷ parent (j ∷ name)

-- the last side of a name
abbrev pub last_side : List ℕ → ℕ
last_side [] = 0
last_side (i ∷ []) = i
last_side (i ∷ j ∷ name) = last_side (j ∷ name)

-- Across a side of the tree: across a Child side lies side 0 of the child, across the side of the
-- parent lies the parent's side of this child.
abbrev pub tree_across : Rule → Position → Position
tree_across Parent p = record { name = parent p.name; side = last_side p.name }
tree_across (Child c) p = record { name = p.name ++ p.side ∷ []; side = 0 }
tree_across Left p = p
tree_across Right p = p

-- what a side is for who walks leftwards: a Left side opens a bracket, a Right side closes one
abbrev pub mark_of_rule : Rule → Mark
mark_of_rule Parent = Tree
mark_of_rule (Child c) = Tree
mark_of_rule Left = Opens
mark_of_rule Right = Closes

-- in the tree of kind k
module _ (kinds : List TileKind) (a : TreeAutomaton) (k : ℕ) where
  -- the name is one of the tree, and the side is one of its tile
  pub record IsPosition (p : Position) : Type 0 where
    pub name : IsName kinds a k p.name
    pub side : p.side < side_count kinds a (state_of a k p.name)

  abbrev pub turn_left : Position → Position
  turn_left p =
      record { name = p.name; side = next (side_count kinds a (state_of a k p.name)) p.side }

  abbrev pub turn_right : Position → Position
  turn_right p =
      record { name = p.name; side = previous (side_count kinds a (state_of a k p.name)) p.side }

  abbrev pub rule_of : Position → Rule
  rule_of p = rule_at a (state_of a k p.name) p.side

  abbrev pub claim_of : Position → Claim
  claim_of p = claim_at a (state_of a k p.name) p.side

  -- the type of the side
  abbrev pub type_of_side : Position → ℕ × ℕ
  type_of_side p = type_at kinds a (state_of a k p.name) p.side

  abbrev pub hop : Position → Position
  hop p = tree_across (rule_of p) p

  abbrev pub mark : Position → Mark
  mark p = mark_of_rule (rule_of p)

  -- a Left side and the Right side that is matched with it
  abbrev pub MatchesLeftwards : Position → Position → Type 0
  MatchesLeftwards x y = AreMatched Position turn_left hop mark x y

  -- Position q lies across position p.
  pub data LiesAcross (p q : Position) : Type 0 where
    in_tree : mark p ≡ Tree → hop p ≡ q → LiesAcross p q
    from_left : MatchesLeftwards p q → LiesAcross p q
    from_right : IsPosition q → MatchesLeftwards q p → LiesAcross p q

  -- a letter leads from p to q: a turn, or the crossing to what lies across
  abbrev pub Moves : Letter → Position → Position → Type 0
  Moves L p q = turn_left p ≡ q
  Moves R p q = turn_right p ≡ q
  Moves X p q = LiesAcross p q

  -- the walk leads from p to q, letter by letter
  abbrev pub Leads : Position → List Letter → Position → Type 0
  Leads p [] q = p ≡ q
  Leads p (x ∷ walk) q = (m : Position) × Moves x p m × Leads m walk q
