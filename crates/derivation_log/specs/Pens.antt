-- How a pen goes: from which position to which, and what it writes.
use Rattle.std.specs.Prelude.{◌≡◌, ℕ, Bool, true, List, [], ◌∷◌, ◌++◌, length, nat_eq}
use Rattle.std.specs.Prelude.{if◌then◌else◌}
use Rattle.tile_model.specs.declared.Letter.{Letter}
use Rattle.tile_model.specs.declared.Letter.TheVariants.{X}
use Rattle.tile_model.specs.Relation.{Change, Lead}
use Rattle.structure_check.specs.Rules.{TreeRules}
use Rattle.tree_model.specs.Contours.{Mark, Tree}
use Rattle.tree_model.specs.Positions.{Position, turn_left, turn_right, hop, mark, rule_of}
use Rattle.tree_model.specs.Positions.{MatchesLeftwards, Moves}
use Rattle.tree_model.specs.Names.{word}
use Rattle.tree_model.specs.Places.{position_word}
use Rattle.tree_laws.specs.Directions.{Goes, most_open}
use Rattle.spot_laws.specs.Spots.{IsAt, position, root_kind}
use Rattle.log_laws.specs.Logs.{inserted, deleted, turn_log, across_log, contour_log, crossing_log}
use Rattle.derivation_log.specs.Drafts.{IsWritten}
use Rattle.derivation_log.specs.declared.pen.Pen.{Pen}

-- the position of a pen
abbrev pub at : Pen → Position
at p = position p.place

-- the kind of the root of its tree
abbrev pub home : TreeRules → Pen → ℕ
home rules p = root_kind rules p.place

-- what the faced side is on the way leftwards
abbrev pub mark_at : TreeRules → Pen → Mark
mark_at rules p = mark rules.kinds rules.automaton (home rules p) (at p)

-- the most brackets that are open at once on the way leftwards from there
abbrev pub most_open_at : TreeRules → Pen → ℕ
most_open_at rules p = most_open rules.kinds rules.automaton (home rules p) true (at p)

-- The pen has gone to position q, and has written these changes.
pub record HasWritten (rules : TreeRules) (p : Pen) (q : Position) (changes : List Change) (p' : Pen)
    : Type 0
  where
    pub place : IsAt rules (home rules p) q p'.place
    pub log : IsWritten p.log changes p'.log

abbrev pub HasTurnedLeft : TreeRules → (p p' : Pen) → Type 0
HasTurnedLeft rules p p' =
    HasWritten rules p (turn_left rules.kinds rules.automaton (home rules p) (at p))
    (turn_log rules.kinds rules.automaton (home rules p) (at p)) p'

-- what is written before a turn to the right: where it passes the first side, a full turn is
-- inserted
abbrev pub open_log : Position → List Change
open_log p = if nat_eq p.side 0 then inserted (length (word p.name)) 4 ∷ [] else []

-- behind the turn to q left and right is deleted
abbrev pub right_log : (p q : Position) → List Change
right_log p q = open_log p ++ (deleted (length (position_word q)) 2 ∷ [])

abbrev pub HasTurnedRight : TreeRules → (p p' : Pen) → Type 0
HasTurnedRight rules p p' =
    HasWritten rules p (turn_right rules.kinds rules.automaton (home rules p) (at p))
    (right_log (at p) (turn_right rules.kinds rules.automaton (home rules p) (at p))) p'

-- across a side of the tree
pub record HasHopped (rules : TreeRules) (p p' : Pen) : Type 0 where
  pub tree : mark_at rules p ≡ Tree
  pub written :
      HasWritten rules p (hop rules.kinds rules.automaton (home rules p) (at p))
      (across_log (rule_of rules.kinds rules.automaton (home rules p) (at p))
      (hop rules.kinds rules.automaton (home rules p) (at p))) p'

-- one move along the contour, from c open brackets to e
pub record HasMoved (rules : TreeRules) (p : Pen) (c : ℕ) (done : Bool) (p' : Pen) (e : ℕ) : Type 0
  where
    pub written :
        HasWritten rules p (at p') (contour_log rules.kinds rules.automaton (home rules p) 1 (at p) c)
        p'
    pub goes :
        Goes rules.kinds rules.automaton (home rules p) true (at p) c done (at p') e

-- from a Left side to the one that is matched with it
pub record HasRounded (rules : TreeRules) (p p' : Pen) : Type 0 where
  pub matched : MatchesLeftwards rules.kinds rules.automaton (home rules p) (at p) (at p')
  pub written :
      HasWritten rules p (at p') (crossing_log rules.kinds rules.automaton (home rules p) matched) p'

-- The pen has gone by a letter: where its log led to the word of its position and this letter, with
-- any letters behind, it leads to the word of its new position with these letters behind.
pub record HasStepped (rules : TreeRules) (p : Pen) (x : Letter) (p' : Pen) : Type 0 where
  pub place : IsAt rules (home rules p) (at p') p'.place
  pub moves : Moves rules.kinds rules.automaton (home rules p) x (at p) (at p')
  pub leads : (u rest : List Letter)
      → Lead rules.kinds (home rules p, 0) p.log u (position_word (at p) ++ x ∷ rest)
      → Lead rules.kinds (home rules p, 0) p'.log u (position_word (at p') ++ rest)

-- across the faced side
abbrev pub HasCrossed : TreeRules → (p p' : Pen) → Type 0
HasCrossed rules p p' = HasStepped rules p X p'
