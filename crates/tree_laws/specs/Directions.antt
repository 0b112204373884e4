-- The two directions along the contour of the tree of a kind: the turn, what each side is on the
-- way, and how many brackets are open at most.
use Rattle.std.specs.Prelude.{ℕ, suc, ◌+◌, ◌*◌, ◌≤◌, Bool, true, false, List, length}
use Rattle.tile_model.specs.Tessellations.{TileKind}
use Rattle.tree_model.specs.Automata.{TreeAutomaton}
use Rattle.tree_model.specs.Contours.{Mark, mirrored}
use Rattle.tree_model.specs.Positions.{Position, IsPosition, turn_left, turn_right, claim_of, hop, mark, LiesAcross}
use Rattle.tree_laws.specs.Ranks.{derived_rank, corner_count}
use Rattle.tree_laws.specs.Machine.{Halts, Moved, most_moves, moves_left}

module _ (kinds : List TileKind) (a : TreeAutomaton) (k : ℕ) where
  -- a turn leftwards, or else rightwards
  abbrev pub turned : Bool → Position → Position
  turned true = turn_left kinds a k
  turned false = turn_right kinds a k

  -- what a side is for who walks leftwards, or else rightwards
  abbrev pub mark_towards : Bool → Position → Mark
  mark_towards true = mark kinds a k
  mark_towards false = λ p. mirrored (mark kinds a k p)

  -- the corner type at the inner end of a side from which the walk starts
  abbrev pub inner_corner : Bool → Position → ℕ
  inner_corner true p = (claim_of kinds a k p).corner
  inner_corner false p = (claim_of kinds a k (turn_right kinds a k p)).corner

  -- The most brackets that are open at once on the walk from a side: one more than the weight of
  -- that corner is at most, as its first tile lies at most one deeper than the tile of the side.
  abbrev pub most_open : Bool → Position → ℕ
  most_open d p = suc (corner_count a * suc (length p.name) + derived_rank a (inner_corner d p))

  -- From p, about to turn, with c brackets open, the walk stops at q after n moves and one turn,
  -- and its counter is never above most.
  abbrev pub Runs : Bool → ℕ → ℕ → Position → ℕ → Position → Type 0
  Runs d most n p c q = Halts Position (turned d) (hop kinds a k) (mark_towards d) most n p c q

  -- one move of the walk
  abbrev pub Goes : Bool → Position → ℕ → Bool → Position → ℕ → Type 0
  Goes d p c done q e = Moved Position (turned d) (hop kinds a k) (mark_towards d) p c done q e

  -- the moves that are left, counted up to a bound
  abbrev pub left_over : Bool → ℕ → Position → ℕ → ℕ
  left_over d f p c = moves_left Position (turned d) (hop kinds a k) (mark_towards d) f p c

  -- The walk from p stops at q, which lies across.
  pub record Arrives (d : Bool) (p q : Position) : Type 0 where
    pub position : IsPosition kinds a k q
    pub across : LiesAcross kinds a k p q
    pub moves : ℕ
    pub few : moves ≤ most_moves (most_open d p)
    pub runs : Runs d (most_open d p) moves p 1 q
