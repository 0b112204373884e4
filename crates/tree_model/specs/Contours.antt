-- Walking along the contour of a tree, in one of its two directions: free ways, and which sides
-- they match. The places may be any; a direction is given by a turn, by the crossing of tree sides,
-- and by what each side is on the way.
use Rattle.std.specs.Prelude.{◌≡◌}

-- a side of the tree, a side that opens a bracket, or one that closes a bracket
pub data Mark : Type 0 where
  Tree Opens Closes : Mark

-- the mark of a side for who walks in the other direction
abbrev pub mirrored : Mark → Mark
mirrored Tree = Tree
mirrored Opens = Closes
mirrored Closes = Opens

-- A free way from x to z is a list of moves of two sorts. The first sort turns to a tree side and
-- goes across it. The second sort turns to an opening side and goes on from the closing side that
-- is matched with it.
pub data FreeWay (P : Type 0) (turn hop : P → P) (mark : P → Mark) : P → P → Type 0 where
  stay : {x z : P} → x ≡ z → FreeWay P turn hop mark x z
  tree : {x z : P} → mark (turn x) ≡ Tree → FreeWay P turn hop mark (hop (turn x)) z
      → FreeWay P turn hop mark x z
  nested : {x z : P} (last : P) → mark (turn x) ≡ Opens → FreeWay P turn hop mark (turn x) last
      → mark (turn last) ≡ Closes → FreeWay P turn hop mark (turn last) z
      → FreeWay P turn hop mark x z

-- An opening side x is matched with a closing side y: a free way leads from x to a place from which
-- one turn gives y.
pub record AreMatched (P : Type 0) (turn hop : P → P) (mark : P → Mark) (x y : P) : Type 0 where
  pub opens : mark x ≡ Opens
  pub closes : mark y ≡ Closes
  pub last : P
  pub way : FreeWay P turn hop mark x last
  pub turned : turn last ≡ y
