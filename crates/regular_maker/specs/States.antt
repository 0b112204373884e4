-- The states of a tile of {p,q} other than the root. Each is determined by a pair of claims: that
-- of the corner behind its parent side, and that of the corner before it. A run of Right sides lies
-- behind the parent side, a run of Left sides before it, and the sides between the runs lead to
-- children. The claims between the runs are those of corners of which this tile is the lowest, that
-- is the tile of the least depth.
use Rattle.std.specs.Prelude.{ℕ, zero, suc, ◌+◌, ◌-◌, List, [], ◌∷◌, ◌++◌, Bool, ◌&&◌, nat_eq, nat_lt, nat_le, if◌then◌else◌}
use Rattle.tree_model.specs.declared.Claim.{Claim}
use Rattle.tree_model.specs.Automata.{further}
use Rattle.regular_maker.specs.Corners.{half, outer_of}
use Rattle.regular_maker.specs.declared.symbol.Pair.{Pair}

-- the claim of a corner of which this tile is the lowest
unfoldable pub lowest : ℕ → Claim
lowest q = record { corner = 0; place = half q }

-- the claim with 1 taken from its place
abbrev pub nearer : Claim → Claim
nearer c = record { corner = c.corner; place = c.place - 1 }

-- the claim behind a Right side, where the claim before it is of corner type g
unfoldable pub beyond : ℕ → ℕ → Claim
beyond q g = further (outer_of q g)

-- The run of Right sides. A claim of the last place has a Right side behind it, and behind that the
-- outer of its corner type with 1 added to the place. Here the claim i sides behind claim c, as
-- long as all before it have the last place ..
unfoldable pub right_claim : ℕ → Claim → ℕ → Claim
right_claim q c zero = c
right_claim q c (suc i) = beyond q (right_claim q c i).corner

-- .. and the number of Right sides that follow claim c, of n sides at most.
unfoldable pub right_run : ℕ → Claim → ℕ → ℕ
right_run q c zero = 0
right_run q c (suc n) =
    if nat_eq (suc c.place) q then suc (right_run q (beyond q c.corner) n) else 0

-- The run of Left sides. A claim of place 0 has a Left side before it, and before that the outer of
-- its corner type. Here the claim i sides before claim c, as long as all behind it have place 0 ..
unfoldable pub left_claim : ℕ → Claim → ℕ → Claim
left_claim q c zero = c
left_claim q c (suc i) = outer_of q (left_claim q c i).corner

-- .. and the number of Left sides before claim c, of n sides at most.
unfoldable pub left_run : ℕ → Claim → ℕ → ℕ
left_run q c zero = 0
left_run q c (suc n) =
    if nat_eq c.place 0 then suc (left_run q (outer_of q c.corner) n) else 0

-- the number of Right sides behind the parent side of the state of a pair
unfoldable pub rights : ℕ → ℕ → Pair → ℕ
rights p q x = right_run q x.first (p - 1)

-- the number of Left sides before the parent side
unfoldable pub lefts : ℕ → ℕ → Pair → ℕ
lefts p q x = left_run q x.last (p - 1)

-- the claim of corner i
unfoldable pub pair_claim : ℕ → ℕ → Pair → ℕ → Claim
pair_claim p q x i =
    if nat_le i (rights p q x) then right_claim q x.first i
    else if nat_le (p - 1) (i + lefts p q x) then left_claim q x.last (p - 1 - i)
    else lowest q

-- side i leads to a child: it lies behind the run of Right sides and before that of Left sides
unfoldable pub is_child : ℕ → ℕ → Pair → ℕ → Bool
is_child p q x i = nat_lt (rights p q x) i && nat_lt (i + lefts p q x) p

-- the pair of the child between two claims: the child lies one place further round the first
-- corner, and one nearer round the last
abbrev pub pair_between : Claim → Claim → Pair
pair_between before behind = record { first = further before; last = nearer behind }

-- the pair of the child across side i
unfoldable pub child_pair : ℕ → ℕ → Pair → ℕ → Pair
child_pair p q x i = pair_between (pair_claim p q x (i - 1)) (pair_claim p q x i)

-- the pairs of the children across the sides below side n, by increasing side
unfoldable pub child_pairs : ℕ → ℕ → Pair → ℕ → List Pair
child_pairs p q x zero = []
child_pairs p q x (suc i) =
    if is_child p q x i
    then (child_pairs p q x i ++ child_pair p q x i ∷ [])
    else child_pairs p q x i

-- the pair of the children of the root, all of whose claims are the lowest
abbrev pub first_pair : ℕ → Pair
first_pair q = pair_between (lowest q) (lowest q)
