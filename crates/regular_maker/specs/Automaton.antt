-- The tree automaton of {p,q}. State 0 is the root. The others are numbered in the order in which
-- their pairs are first met, going through the states by number, and through the Child sides of
-- each by increasing side.
use Rattle.std.specs.Prelude.{ℕ, zero, suc, ◌+◌, List, [], ◌∷◌, ◌++◌, length, slice_index_or, Bool, ◌&&◌, nat_eq, nat_lt, nat_le, if◌then◌else◌, replicate}
use Rattle.tree_model.specs.declared.Claim.{Claim}
use Rattle.tree_model.specs.declared.Rule.{Rule}
use Rattle.tree_model.specs.declared.Rule.TheVariants.{Parent, Child, Left, Right}
use Rattle.tree_model.specs.Automata.{TreeState, TreeAutomaton}
use Rattle.regular_maker.specs.Corners.{listed, corner_types}
use Rattle.regular_maker.specs.States.{lowest, rights, lefts, pair_claim, child_pair, child_pairs, first_pair}
use Rattle.regular_maker.specs.declared.symbol.Pair.{Pair}

-- two claims are the same
abbrev pub same_claim : Claim → Claim → Bool
same_claim c d = nat_eq c.corner d.corner && nat_eq c.place d.place

-- two pairs are the same
unfoldable pub same_pair : Pair → Pair → Bool
same_pair x y = same_claim x.first y.first && same_claim x.last y.last

-- the number of entries before the first that is x; the number of all where none is
unfoldable pub index_in : List Pair → Pair → ℕ
index_in [] x = 0
index_in (y ∷ ys) x = if same_pair y x then 0 else suc (index_in ys x)

-- a list of pairs, and x behind it where it is not there yet
unfoldable pub with_pair : List Pair → Pair → List Pair
with_pair pairs x = if nat_lt (index_in pairs x) (length pairs) then pairs else (pairs ++ x ∷ [])

-- a list of pairs, and behind it those of another that are not there yet, in their order
unfoldable pub with_pairs : List Pair → List Pair → List Pair
with_pairs pairs [] = pairs
with_pairs pairs (x ∷ xs) = with_pairs (with_pair pairs x) xs

-- entry n of a list of pairs
unfoldable pub pair_at : ℕ → List Pair → ℕ → Pair
pair_at q pairs n = slice_index_or pairs n (first_pair q)

-- the pairs that are met at the root and at the first n states behind it, in the order in which
-- they are first met
unfoldable pub pairs_met : ℕ → ℕ → ℕ → List Pair
pairs_met p q zero = first_pair q ∷ []
pairs_met p q (suc n) =
    if nat_lt n (length (pairs_met p q n))
    then with_pairs (pairs_met p q n) (child_pairs p q (pair_at q (pairs_met p q n) n) p)
    else pairs_met p q n

-- All pairs that are met. No more than 16,384 are different: a claim has one of 2 corner types and
-- one of 64 places.
unfoldable pub all_pairs : ℕ → ℕ → List Pair
all_pairs p q = pairs_met p q 16384

-- the number of the state of a pair
unfoldable pub number_of : List Pair → Pair → ℕ
number_of pairs x = suc (index_in pairs x)

-- the rule of side i of the state of a pair
unfoldable pub pair_rule : ℕ → ℕ → List Pair → Pair → ℕ → Rule
pair_rule p q pairs x i =
    if nat_eq i 0 then Parent
    else if nat_le i (rights p q x) then Right
    else if nat_le p (i + lefts p q x) then Left
    else Child (number_of pairs (child_pair p q x i))

-- the root: each claim is the lowest, and each side leads to a child in state 1, whose pair is met
-- first
unfoldable pub root_state : ℕ → ℕ → TreeState
root_state p q = record {
  kind = 0;
  off = 0;
  rules = replicate p (Child 1);
  claims = replicate p (lowest q);
}

-- the state of a pair
unfoldable pub pair_state : ℕ → ℕ → List Pair → Pair → TreeState
pair_state p q pairs x = record {
  kind = 0;
  off = 0;
  rules = listed (pair_rule p q pairs x) p;
  claims = listed (pair_claim p q x) p;
}

-- the state of entry n of a list of pairs
unfoldable pub nth_state : ℕ → ℕ → List Pair → ℕ → TreeState
nth_state p q pairs n = pair_state p q pairs (pair_at q pairs n)

-- the states of the pairs of a list, behind the root
unfoldable pub all_states : ℕ → ℕ → List Pair → List TreeState
all_states p q pairs = root_state p q ∷ listed (nth_state p q pairs) (length pairs)

-- the automaton of {p,q}
abbrev pub regular_automaton : ℕ → ℕ → TreeAutomaton
regular_automaton p q = record {
  states = all_states p q (all_pairs p q);
  corners = corner_types q;
  roots = 0 ∷ [];
}
