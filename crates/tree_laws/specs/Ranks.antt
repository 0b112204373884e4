-- The rank of each corner type. It grows along outer links because the cycles of links fall.
-- N is the number of corner types.
use Rattle.std.specs.Prelude.{ℕ, zero, suc, length, max, nat_eq, if◌then◌else◌, ℤ, pos, negsuc, ◌+ℤ◌, ◌*ℤ◌}
use Rattle.tree_model.specs.Automata.{TreeAutomaton}
use Rattle.tree_model.specs.OuterLinks.{led, entered_sum}

-- N
abbrev pub corner_count : TreeAutomaton → ℕ
corner_count a = length a.corners

-- the sum of n links from g: N times the offsets that they enter, and 1 for each link
abbrev pub link_sum : TreeAutomaton → ℕ → ℕ → ℤ
link_sum a n g = (pos (corner_count a) *ℤ entered_sum a n g) +ℤ pos n

-- an integer, and 0 for a negative one
abbrev pub natural : ℤ → ℕ
natural (pos n) = n
natural (negsuc n) = 0

-- the greatest of 0 and the values of f below n
abbrev pub greatest : ℕ → (ℕ → ℕ) → ℕ
greatest zero f = 0
greatest (suc n) f = max (f n) (greatest n f)

-- the sum of n links from x where they end in g, and 0 where they do not
abbrev pub sum_into : TreeAutomaton → ℕ → ℕ → ℕ → ℕ
sum_into a g n x = if nat_eq (led a n x) g then natural (link_sum a n x) else 0

-- the rank of g: the greatest sum over the lists of at most N links that end in g, the empty one
-- among them, whose sum is 0
unfoldable pub derived_rank : TreeAutomaton → ℕ → ℕ
derived_rank a g =
    greatest (suc (corner_count a)) (λ n. greatest (corner_count a) (λ x. sum_into a g n x))
