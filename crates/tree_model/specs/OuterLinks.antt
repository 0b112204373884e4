-- Outer links: one leads from each corner type to that of its outer, and enters it at the place of
-- its outer.
use Rattle.std.specs.Prelude.{ℕ, zero, suc, ℤ, pos, ◌+ℤ◌}
use Rattle.tree_model.specs.Automata.{TreeAutomaton, offset, outer}

-- the offset at which the outer corner type of g is entered
abbrev pub entered : TreeAutomaton → ℕ → ℤ
entered a g = offset a (outer a g).corner (outer a g).place

-- the corner type to which n outer links lead from g
abbrev pub led : TreeAutomaton → ℕ → ℕ → ℕ
led a zero g = g
led a (suc n) g = led a n (outer a g).corner

-- the sum of the offsets that they enter
abbrev pub entered_sum : TreeAutomaton → ℕ → ℕ → ℤ
entered_sum a zero g = pos 0
entered_sum a (suc n) g = entered a g +ℤ entered_sum a n (outer a g).corner
