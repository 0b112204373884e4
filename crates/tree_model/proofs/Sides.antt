-- The sides of a tile, taken in turn.
use Rattle.std.proofs.Common.{◌≡◌, ℕ, zero, suc, ◌-◌, ◌<◌, arith}
use Rattle.tree_model.specs.Automata.{next, previous}

pub next_last : (n i : ℕ) → suc i ≡ n → next n i ≡ 0
unfolding next
next_last n i h = grind arith

pub next_inner : (n i : ℕ) → suc i < n → next n i ≡ suc i
unfolding next
next_inner n i h = grind arith

pub next_below : (n i : ℕ) → i < n → next n i < n
unfolding next
next_below n i h = grind arith

pub next_zero : (n i : ℕ) → i < n → next n i ≡ 0 → suc i ≡ n
unfolding next
next_zero n i h e = grind arith

pub previous_next : (n i : ℕ) → i < n → previous n (next n i) ≡ i
unfolding next
previous_next n i h = grind arith

pub previous_below : (n i : ℕ) → i < n → previous n i < n
previous_below n zero h = omega arith
previous_below n (suc i) h = omega arith

pub next_previous : (n i : ℕ) → i < n → next n (previous n i) ≡ i
next_previous n zero h = next_last n (n - 1) (omega arith)
next_previous n (suc i) h = next_inner n i h
