-- The walk along a contour with one counter of open brackets.
use Rattle.std.specs.Prelude.{◌≡◌, ℕ, zero, suc, ◌+◌, ◌*◌, ◌≤◌, Bool, false, nat_eq}
use Rattle.tree_model.specs.Contours.{Mark, Tree, Opens, Closes}

-- At z, about to turn, with c brackets open, the walk stops at y after n moves and one turn. Its
-- counter is never above most.
pub data Halts (P : Type 0) (turn hop : P → P) (mark : P → Mark) (most : ℕ) :
    ℕ → P → ℕ → P → Type 0 where
  stops :
      {n c : ℕ} {z y : P} → mark (turn z) ≡ Closes → c ≡ 1 → c ≤ most → n ≡ 0 → turn z ≡ y →
      Halts P turn hop mark most n z c y
  hops :
      {n c : ℕ} {z y : P} (m : ℕ) → mark (turn z) ≡ Tree → c ≤ most → n ≡ suc m →
      Halts P turn hop mark most m (hop (turn z)) c y → Halts P turn hop mark most n z c y
  opens :
      {n c : ℕ} {z y : P} (m : ℕ) → mark (turn z) ≡ Opens → c ≤ most → n ≡ suc m →
      Halts P turn hop mark most m (turn z) (suc c) y → Halts P turn hop mark most n z c y
  closes :
      {n c : ℕ} {z y : P} (m e : ℕ) →
      mark (turn z) ≡ Closes → c ≡ suc (suc e) → c ≤ most → n ≡ suc m →
      Halts P turn hop mark most m (turn z) (suc e) y → Halts P turn hop mark most n z c y

-- the most moves of a walk whose counter is never above n
abbrev pub most_moves : ℕ → ℕ
most_moves zero = 0
most_moves (suc n) = 64 * (2 + most_moves n)

-- the moves that are left after one turn to a place with this mark, where f tells what is left from
-- there
abbrev pub left_after : (P : Type 0) (turned hopped : P) (f : P → ℕ → ℕ) → Mark → ℕ → ℕ
left_after P turned hopped f Tree c = suc (f hopped c)
left_after P turned hopped f Opens c = suc (f turned (suc c))
left_after P turned hopped f Closes zero = 0
left_after P turned hopped f Closes (suc zero) = 0
left_after P turned hopped f Closes (suc (suc e)) = suc (f turned (suc e))

-- the moves that are left, counted up to a bound
abbrev pub moves_left : (P : Type 0) (turn hop : P → P) (mark : P → Mark) → ℕ → P → ℕ → ℕ
moves_left P turn hop mark zero z c = 0
moves_left P turn hop mark (suc f) z c =
    left_after P (turn z) (hop (turn z)) (moves_left P turn hop mark f) (mark (turn z)) c

-- One move, from z with c brackets open to y with e brackets open: it turns, and goes across a side
-- of the tree. It is the last one where the turn closes the last bracket.
pub record Moved (P : Type 0) (turn hop : P → P) (mark : P → Mark)
    (z : P) (c : ℕ) (done : Bool) (y : P) (e : ℕ) : Type 0 where
  pub hopped : mark (turn z) ≡ Tree → (done ≡ false) × (y ≡ hop (turn z)) × (e ≡ c)
  pub opened : mark (turn z) ≡ Opens → (done ≡ false) × (y ≡ turn z) × (e ≡ suc c)
  pub closed : mark (turn z) ≡ Closes → (done ≡ nat_eq e 0) × (y ≡ turn z) × (suc e ≡ c)
