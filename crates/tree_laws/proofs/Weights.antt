-- Arithmetic of weights, over plain numbers: a weight is N times a depth, and a rank. N is called s, any number.
use Rattle.std.proofs.Common.{◌≡◌, ℕ, zero, suc, ◌+◌, ◌*◌, ◌<◌, sym, arith, ℤ, pos, negsuc, ◌+ℤ◌, ◌*ℤ◌, ◌<ℤ◌, ◌≤ℤ◌}
use Rattle.std.proofs.lemmas.Int.{ints}

-- s times an offset, by the depths at both its ends
scaled : (s : ℕ) (h : ℤ) (n m : ℕ) → pos m +ℤ h ≡ pos n → pos (s * m) +ℤ (pos s *ℤ h) ≡ pos (s * n)
scaled s (pos i) n m e =
    let f : n ≡ m + i = omega (arith, ints) in
    rw f (omega (arith, ints))
scaled s (negsuc i) n m e =
    let f : m ≡ n + suc i = omega (arith, ints) in
    rw f (omega (arith, ints))

-- every integer is a difference of two numbers
split : (d : ℤ) → (m : ℕ) × (n : ℕ) × (pos m ≡ pos n +ℤ d)
split (pos i) = (i, 0, omega (arith, ints))
split (negsuc i) = (0, suc i, omega (arith, ints))

-- s times a sum
pub spread : (s : ℕ) (d e h : ℤ) → d ≡ e +ℤ h → pos s *ℤ d ≡ (pos s *ℤ e) +ℤ (pos s *ℤ h)
spread s d e h q =
    let (m, n, u) = split e in
    let (i, j, v) = split h in
    let a = scaled s e m n (sym u) in
    let b = scaled s h i j (sym v) in
    let w : pos (n + j) +ℤ d ≡ pos (m + i) = omega (arith, ints, u, v) in
    let c = scaled s d (m + i) (n + j) w in
    let x : s * (m + i) ≡ s * m + s * i = omega arith in
    let y : s * (n + j) ≡ s * n + s * j = omega arith in
    omega (arith, ints, a, b, c, x, y)

-- a nested side weighs less, where its corner's first tile lies by the entered offset above that of the outer corner
pub lighter : (s inner_depth outer_depth inner_rank outer_rank : ℕ) (h : ℤ) → pos outer_depth +ℤ h ≡ pos inner_depth → (pos inner_rank +ℤ (pos s *ℤ h)) <ℤ pos outer_rank → s * inner_depth + inner_rank < s * outer_depth + outer_rank
lighter s inner_depth outer_depth inner_rank outer_rank h e l =
    let p = scaled s h inner_depth outer_depth e in
    omega (arith, ints, p)

-- Seen from the last tile of a corner, one more than the depth of its first tile is natural, since the last tile is at most one deeper.
pub above_first : (h : ℤ) (d : ℕ) → h ≤ℤ pos 1 → (e : ℕ) × (pos e +ℤ h ≡ pos (suc d))
above_first (pos zero) d l = (suc d, omega (arith, ints))
above_first (pos (suc zero)) d l = (d, omega (arith, ints))
above_first (pos (suc (suc n))) d l = absurd (omega (arith, ints))
above_first (negsuc n) d l = (suc (d + suc n), omega (arith, ints))
