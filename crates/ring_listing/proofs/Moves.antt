-- Each move leaves fewer.
use Rattle.std.proofs.Common.{◌≡◌, ℕ, zero, suc, ◌+◌, ◌-◌, ◌*◌, ◌<◌, ◌≤◌, List, [], ◌∷◌, ◌++◌, length, ap, arith}
use Rattle.std.proofs.lemmas.Nat.{mul-le}
use Rattle.ring_listing.specs.Trails.{moves_below, moves_behind}

moves_positive : (e : ℕ) → 1 ≤ moves_below e
moves_positive zero = omega arith
moves_positive (suc e) = let more = moves_positive e in omega (arith, more)

down_here : (p i x : ℕ) → 1 ≤ p → i ≤ x → x < 64 → 65 * p + (64 - x) * (66 * p) < (65 - i) * (66 * p)
down_here p i x one l h =
    let q = 64 - x in
    let more = mul-le (suc q) (66 * p) (65 - i) (66 * p) (omega (arith, l, h)) (omega arith) in
    let split : suc q * (66 * p) ≡ 66 * p + q * (66 * p) = omega arith in
    omega (arith, more, split, one)

back_here : (p r x i : ℕ) → 1 ≤ p → i ≤ 64 → x < 64 → (65 - suc x) * r < (65 - i) * p + (64 - x) * r
back_here p r x i one l h =
    let more = mul-le 1 1 (65 - i) p (omega (arith, l)) one in
    let same : (65 - suc x) * r ≡ (64 - x) * r = ap (λ n. n * r) (omega (arith, h)) in
    omega (arith, more, same)

pub moves_down : (e : ℕ) (m : List ℕ) (i x : ℕ) → length m < e → i ≤ x → x < 64 → moves_behind e (m ++ x ∷ []) 0 < moves_behind e m i
moves_down zero m i x less l h = absurd (omega (arith, less))
moves_down (suc e) [] i x less l h = down_here (moves_below e) i x (moves_positive e) l h
moves_down (suc e) (y ∷ m) i x less l h =
    let more = moves_down e m i x (omega (arith, less)) l h in omega (arith, more)

pub moves_back : (e : ℕ) (m : List ℕ) (x i : ℕ) → length m < e → i ≤ 64 → x < 64 → moves_behind e m (suc x) < moves_behind e (m ++ x ∷ []) i
moves_back zero m x i less l h = absurd (omega (arith, less))
moves_back (suc e) [] x i less l h = back_here (moves_below e) (moves_below (suc e)) x i (moves_positive e) l h
moves_back (suc e) (y ∷ m) x i less l h =
    let more = moves_back e m x i (omega (arith, less)) l h in omega (arith, more)
