-- Bounds in lists whose first three checks hold, and one tile further round a corner.
use Rattle.std.proofs.Common.{◌≡◌, ℕ, ◌+◌, ◌%◌, ◌<◌, ◌≤◌, Bool, List, length, refl, add-one, arith, mod-eq_of_lt}
use Rattle.handed_kinds.specs.Handed.{HandedKind, handed_at, around, around_times}
use Rattle.handed_kinds.specs.HandedFaults.{IsSized}

divisor_small : (n p : ℕ) → 3 ≤ n → n % p ≡ 0 → p ≤ n
divisor_small n p three rest = grind (arith, mod-eq_of_lt)

-- a repeat is at most 64
pub repeat_at_most : (hs : List HandedKind) (k : ℕ) → IsSized hs → k < length hs → (handed_at hs k).repeat ≤ 64
repeat_at_most hs k sized is_kind =
    let has = sized.sides k is_kind in
    let small = divisor_small (handed_at hs k).sides (handed_at hs k).repeat has.0 (sized.repeat k is_kind).divides in
    omega (arith, small, has.1)

pub around_next : (hs : List HandedKind) (n : ℕ) (t : ℕ × ℕ × Bool) → around_times hs (n + 1) t ≡ around hs (around_times hs n t)
around_next hs n t = rw (add-one n) refl
