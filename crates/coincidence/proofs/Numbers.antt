-- Numbers: tests, remainders by divisors.
use Rattle.std.proofs.Common.{◌≡◌, ℕ, zero, suc, ◌+◌, ◌%◌, ◌<◌, ◌≤◌, ◌⊎◌, false, nat_eq, refl, sym, ap, ◌∙◌, inl, inr, arith}
use Rattle.std.proofs.lemmas.Bool.Decides.{nat_tests}
use Rattle.std.proofs.Math.Nat.{mod-mod_of_dvd, mod-add-mod, dvd_of_mod-eq-zero, mod-eq-zero_of_dvd, dvd_trans, dvd-mod_iff, le_of_dvd, zero-mod}

pub zero_or_more : (t : ℕ) → (t ≡ 0) ⊎ (0 < t)
zero_or_more zero = inl refl
zero_or_more (suc n) = inr (omega arith)

pub not_zero : (t : ℕ) → 0 < t → nat_eq t 0 ≡ false
not_zero t h = grind (arith, nat_tests)

-- a remainder by a multiple does not change the remainder by the divisor
pub mod_mod : (i t s : ℕ) → t % s ≡ 0 → i % t % s ≡ i % s
mod_mod i t s e = mod-mod_of_dvd s i (dvd_of_mod-eq-zero s e)

pub mod_shift_mod : (i t s k : ℕ) → t % s ≡ 0 → (i % t + k) % s ≡ (i + k) % s
mod_shift_mod i t s k e = sym (mod-add-mod (i % t) s k) ∙ ap (λ m. (m + k) % s) (mod_mod i t s e) ∙ mod-add-mod i s k

pub divides_on : (a b c : ℕ) → a % b ≡ 0 → b % c ≡ 0 → a % c ≡ 0
divides_on a b c e f = mod-eq-zero_of_dvd c (dvd_trans c (dvd_of_mod-eq-zero c f) (dvd_of_mod-eq-zero b e))

-- a common divisor of b and of the rest of a by b divides a
pub divides_whole : (a b c : ℕ) → b % c ≡ 0 → (a % b) % c ≡ 0 → a % c ≡ 0
divides_whole a b c e f = mod-eq-zero_of_dvd c ((dvd-mod_iff c (dvd_of_mod-eq-zero c e)).0 (dvd_of_mod-eq-zero c f))

pub divisor_at_most : (a b : ℕ) → 0 < a → a % b ≡ 0 → b ≤ a
divisor_at_most a b h e = le_of_dvd h (dvd_of_mod-eq-zero b e)

pub none_left : (a b : ℕ) → a ≤ 0 → a % b ≡ 0
none_left zero b h = zero-mod b
none_left (suc a) b h = absurd (omega arith)
