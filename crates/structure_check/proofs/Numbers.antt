-- Facts on numbers: one more index below a bound, and equal bits of signed numbers.
use Rattle.std.proofs.Common.{◌≡◌, ◌∙◌, ℕ, ◌+◌, ◌<◌, ◌≤◌, inl, inr, sym, ap, subst, ℤ, to_z, of_z, FitsSigned, IsTrue, nat_eq, ◌↔◌, arith}
use Rattle.std.proofs.lemmas.Int.{to_z-of_z}
use Rattle.std.proofs.Math.Nat.{eq-or-lt_of_le}
use mir.Syntax.{w16}
use Rattle.std.proofs.lemmas.Bool.{eqb-true, eq-eqb}

-- what holds below n and at n holds below n + 1
pub below_more : (P : ℕ → Type 0) (n : ℕ) → ((i : ℕ) → i < n → P i) → P n → (i : ℕ) → i < n + 1 → P i
below_more P n below at i less =
    let le : i ≤ n = omega arith in
    elim (eq-or-lt_of_le le) [
      | inl same ↦ subst P (sym same) at
      | inr lower ↦ below i lower
    ]

-- two signed numbers of 16 bits have the same bits exactly where they are equal
pub same_bits : (x y : ℤ) → FitsSigned w16 x → FitsSigned w16 y → IsTrue (nat_eq (of_z w16 x) (of_z w16 y)) ↔ (x ≡ y)
same_bits x y fits_x fits_y = (λ same. sym (to_z-of_z w16 x fits_x) ∙ (ap (to_z w16) (eqb-true _ _ same) ∙ to_z-of_z w16 y fits_y), λ e. eq-eqb _ _ (ap (of_z w16) e))
