-- Residues turned round, and the hands at both sides of a join.
use Rattle.std.proofs.Common.{◌≡◌, ℕ, ◌+◌, ◌-◌, ◌%◌, ◌<◌, inl, inr, Bool, true, false, refl, sym, ap, ◌∙◌, subst, arith, mod-eq_of_lt, mod-lt}
use Rattle.std.proofs.Math.Nat.{add-mod_right}
use Rattle.std.proofs.lemmas.Bool.{cases_eq}
use Rattle.std.proofs.lemmas.Bool.Decides.{nat_tests}
use Rattle.handed_kinds.specs.Handed.{next_residue, last_residue, hand_across}
use Rattle.handed_kinds.specs.Expansion.{opposite, turned}

opposite_zero : (p : ℕ) → opposite p 0 ≡ 0
opposite_zero p = grind (arith, nat_tests)

opposite_inside : (p s : ℕ) → 0 < s → s < p → opposite p s ≡ p - s
opposite_inside p s some lt = grind (arith, nat_tests)

opposite_twice : (p s : ℕ) → opposite p (opposite p s) ≡ s
opposite_twice p s = grind (arith, nat_tests)

opposite_below : (p s : ℕ) → s < p → opposite p s < p
opposite_below p s lt = grind (arith, nat_tests)

opposite_below_back : (p s : ℕ) → opposite p s < p → s < p
opposite_below_back p s lt = grind (arith, nat_tests)

pub turned_twice : (p : ℕ) (hand : Bool) (s : ℕ) → turned p hand (turned p hand s) ≡ s
turned_twice p false s = refl
turned_twice p true s = opposite_twice p s

pub turned_below : (p : ℕ) (hand : Bool) (s : ℕ) → s < p → turned p hand s < p
turned_below p false s lt = lt
turned_below p true s lt = opposite_below p s lt

pub turned_below_back : (p : ℕ) (hand : Bool) (s : ℕ) → turned p hand s < p → s < p
turned_below_back p false s lt = lt
turned_below_back p true s lt = opposite_below_back p s lt

-- the next residue and the last, without a remainder
pub next_inside : (p s : ℕ) → s + 1 < p → next_residue p s ≡ s + 1
next_inside p s lt = mod-eq_of_lt lt

pub next_wraps : (p s : ℕ) → s + 1 ≡ p → next_residue p s ≡ 0
next_wraps p s is = rw is (let z : 0 + p ≡ p = omega arith in ap (λ (n : ℕ). n % p) (sym z) ∙ add-mod_right 0 p ∙ zero_mod)
  where
    zero_mod : 0 % p ≡ 0
    zero_mod = mod-eq_of_lt (omega arith)

pub last_inside : (p s : ℕ) → 0 < s → s < p → last_residue p s ≡ s - 1
last_inside p s some lt =
    let e : s + (p - 1) ≡ s - 1 + p = omega arith in
    ap (λ (n : ℕ). n % p) e ∙ add-mod_right (s - 1) p ∙ mod-eq_of_lt (omega arith)

pub last_wraps : (p : ℕ) → 0 < p → last_residue p 0 ≡ p - 1
last_wraps p some =
    let e : 0 + (p - 1) ≡ p - 1 = omega arith in
    ap (λ (n : ℕ). n % p) e ∙ mod-eq_of_lt (omega arith)

-- a mirrored tile has its sides in the reverse order
at_zero : (p : ℕ) → 0 < p → opposite p (last_residue p 0) ≡ next_residue p 0
at_zero p some = ap (λ (n : ℕ). opposite p n) (last_wraps p some) ∙ elim (cases_eq p 1) [
  | inl one ↦ subst (λ (n : ℕ). opposite n (n - 1) ≡ next_residue n 0) (sym one) refl
  | inr more ↦
      let e : p - (p - 1) ≡ 0 + 1 = omega arith in
      opposite_inside p (p - 1) (omega arith) (omega arith) ∙ e ∙ sym (next_inside p 0 (omega arith))
]

at_some : (p s : ℕ) → 0 < s → s < p → opposite p (s - 1) ≡ next_residue p (p - s)
at_some p s some lt = elim (cases_eq s 1) [
  | inl one ↦
      let e : s - 1 ≡ 0 = omega arith in
      ap (λ (n : ℕ). opposite p n) e ∙ opposite_zero p ∙ sym (next_wraps p (p - s) (omega arith))
  | inr more ↦
      let e : p - (s - 1) ≡ p - s + 1 = omega arith in
      opposite_inside p (s - 1) (omega arith) (omega arith) ∙ e ∙ sym (next_inside p (p - s) (omega arith))
]

pub opposite_last : (p s : ℕ) → s < p → opposite p (last_residue p s) ≡ next_residue p (opposite p s)
opposite_last p s lt = elim (cases_eq s 0) [
  | inl zero ↦
      let there : opposite p 0 ≡ opposite p s = ap (λ (n : ℕ). opposite p n) (sym zero) in
      ap (λ (n : ℕ). opposite p (last_residue p n)) zero ∙ at_zero p (omega arith)
      ∙ ap (λ (n : ℕ). next_residue p n) (sym (opposite_zero p) ∙ there)
  | inr some ↦
      ap (λ (n : ℕ). opposite p n) (last_inside p s (omega arith) lt) ∙ at_some p s (omega arith) lt
      ∙ ap (λ (n : ℕ). next_residue p n) (sym (opposite_inside p s (omega arith) lt))
]

pub opposite_next : (p s : ℕ) → s < p → opposite p (next_residue p s) ≡ last_residue p (opposite p s)
opposite_next p s lt =
    let there = opposite_last p (opposite p s) (opposite_below p s lt) ∙ ap (λ (n : ℕ). next_residue p n) (opposite_twice p s) in
    ap (λ (n : ℕ). opposite p n) (sym there) ∙ opposite_twice p (last_residue p (opposite p s))

pub next_below : (p s : ℕ) → s < p → next_residue p s < p
next_below p s lt = mod-lt (s + 1) (omega arith)

pub last_below : (p s : ℕ) → s < p → last_residue p s < p
last_below p s lt = mod-lt (s + (p - 1)) (omega arith)

-- hands
pub across_twice : (mark hand : Bool) → hand_across mark (hand_across mark hand) ≡ hand
across_twice false hand = refl
across_twice true false = refl
across_twice true true = refl

-- what leads back to a plain hand has the same mark
pub same_mark : (mark other : Bool) → hand_across other (hand_across mark false) ≡ false → other ≡ mark
same_mark false false is = refl
same_mark false true is = absurd (cc)
same_mark true false is = absurd (cc)
same_mark true true is = refl
