-- What stands last in a line.
use Rattle.std.proofs.Common.{◌≡◌, ◌≢◌, ℕ, ◌+◌, ◌-◌, ◌≤◌, List, [], ◌∷◌, ◌++◌, sym, ap, ◌∙◌, append_assoc, arith}
use Rattle.std.proofs.lemmas.List.{same_from_push}

-- where no space stands before the last byte, no loop is told
pub no_loop : (numbers front : List ℕ) (digit : ℕ) → numbers ≡ front ++ digit ∷ [] → ((place : List ℕ) → front ≢ place ++ 32 ∷ []) → (place : List ℕ) (which : ℕ) → numbers ≢ place ++ 32 ∷ (48 + which) ∷ []
no_loop numbers front digit split none place which is =
    let whole : front ++ digit ∷ [] ≡ (place ++ 32 ∷ []) ++ (48 + which) ∷ [] = sym split ∙ is ∙ sym (append_assoc place (32 ∷ []) ((48 + which) ∷ [])) in
    none place (same_from_push front (place ++ 32 ∷ []) digit (48 + which) whole).0

-- the digit of the loop behind a space
pub loop_last : (numbers front place : List ℕ) (digit : ℕ) → 49 ≤ digit → numbers ≡ front ++ digit ∷ [] → front ≡ place ++ 32 ∷ [] → numbers ≡ place ++ 32 ∷ (48 + (digit - 48)) ∷ []
loop_last numbers front place digit least split spaced =
    let whole : digit ≡ 48 + (digit - 48) = omega (arith, least) in
    split ∙ ap (λ (l : List ℕ). l ++ digit ∷ []) spaced ∙ append_assoc place (32 ∷ []) (digit ∷ [])
    ∙ ap (λ (d : ℕ). place ++ 32 ∷ d ∷ []) whole
