-- The list of pairs in the order in which they are first met: it grows at its end, has no doubles,
-- holds pairs alone, and at the end holds the pair of each child.
use Rattle.std.proofs.Common.{◌≡◌, ℕ, zero, suc, ◌<◌, ◌≤◌, ◌⊎◌, inl, inr, List, [], ◌∷◌, length, get_or, refl, sym, ap, ◌∙◌, subst, arith, true, false}
use Rattle.std.specs.Prelude.{nat_eq}
use Rattle.std.proofs.lemmas.Bool.{cases_Bool, eqb-true, eq-eqb, and_parts, and_from}
use Rattle.tree_model.specs.declared.Claim.{Claim}
use Rattle.regular_maker.specs.Automaton.{same_claim, same_pair, index_in}
use Rattle.regular_maker.specs.declared.symbol.Pair.{Pair}

same_claim_true : (c d : Claim) → same_claim c d ≡ true → c ≡ d
same_claim_true c d e =
    let parts = and_parts (nat_eq c.corner d.corner) (nat_eq c.place d.place) e in
    let f = eqb-true c.corner d.corner parts.0 in
    let g = eqb-true c.place d.place parts.1 in
    λ i. record { corner = f i; place = g i }

same_claim_self : (c : Claim) → same_claim c c ≡ true
same_claim_self c = and_from (nat_eq c.corner c.corner) (nat_eq c.place c.place)
    (eq-eqb c.corner c.corner refl) (eq-eqb c.place c.place refl)

pub same_pair_true : (x y : Pair) → same_pair x y ≡ true → x ≡ y
unfolding same_pair
same_pair_true x y e =
    let parts = and_parts (same_claim x.first y.first) (same_claim x.last y.last) e in
    let f = same_claim_true x.first y.first parts.0 in
    let g = same_claim_true x.last y.last parts.1 in
    λ i. record { first = f i; last = g i }

pub same_pair_self : (x : Pair) → same_pair x x ≡ true
unfolding same_pair
same_pair_self x = and_from (same_claim x.first x.first) (same_claim x.last x.last)
    (same_claim_self x.first) (same_claim_self x.last)

index_here : (y : Pair) (ys : List Pair) (x : Pair) → same_pair y x ≡ true → index_in (y ∷ ys) x ≡ 0
unfolding index_in
index_here y ys x e = rw e refl

index_there : (y : Pair) (ys : List Pair) (x : Pair) → same_pair y x ≡ false
    → index_in (y ∷ ys) x ≡ suc (index_in ys x)
unfolding index_in
index_there y ys x e = rw e refl

index_few_step : (y : Pair) (ys : List Pair) (x : Pair) → index_in ys x ≤ length ys
    → (same_pair y x ≡ true) ⊎ (same_pair y x ≡ false) → index_in (y ∷ ys) x ≤ suc (length ys)
index_few_step y ys x before (inl e) = omega (arith, index_here y ys x e)
index_few_step y ys x before (inr e) = omega (arith, index_there y ys x e, before)

pub index_few : (ys : List Pair) (x : Pair) → index_in ys x ≤ length ys
unfolding index_in
index_few [] x = omega arith
index_few (y ∷ ys) x = index_few_step y ys x (index_few ys x) (cases_Bool (same_pair y x))

index_at_step : (d y : Pair) (ys : List Pair) (x : Pair)
    → (index_in ys x < length ys → get_or ys (index_in ys x) d ≡ x)
    → (same_pair y x ≡ true) ⊎ (same_pair y x ≡ false) → index_in (y ∷ ys) x < suc (length ys)
    → get_or (y ∷ ys) (index_in (y ∷ ys) x) d ≡ x
index_at_step d y ys x before (inl e) h = ap (λ i. get_or (y ∷ ys) i d) (index_here y ys x e)
    ∙ same_pair_true y x e
index_at_step d y ys x before (inr e) h =
    ap (λ i. get_or (y ∷ ys) i d) (index_there y ys x e)
    ∙ before (omega (arith, index_there y ys x e, h))

-- the entry at the index of a pair is that pair
pub index_at : (d : Pair) (ys : List Pair) (x : Pair) → index_in ys x < length ys
    → get_or ys (index_in ys x) d ≡ x
index_at d [] x h = absurd (omega arith)
index_at d (y ∷ ys) x h = index_at_step d y ys x (index_at d ys x) (cases_Bool (same_pair y x)) h

index_low_step : (d y : Pair) (ys : List Pair) (x : Pair)
    → ((k : ℕ) → k < length ys → get_or ys k d ≡ x → index_in ys x ≤ k)
    → (same_pair y x ≡ true) ⊎ (same_pair y x ≡ false) → (k : ℕ) → k < suc (length ys)
    → get_or (y ∷ ys) k d ≡ x → index_in (y ∷ ys) x ≤ k
index_low_step d y ys x before (inl e) k h f = omega (arith, index_here y ys x e)
index_low_step d y ys x before (inr e) zero h f
    = absurd (cc (e, subst (λ z. same_pair z x ≡ true) (sym f) (same_pair_self x)))
index_low_step d y ys x before (inr e) (suc k) h f
    = omega (arith, index_there y ys x e, before k (omega (arith, h)) f)

-- and no entry before it is
pub index_low : (d : Pair) (ys : List Pair) (x : Pair) (k : ℕ) → k < length ys → get_or ys k d ≡ x
    → index_in ys x ≤ k
index_low d [] x k h f = absurd (omega arith)
index_low d (y ∷ ys) x k h f
    = index_low_step d y ys x (index_low d ys x) (cases_Bool (same_pair y x)) k h f
