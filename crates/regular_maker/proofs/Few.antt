-- A list of pairs of states without doubles has 16,384 entries at most: pairs have different
-- numbers below 128 times 128.
use Rattle.std.proofs.Common.{◌≡◌, ℕ, suc, ◌+◌, ◌*◌, ◌<◌, ◌≤◌, inl, inr, List, [], ◌∷◌, length, get_or, map, sym, ◌∙◌, arith, true}
use Rattle.std.specs.Prelude.{nat_eq}
use Rattle.std.specs.List.{list_any, IsDistinct}
use Rattle.std.proofs.lemmas.Bool.{eqb-true, ne_eqb, or_cases}
use Rattle.std.proofs.lemmas.List.{get_or-map, length-map}
use Rattle.std.proofs.lemmas.Map.Keys.{IsDistinct-from_apart}
use Rattle.std.proofs.lemmas.Map.Steps.{length-le_from_distinct_below}
use Rattle.tree_model.specs.declared.Claim.{Claim}
use Rattle.regular_maker.specs.Pairs.{IsPair}
use Rattle.regular_maker.specs.States.{first_pair}
use Rattle.regular_maker.specs.Automaton.{pair_at}
use Rattle.regular_maker.specs.declared.symbol.Pair.{Pair}
use Rattle.regular_maker.proofs.Shapes.{IsShape}
use Rattle.regular_maker.proofs.Growing.{IsList}

claim_number : Claim → ℕ
claim_number c = c.corner * 64 + c.place

pair_number : Pair → ℕ
pair_number x = claim_number x.first * 128 + claim_number x.last

-- one of the two corner types, and one of 64 places
record IsSmall (c : Claim) : Type 0 where
  corner : c.corner < 2
  place : c.place < 64

claim_below : (c : Claim) → IsSmall c → claim_number c < 128
unfolding claim_number
claim_below c h = omega (arith, h.corner, h.place)

claim_one : (c d : Claim) → IsSmall c → IsSmall d → claim_number c ≡ claim_number d → c ≡ d
unfolding claim_number
claim_one c d h g e =
    let corner : c.corner ≡ d.corner = omega (arith, h.place, g.place, e) in
    let place : c.place ≡ d.place = omega (arith, corner, e) in
    λ i. record { corner = corner i; place = place i }

below_from : (xs : List ℕ) (n : ℕ) → ((k : ℕ) → k < length xs → get_or xs k 0 < n) → (m : ℕ)
    → list_any (nat_eq m) xs ≡ true → m < n
below_from [] n all m e = absurd (cc)
below_from (x ∷ xs) n all m e = elim (or_cases (nat_eq m x) (list_any (nat_eq m) xs) e) [
  | inl here ↦ omega (arith, eqb-true m x here, all 0 (omega arith))
  | inr there ↦ below_from xs n (λ k h. all (suc k) (omega (arith, h))) m there
]

module _ (p q : ℕ) (shape : IsShape p q) where
  first_small : (x : Pair) → IsPair p q x → IsSmall x.first
  first_small x h = record {
    corner = omega (arith, h.first.corner, shape.parity);
    place = omega (arith, h.first.place, shape.tiles);
  }

  last_small : (x : Pair) → IsPair p q x → IsSmall x.last
  last_small x h = record {
    corner = omega (arith, h.last.corner, shape.parity);
    place = omega (arith, h.last.ahead, shape.halves, shape.tiles);
  }

  pair_below : (x : Pair) → IsPair p q x → pair_number x < 16384
  unfolding pair_number
  pair_below x h = omega
      (arith, claim_below x.first (first_small x h), claim_below x.last (last_small x h))

  pair_one : (x y : Pair) → IsPair p q x → IsPair p q y → pair_number x ≡ pair_number y → x ≡ y
  unfolding pair_number
  pair_one x y h g e =
      let below = claim_below x.last (last_small x h) in
      let under = claim_below y.last (last_small y g) in
      let front : claim_number x.first ≡ claim_number y.first = omega (arith, below, under, e) in
      let back : claim_number x.last ≡ claim_number y.last = omega (arith, front, e) in
      let first = claim_one x.first y.first (first_small x h) (first_small y g) front in
      let last = claim_one x.last y.last (last_small x h) (last_small y g) back in
      λ i. record { first = first i; last = last i }

  pub few_pairs : (xs : List Pair) → IsList p q xs → length xs ≤ 16384
  unfolding pair_at
  few_pairs xs list =
      let numbers : List ℕ = map pair_number xs in
      let at = λ (k d : ℕ) (h : k < length xs). get_or-map pair_number xs k (first_pair q) d h in
      let long : length numbers ≡ length xs = length-map xs pair_number in
      let distinct : IsDistinct nat_eq numbers = IsDistinct-from_apart nat_eq numbers (λ i j d h g.
      let there : j < length xs = omega (arith, g, long) in
      let here : i < length xs = omega (arith, h, there) in
      ne_eqb (get_or numbers i d) (get_or numbers j d) (λ e.
      list.distinct i j h there
      (pair_one (get_or xs i (first_pair q)) (get_or xs j (first_pair q))
      (list.pairs i here) (list.pairs j there)
      (sym (at i d here) ∙ e ∙ at j d there)))) in
      let below : (k : ℕ) → k < length numbers → get_or numbers k 0 < 16384 = λ k h.
      let here : k < length xs = omega (arith, h, long) in
      omega (arith, at k 0 here, pair_below (get_or xs k (first_pair q)) (list.pairs k here)) in
      omega (
        arith,
        long,
        length-le_from_distinct_below numbers 16384 distinct
            (below_from numbers 16384 below),
      )
