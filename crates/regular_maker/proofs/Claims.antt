-- The claims of the state of a pair: which have place 0, which have the last place, and what stands
-- beside the runs.
use Rattle.std.proofs.Common.{◌≡◌, ◌≢◌, ℕ, suc, ◌+◌, ◌-◌, ◌<◌, ◌≤◌, ◌⊎◌, inl, inr, refl, sym, ap, ◌∙◌, subst, arith}
use Rattle.std.proofs.lemmas.Bool.{cases_lt, le-leb, lt-leb}
use Rattle.tree_model.specs.declared.Claim.{Claim}
use Rattle.regular_maker.specs.Corners.{parity, outer_of}
use Rattle.regular_maker.specs.States.{lowest, beyond, right_claim, right_run, left_claim, left_run, rights, lefts, pair_claim}
use Rattle.regular_maker.specs.Pairs.{IsPair}
use Rattle.regular_maker.specs.declared.symbol.Pair.{Pair}
use Rattle.regular_maker.proofs.Shapes.{IsShape, IsRight, IsLeft, right_of, left_of, lowest_right, lowest_left, right_not_first, left_not_last}
use Rattle.regular_maker.proofs.Runs.{right_last, right_ends, left_first, left_stops, right_stays, left_stays, runs_apart}

module _ (p q : ℕ) where
  -- a claim within the run of Right sides, within that of Left sides, and between them
  pub claim_right : (x : Pair) (i : ℕ) → i ≤ rights p q x
      → pair_claim p q x i ≡ right_claim q x.first i
  unfolding pair_claim
  claim_right x i h = rw (le-leb i (rights p q x) h) refl

  pub claim_left : (x : Pair) (i : ℕ) → rights p q x < i → p - 1 ≤ i + lefts p q x
      → pair_claim p q x i ≡ left_claim q x.last (p - 1 - i)
  unfolding pair_claim
  claim_left x i h g = rw (lt-leb i (rights p q x) h, le-leb (p - 1) (i + lefts p q x) g) refl

  pub claim_middle : (x : Pair) (i : ℕ) → rights p q x < i → i + lefts p q x < p - 1
      → pair_claim p q x i ≡ lowest q
  unfolding pair_claim
  claim_middle x i h g = rw (lt-leb i (rights p q x) h, lt-leb (p - 1) (i + lefts p q x) g) refl

-- What a claim of the state of a pair is, as far as the conditions ask: it is one of a corner, it
-- has the last place exactly where it lies in the run of Right sides, and place 0 exactly where it
-- lies in that of Left sides.
pub record IsTold (p q : ℕ) (x : Pair) (i : ℕ) (c : Claim) : Type 0 where
  pub corner : c.corner ≤ parity q
  pub place : c.place < q
  pub last : i < rights p q x → suc c.place ≡ q
  pub not_last : rights p q x ≤ i → suc c.place ≢ q
  pub first : p ≤ i + lefts p q x → c.place ≡ 0
  pub not_first : i + lefts p q x < p → c.place ≢ 0
  pub behind : i + lefts p q x < p - 1 → IsRight q c
  pub ahead : rights p q x < i → IsLeft q c

module _ (p q : ℕ) (shape : IsShape p q) (x : Pair) (pair : IsPair p q x) where
  told_right : (i : ℕ) → i ≤ rights p q x → IsTold p q x i (right_claim q x.first i)
  unfolding rights
  told_right i h =
      let c = right_claim q x.first i in
      let right = right_stays p q shape x.first i (right_of q x.first pair.first) in
      let apart = runs_apart p q shape x pair in
      record {
        corner = right.corner;
        place = right.place;
        last = λ less. right_last q (p - 1) x.first i less;
        not_last = λ more.
            let e : right_run q x.first (p - 1) ≡ i = omega arith in
            let few : right_run q x.first (p - 1) < p - 1 = omega (arith, apart) in
            subst (λ j. suc (right_claim q x.first j).place ≢ q) e (right_ends q (p - 1) x.first few);
        first = λ more. absurd (omega (arith, apart, more));
        not_first = λ less. omega (arith, right_not_first p q shape c right);
        behind = λ less. right;
        ahead = λ more. absurd (omega (arith, more));
      }

  told_middle : (i : ℕ) → rights p q x < i → i + lefts p q x < p - 1 → IsTold p q x i (lowest q)
  told_middle i h g =
      let right = lowest_right p q shape in
      let left = lowest_left p q shape in
      record {
        corner = right.corner;
        place = right.place;
        last = λ less. absurd (omega (arith, less));
        not_last = λ more. omega (arith, left_not_last p q shape (lowest q) left);
        first = λ more. absurd (omega (arith, more));
        not_first = λ less. omega (arith, right_not_first p q shape (lowest q) right);
        behind = λ less. right;
        ahead = λ more. left;
      }

  told_left : (i : ℕ) → i < p → rights p q x < i → p - 1 ≤ i + lefts p q x
      → IsTold p q x i (left_claim q x.last (p - 1 - i))
  unfolding lefts
  told_left i side h g =
      let j = p - 1 - i in
      let c = left_claim q x.last j in
      let left = left_stays p q shape x.last j (left_of q x.last pair.last) in
      let apart = runs_apart p q shape x pair in
      let within = left_not_last p q shape c left in
      record {
        corner = left.corner;
        place = omega (arith, within);
        last = λ less. absurd (omega (arith, less));
        not_last = λ more. omega (arith, within);
        first = λ more. left_first q (p - 1) x.last j (omega (arith, more, side));
        not_first = λ less.
            let e : left_run q x.last (p - 1) ≡ j = omega (arith, less, g, side) in
            let few : left_run q x.last (p - 1) < p - 1 = omega (arith, apart) in
            subst (λ k. (left_claim q x.last k).place ≢ 0) e (left_stops q (p - 1) x.last few);
        behind = λ less. absurd (omega (arith, less));
        ahead = λ more. left;
      }

  pub told : (i : ℕ) → i < p → IsTold p q x i (pair_claim p q x i)
  told i side = go (cases_lt (rights p q x) i) (cases_lt (i + lefts p q x) (p - 1))
    where
      go : (rights p q x < i) ⊎ (i ≤ rights p q x)
          → (i + lefts p q x < p - 1) ⊎ (p - 1 ≤ i + lefts p q x)
          → IsTold p q x i (pair_claim p q x i)
      go (inr h) _ = subst (IsTold p q x i) (sym (claim_right p q x i h)) (told_right i h)
      go (inl h) (inl g) = subst (IsTold p q x i) (sym (claim_middle p q x i h g))
          (told_middle i h g)
      go (inl h) (inr g) = subst (IsTold p q x i) (sym (claim_left p q x i h g))
          (told_left i side h g)

  -- the claim before a Left side is the outer of the claim behind it
  pub claim_before_left : (i : ℕ) → 1 ≤ i → i < p → p ≤ i + lefts p q x
      → pair_claim p q x (i - 1) ≡ outer_of q (pair_claim p q x i).corner
  unfolding left_claim
  claim_before_left i some side left =
      let apart = runs_apart p q shape x pair in
      let e : p - 1 - (i - 1) ≡ suc (p - 1 - i) = omega (arith, some, side) in
      let before : pair_claim p q x (i - 1) ≡ left_claim q x.last (p - 1 - (i - 1))
      = claim_left p q x (i - 1) (omega (arith, apart, left)) (omega (arith, left, some)) in
      let this : pair_claim p q x i ≡ left_claim q x.last (p - 1 - i)
      = claim_left p q x i (omega (arith, apart, left)) (omega (arith, left)) in
      before ∙ ap (left_claim q x.last) e ∙ ap (λ (c : Claim). outer_of q c.corner) (sym this)

  -- the claim behind a Right side is further than the outer of the claim before it
  pub claim_behind_right : (i : ℕ) → 1 ≤ i → i ≤ rights p q x
      → pair_claim p q x i ≡ beyond q (pair_claim p q x (i - 1)).corner
  unfolding right_claim
  claim_behind_right i some right =
      let e : i ≡ suc (i - 1) = omega (arith, some) in
      let this : pair_claim p q x i ≡ right_claim q x.first i = claim_right p q x i right in
      let before : pair_claim p q x (i - 1) ≡ right_claim q x.first (i - 1)
      = claim_right p q x (i - 1) (omega (arith, right)) in
      this ∙ ap (right_claim q x.first) e ∙ ap (λ (c : Claim). beyond q c.corner) (sym before)

  -- the claims at the two ends are the pair
  pub claim_at_start : pair_claim p q x 0 ≡ x.first
  unfolding right_claim
  claim_at_start = claim_right p q x 0 (omega arith)

  pub claim_at_end : pair_claim p q x (p - 1) ≡ x.last
  unfolding left_claim
  claim_at_end =
      let apart = runs_apart p q shape x pair in
      let e : p - 1 - (p - 1) ≡ 0 = omega arith in
      claim_left p q x (p - 1) (omega (arith, apart)) (omega arith) ∙ ap (left_claim q x.last) e
