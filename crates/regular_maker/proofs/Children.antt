-- The child between two claims: it lies one deeper round both corners, and its pair is again one.
use Rattle.std.proofs.Common.{◌≡◌, ℕ, suc, ◌+◌, ◌-◌, ◌*◌, ◌<◌, ◌≤◌, ◌⊎◌, inl, inr, refl, sym, ap, ◌∙◌, subst, arith, pos, ◌+ℤ◌, ◌-ℤ◌}
use Rattle.std.proofs.lemmas.Int.{ints}
use Rattle.std.proofs.lemmas.Bool.{cases_lt, le-leb, lt-leb}
use Rattle.tree_model.specs.declared.Claim.{Claim}
use Rattle.tree_model.specs.Automata.{further}
use Rattle.regular_maker.specs.Corners.{half, outer_of, depth_at}
use Rattle.regular_maker.specs.States.{lowest, beyond, nearer, right_claim, left_claim, rights, lefts, pair_claim, child_pair, first_pair}
use Rattle.regular_maker.specs.Pairs.{IsPair, IsBehind, IsAhead, AreNear}
use Rattle.regular_maker.specs.declared.symbol.Pair.{Pair}
use Rattle.regular_maker.proofs.Shapes.{IsShape, IsRight, IsLeft, half_least, lowest_right, lowest_left, right_not_first, left_not_last}
use Rattle.regular_maker.proofs.Runs.{left_first, runs_apart}
use Rattle.regular_maker.proofs.Claims.{told, claim_right, claim_left, claim_middle}

-- depths before the lowest tile, at it and behind it
pub depth_down : (q g t : ℕ) → t ≤ half q → depth_at q g t ≡ pos 0 -ℤ pos t
unfolding depth_at
depth_down q g t h = rw (le-leb t (half q) h) refl

pub depth_up : (q g t : ℕ) → half q < t → depth_at q g t ≡ pos t -ℤ pos (2 * half q + g)
unfolding depth_at
depth_up q g t h = rw (lt-leb t (half q) h) refl

-- behind the lowest tile the next one lies deeper
pub deeper_behind : (q g t : ℕ) → half q + g ≤ t → depth_at q g (suc t) ≡ depth_at q g t +ℤ pos 1
deeper_behind q g t h = go (cases_lt (half q) t)
  where
    go : (half q < t) ⊎ (t ≤ half q) → depth_at q g (suc t) ≡ depth_at q g t +ℤ pos 1
    go (inl more) = omega (arith, ints, depth_up q g (suc t) (omega arith), depth_up q g t more)
    go (inr less) = omega
        (arith, ints, h, depth_up q g (suc t) (omega (arith, h)), depth_down q g t less)

-- before it the one before lies deeper
pub deeper_ahead : (q g t : ℕ) → 1 ≤ t → t ≤ half q → depth_at q g (t - 1) ≡ depth_at q g t +ℤ pos 1
deeper_ahead q g t some h
    = omega (arith, ints, some, depth_down q g (t - 1) (omega (arith, h)), depth_down q g t h)

-- what stands before and behind a Child side
pub record IsOpen (q : ℕ) (c d : Claim) : Type 0 where
  pub behind : IsRight q c
  pub not_last : suc c.place < q
  pub ahead : IsLeft q d
  pub not_first : 1 ≤ d.place

pub further_behind : (q : ℕ) (c d : Claim) → IsOpen q c d → IsBehind q (further c)
further_behind q c d h
    = record {
      corner = h.behind.corner;
      behind = omega (arith, h.behind.behind);
      place = h.not_last;
    }

pub nearer_ahead : (q : ℕ) (c d : Claim) → IsOpen q c d → IsAhead q (nearer d)
nearer_ahead q c d h = record
    { corner = h.ahead.corner; ahead = omega (arith, h.ahead.ahead, h.not_first) }

module _ (p q : ℕ) (shape : IsShape p q) where
  pub root_open : IsOpen q (lowest q) (lowest q)
  root_open =
      let right = lowest_right p q shape in
      let left = lowest_left p q shape in
      record {
        behind = right;
        not_last = left_not_last p q shape (lowest q) left;
        ahead = left;
        not_first = right_not_first p q shape (lowest q) right;
      }

  pub first_is_pair : IsPair p q (first_pair q)
  unfolding lowest
  first_is_pair = record {
    first = further_behind q (lowest q) (lowest q) root_open;
    last = nearer_ahead q (lowest q) (lowest q) root_open;
    apart = inr (inl (omega arith));
  }

module _ (p q : ℕ) (shape : IsShape p q) (x : Pair) (pair : IsPair p q x) where
  pub child_open : (i : ℕ) → rights p q x < i → i + lefts p q x < p
      → IsOpen q (pair_claim p q x (i - 1)) (pair_claim p q x i)
  child_open i h g =
      let before = told p q shape x pair (i - 1) (omega (arith, g)) in
      let this = told p q shape x pair i (omega (arith, g)) in
      let other = before.not_last (omega (arith, h)) in
      let more = this.not_first g in
      record {
        behind = before.behind (omega (arith, h, g));
        not_last = omega (arith, before.place, other);
        ahead = this.ahead h;
        not_first = omega (arith, more);
      }

  -- Of triangles: a claim of a Child side is the lowest, or the one at the end of a run.
  after_lowest : (c d : Claim) → c ≡ lowest q → AreNear q (further c) d
  unfolding lowest
  after_lowest c d e = inl
      (omega (arith, ap (λ (b : Claim). b.place) e, ap (λ (b : Claim). b.corner) e))

  before_lowest : (c d : Claim) → d ≡ lowest q → AreNear q c (nearer d)
  unfolding lowest
  before_lowest c d e = inr (inl (omega (arith, ap (λ (b : Claim). b.place) e)))

  after_right : (c d : Claim) (g : ℕ) → c ≡ beyond q g → AreNear q (further c) d
  unfolding beyond outer_of
  after_right c d g e =
      inl (omega (
        arith,
        half_least p q shape,
        ap (λ (b : Claim). b.place) e,
        ap (λ (b : Claim). b.corner) e,
      ))

  -- where a Left side stands before the last side, claim 0 is next to the lowest tile
  next_to_lowest : 6 ≤ q → x.last.place ≡ 0 → (4 ≤ p) ⊎ AreNear q x.first x.last → p ≡ 3
      → x.first.place ≤ suc (half q + x.first.corner)
  next_to_lowest six e (inl four) three = absurd (omega (arith, four, three))
  next_to_lowest six e (inr (inl a)) three = a
  next_to_lowest six e (inr (inr (inl b))) three
      = absurd (omega (arith, b, e, six, shape.halves, shape.parity))
  next_to_lowest six e (inr (inr (inr c))) three
      = absurd (omega (arith, c.1, e, six, shape.halves, shape.parity))

  before_left : (d : Claim) (g : ℕ) → 6 ≤ q → x.first.place ≤ suc (half q + x.first.corner)
      → d ≡ outer_of q g → AreNear q (further x.first) (nearer d)
  unfolding outer_of
  before_left d g six h e =
      inr (inr (
        omega (arith, h),
        omega (arith, six, shape.halves, shape.parity, ap (λ (b : Claim). b.place) e),
      ))

  triangle : (i : ℕ) → p ≡ 3 → 6 ≤ q → rights p q x < i → i + lefts p q x < p
      → AreNear q (further (pair_claim p q x (i - 1))) (nearer (pair_claim p q x i))
  unfolding right_claim left_claim lefts
  triangle i three six h g =
      let apart = runs_apart p q shape x pair in
      go apart (cases_lt 0 (rights p q x)) (cases_lt 0 (lefts p q x)) (cases_lt 1 i)
    where
      go : 2 + (rights p q x + lefts p q x) ≤ p
          → (0 < rights p q x) ⊎ (rights p q x ≤ 0) → (0 < lefts p q x) ⊎ (lefts p q x ≤ 0)
          → (1 < i) ⊎ (i ≤ 1)
          → AreNear q (further (pair_claim p q x (i - 1))) (nearer (pair_claim p q x i))
      go apart (inl some) _ _ =
          let e : i - 1 ≡ 1 = omega (arith, apart, some, three, h, g) in
          let at : pair_claim p q x (i - 1) ≡ right_claim q x.first (i - 1)
          = claim_right p q x (i - 1) (omega (arith, e, some)) in
          after_right (pair_claim p q x (i - 1)) (nearer (pair_claim p q x i)) x.first.corner
          (at ∙ ap (right_claim q x.first) e)
      go apart (inr none) (inl some) _ =
          let e : p - 1 - i ≡ 1 = omega (arith, apart, some, three, h, g, none) in
          let f : i - 1 ≡ 0 = omega (arith, e, three) in
          let at : pair_claim p q x i ≡ left_claim q x.last (p - 1 - i)
          = claim_left p q x i h (omega (arith, e, some, three)) in
          let start : pair_claim p q x (i - 1) ≡ right_claim q x.first (i - 1)
          = claim_right p q x (i - 1) (omega (arith, f)) in
          let first : pair_claim p q x (i - 1) ≡ x.first = start ∙ ap (right_claim q x.first) f in
          let low = next_to_lowest six (left_first q (p - 1) x.last 0 some) pair.apart three in
          subst (λ (c : Claim). AreNear q (further c) (nearer (pair_claim p q x i))) (sym first)
          (before_left (pair_claim p q x i) x.last.corner six low
          (at ∙ ap (left_claim q x.last) e))
      go apart (inr none) (inr no_left) (inl second) =
          after_lowest (pair_claim p q x (i - 1)) (nearer (pair_claim p q x i))
          (claim_middle p q x (i - 1) (omega (arith, none, second))
          (omega (arith, no_left, three, g, second)))
      go apart (inr none) (inr no_left) (inr first) =
          before_lowest (further (pair_claim p q x (i - 1))) (pair_claim p q x i)
          (claim_middle p q x i h (omega (arith, no_left, three, first)))

  pub child_is_pair : (i : ℕ) → rights p q x < i → i + lefts p q x < p
      → IsPair p q (child_pair p q x i)
  unfolding child_pair
  child_is_pair i h g =
      let open_side = child_open i h g in
      record {
        first = further_behind q (pair_claim p q x (i - 1)) (pair_claim p q x i) open_side;
        last = nearer_ahead q (pair_claim p q x (i - 1)) (pair_claim p q x i) open_side;
        apart = elim shape.cases [
          | inl few ↦ inr (triangle i few.0 few.1 h g)
          | inr (inl three) ↦ inl (omega (arith, three.1))
          | inr (inr four) ↦ inl four.0
        ];
      }
