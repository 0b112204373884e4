-- The walk with a counter runs along a free way, stops at the matched side, and its measure tells the moves that are left.
use Rattle.std.proofs.Common.{◌≡◌, ℕ, zero, suc, ◌+◌, ◌≤◌, ◌<◌, true, false, nat_eq, refl, sym, ap, ◌∙◌, subst, arith}
use Rattle.tree_model.specs.Contours.{Mark, Closes, FreeWay, stay, tree, nested, AreMatched}
use Rattle.tree_laws.specs.Machine.{Halts, stops, hops, opens, closes, left_after, moves_left, Moved}
use Rattle.tree_laws.proofs.Ways.{size, high}

zero_is : (n : ℕ) → n ≡ 0 → nat_eq n 0 ≡ true
zero_is n e = grind arith

more_is_not : (n m : ℕ) → n ≡ suc m → nat_eq n 0 ≡ false
more_is_not n m e = grind arith

module _ (P : Type 0) (turn hop : P → P) (mark : P → Mark) where
  abbrev S : {x w : P} → FreeWay P turn hop mark x w → ℕ
  S = size P turn hop mark

  abbrev H : {x w : P} → FreeWay P turn hop mark x w → ℕ
  H = high P turn hop mark

  abbrev Run : ℕ → ℕ → P → ℕ → P → Type 0
  Run most = Halts P turn hop mark most

  -- along a free way, and then on
  pub goes : {most : ℕ} {x w : P} (a : FreeWay P turn hop mark x w) (c n : ℕ) {y : P} → suc c + H a ≤ most → Run most n w (suc c) y → Run most (S a + n) x (suc c) y
  goes {most} {x} {w} (stay e) c n {y} h t = subst (λ i. Run most i x (suc c) y) (omega arith) (subst (λ z. Run most n z (suc c) y) (sym e) t)
  goes (tree m r) c n h t = hops (S r + n) m (omega (arith, h)) (omega arith) (goes r c n h t)
  goes (nested v o a k b) c n h t =
      let q = goes b c n (omega (arith, h)) t in
      let q' = closes (S b + n) c k refl (omega (arith, h)) refl q in
      opens (S a + suc (S b + n)) o (omega (arith, h)) (omega arith) (goes a (suc c) (suc (S b + n)) (omega (arith, h)) q')

  -- from an opening side to the one that is matched with it
  pub halts : {x y : P} (m : AreMatched P turn hop mark x y) (most : ℕ) → 1 + H m.way ≤ most → Run most (S m.way) x 1 y
  halts {x} {y} m most h =
      let r = goes m.way 0 0 h (stops (ap mark m.turned ∙ m.closes) refl (omega (arith, h)) refl m.turned) in
      subst (λ i. Run most i x 1 y) (omega arith) r

  abbrev Rest : ℕ → P → ℕ → ℕ
  Rest f = moves_left P turn hop mark f

  -- the measure tells the moves that are left
  pub tells : {most n c : ℕ} {z y : P} → Run most n z c y → (f : ℕ) → n < f → Rest f z c ≡ n
  tells a zero h = absurd (omega (arith, h))
  tells {most} {n} {c} {z} {y} (stops k e l i j) (suc f) h =
      ap (λ q. left_after P (turn z) (hop (turn z)) (Rest f) q c) k ∙ ap (λ q. left_after P (turn z) (hop (turn z)) (Rest f) Closes q) e ∙ sym i
  tells {most} {n} {c} {z} {y} (hops m k l i r) (suc f) h =
      ap (λ q. left_after P (turn z) (hop (turn z)) (Rest f) q c) k ∙ ap (λ q. suc q) (tells {n = m} r f (omega (arith, h, i))) ∙ sym i
  tells {most} {n} {c} {z} {y} (opens m k l i r) (suc f) h =
      ap (λ q. left_after P (turn z) (hop (turn z)) (Rest f) q c) k ∙ ap (λ q. suc q) (tells {n = m} r f (omega (arith, h, i))) ∙ sym i
  tells {most} {n} {c} {z} {y} (closes m e k d l i r) (suc f) h =
      ap (λ q. left_after P (turn z) (hop (turn z)) (Rest f) q c) k ∙ ap (λ q. left_after P (turn z) (hop (turn z)) (Rest f) Closes q) d ∙ ap (λ q. suc q) (tells {n = m} r f (omega (arith, h, i))) ∙ sym i

  pub counter_most : {most n c : ℕ} {z y : P} → Run most n z c y → c ≤ most
  counter_most (stops k e l i j) = l
  counter_most (hops m k l i r) = l
  counter_most (opens m k l i r) = l
  counter_most (closes m e k d l i r) = l

  -- a move that is not the last leaves a move less
  pub goes_on : {most n c : ℕ} {z y : P} → Run most n z c y → (q : P) (e : ℕ) → 1 ≤ c → Moved P turn hop mark z c false q e → (m : ℕ) × (n ≡ suc m) × Run most m q e y × (1 ≤ e)
  goes_on (stops k f l i j) q e o v =
      let h = (v.closed k).0 in
      let z = zero_is e (omega (arith, (v.closed k).2, f)) in
      absurd (cc)
  goes_on {most} {n} {c} {z} {y} (hops m k l i r) q e o v =
      let h = v.hopped k in
      (m, i, subst (λ x. Run most m x e y) (sym h.1) (subst (λ b. Run most m (hop (turn z)) b y) (sym h.2) r), omega (arith, o, h.2))
  goes_on {most} {n} {c} {z} {y} (opens m k l i r) q e o v =
      let h = v.opened k in
      (m, i, subst (λ x. Run most m x e y) (sym h.1) (subst (λ b. Run most m (turn z) b y) (sym h.2) r), omega (arith, h.2))
  goes_on {most} {n} {c} {z} {y} (closes m b k d l i r) q e o v =
      let h = v.closed k in
      let g : suc b ≡ e = omega (arith, h.2, d) in
      (m, i, subst (λ x. Run most m x e y) (sym h.1) (subst (λ b. Run most m (turn z) b y) g r), omega (arith, g))

  -- the last move is to where it stops
  pub ends : {most n c : ℕ} {z y : P} → Run most n z c y → (q : P) (e : ℕ) → Moved P turn hop mark z c true q e → q ≡ y
  ends (stops k f l i j) q e v = (v.closed k).1 ∙ j
  ends (hops m k l i r) q e v = let h = (v.hopped k).0 in absurd (cc)
  ends (opens m k l i r) q e v = let h = (v.opened k).0 in absurd (cc)
  ends (closes m b k d l i r) q e v =
      let h = (v.closed k).0 in
      let f = more_is_not e b (omega (arith, (v.closed k).2, d)) in
      absurd (cc)
