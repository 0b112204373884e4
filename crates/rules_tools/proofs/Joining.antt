-- Links of states: chains of pairs, and what a link more or a halved one keeps.
use Rattle.std.proofs.Common.{◌≡◌, ◌≢◌, ◌⊎◌, inl, inr, ℕ, zero, suc, ◌+◌, ◌<◌, ◌≤◌, List, length, set, replicate, Bool, true, false, refl, sym, ap, ◌∙◌, subst, arith}
use Rattle.std.specs.Prelude.{Option, Some, None}
use Rattle.std.proofs.lemmas.Bool.{cases_eq, cases_lt}
use Rattle.std.proofs.lemmas.List.{get_or_past, get_or-set_same, get_or-set_other}
use Rattle.std.proofs.lemmas.List.Sums.{sum_by-set}
use Rattle.std.proofs.lemmas.List.Folds.{sum_by-replicate}
use Rattle.rules_tools.specs.Joined.{Linked, here, there, back, link_at, AreLinks, AreFalling, as_root, set_count}

module _ (E : ℕ → ℕ → Type 0) where
  pub linked_on : (x y z : ℕ) → Linked E x y → Linked E y z → Linked E x z
  linked_on x y z (here e) l = subst (λ w. Linked E w z) (sym e) l
  linked_on x y z (there w e m) l = there w e (linked_on w y z m l)
  linked_on x y z (back w e m) l = back w e (linked_on w y z m l)

  pub linked_back : (x y : ℕ) → Linked E x y → Linked E y x
  linked_back x y (here e) = here (sym e)
  linked_back x y (there w e m) = linked_on y w x (linked_back w y m) (back x e (here refl))
  linked_back x y (back w e m) = linked_on y w x (linked_back w y m) (there x e (here refl))

pub linked_more : (E F : ℕ → ℕ → Type 0) → ((x y : ℕ) → E x y → F x y) → (x y : ℕ) → Linked E x y → Linked F x y
linked_more E F more x y (here e) = here e
linked_more E F more x y (there w e m) = there w (more x w e) (linked_more E F more w y m)
linked_more E F more x y (back w e m) = back w (more w x e) (linked_more E F more w y m)

pub links_more : (E F : ℕ → ℕ → Type 0) → ((x y : ℕ) → E x y → F x y) → (above : List (Option ℕ)) → AreLinks E above → AreLinks F above
links_more E F more above h x y e = let (lt, l) = h x y e in (lt, linked_more E F more x y l)

link_below : (above : List (Option ℕ)) (x y : ℕ) → link_at above x ≡ Some y → x < length above
link_below above x y e = go (cases_lt x (length above))
  where
    go : (x < length above) ⊎ (length above ≤ x) → x < length above
    go (inl lt) = lt
    go (inr le) = let none = get_or_past above x None le in absurd (cc (none, e))

-- a link that was written
set_link : (above : List (Option ℕ)) (x z u v : ℕ) → x < length above → link_at (set above x (Some z)) u ≡ Some v → ((u ≡ x) × (z ≡ v)) ⊎ ((u ≢ x) × (link_at above u ≡ Some v))
set_link above x z u v lt e = go (cases_eq u x)
  where
    go : (u ≡ x) ⊎ (u ≢ x) → ((u ≡ x) × (z ≡ v)) ⊎ ((u ≢ x) × (link_at above u ≡ Some v))
    go (inl q) =
        let w : Some z ≡ Some v = sym (get_or-set_same above x (Some z) None lt) ∙ ap (link_at (set above x (Some z))) (sym q) ∙ e in
        inl (q, cc (w))
    go (inr d) = inr (d, sym (get_or-set_other above x u (Some z) None d) ∙ e)

module _ (above : List (Option ℕ)) (x y z : ℕ) (link : link_at above x ≡ Some y) (over : link_at above y ≡ Some z) where
  pub halved_falling : AreFalling above → AreFalling (set above x (Some z))
  halved_falling falling u v e = go (set_link above x z u v (link_below above x y link) e)
    where
      go : ((u ≡ x) × (z ≡ v)) ⊎ ((u ≢ x) × (link_at above u ≡ Some v)) → v < u
      go (inl (q, w)) = let one = falling x y link in let two = falling y z over in omega (arith, q, w, one, two)
      go (inr (d, old)) = falling u v old

  pub halved_links : (E : ℕ → ℕ → Type 0) → AreLinks E above → AreLinks E (set above x (Some z))
  halved_links E links u v e = go (set_link above x z u v (link_below above x y link) e)
    where
      go : ((u ≡ x) × (z ≡ v)) ⊎ ((u ≢ x) × (link_at above u ≡ Some v)) → (v < u) × Linked E u v
      go (inl (q, w)) =
          let one = links x y link in
          let two = links y z over in (
            omega (arith, q, w, one.0, two.0),
            subst (λ m. Linked E m v) (sym q) (subst (λ m. Linked E x m) w (linked_on E x y z one.1 two.1)),
          )
      go (inr (d, old)) = links u v old

  pub halved_roots : (u : ℕ) → link_at above u ≡ None → link_at (set above x (Some z)) u ≡ None
  halved_roots u none = go (cases_eq u x)
    where
      go : (u ≡ x) ⊎ (u ≢ x) → link_at (set above x (Some z)) u ≡ None
      go (inl q) = let other = ap (link_at above) q ∙ link in absurd (cc (none, other))
      go (inr d) = get_or-set_other above x u (Some z) None d ∙ none

  pub halved_count : set_count (set above x (Some z)) ≡ set_count above
  halved_count =
      let sums = sum_by-set as_root above x (Some z) None (link_below above x y link) in
      let was = ap as_root link in
      omega (arith, sums, was)

module _ (above : List (Option ℕ)) (x z : ℕ) (lt : x < length above) (root : link_at above x ≡ None) (lesser : z < x) where
  pub hung_falling : AreFalling above → AreFalling (set above x (Some z))
  hung_falling falling u v e = go (set_link above x z u v lt e)
    where
      go : ((u ≡ x) × (z ≡ v)) ⊎ ((u ≢ x) × (link_at above u ≡ Some v)) → v < u
      go (inl (q, w)) = omega (arith, q, w, lesser)
      go (inr (d, old)) = falling u v old

  pub hung_links : (E : ℕ → ℕ → Type 0) → AreLinks E above → Linked E x z → AreLinks E (set above x (Some z))
  hung_links E links l u v e = go (set_link above x z u v lt e)
    where
      go : ((u ≡ x) × (z ≡ v)) ⊎ ((u ≢ x) × (link_at above u ≡ Some v)) → (v < u) × Linked E u v
      go (inl (q, w)) = (omega (arith, q, w, lesser), subst (λ m. Linked E m v) (sym q) (subst (λ m. Linked E x m) w l))
      go (inr (d, old)) = links u v old

  pub hung_count : set_count (set above x (Some z)) + 1 ≡ set_count above
  hung_count =
      let sums = sum_by-set as_root above x (Some z) None lt in
      let was = ap as_root root in
      omega (arith, sums, was)

none_link : (n x y : ℕ) → link_at (replicate n None) x ≡ Some y → ⊥
none_link zero x y e = absurd (cc (e))
none_link (suc n) zero y e = absurd (cc (e))
none_link (suc n) (suc x) y e = none_link n x y e

-- where each state is alone
pub alone_links : (E : ℕ → ℕ → Type 0) (n : ℕ) → AreLinks E (replicate n None)
alone_links E n x y e = absurd (none_link n x y e)

pub alone_falling : (n : ℕ) → AreFalling (replicate n None)
alone_falling n x y e = absurd (none_link n x y e)

pub alone_count : (n : ℕ) → set_count (replicate n None) ≡ n
alone_count n = sum_by-replicate as_root n None ∙ omega arith

-- as many sets, or one less
pub count_most : (one : Bool) (now before : ℕ) → (one ≡ false → now + 1 ≡ before) → (one ≡ true → now ≡ before) → now ≤ before
count_most true now before less same = let e = same refl in omega (arith, e)
count_most false now before less same = let e = less refl in omega (arith, e)

abbrev alone : ℕ → List (Option ℕ)
alone n = replicate n None

pub alone_long : (n : ℕ) → length (alone n) ≡ n
alone_long zero = refl
alone_long (suc n) = omega (arith, alone_long n)
