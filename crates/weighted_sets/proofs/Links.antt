-- Links of a list that are changed at one element, and the number of roots.
use Rattle.std.proofs.Common.{◌≡◌, ◌≢◌, ◌<◌, ℕ, zero, suc, List, [], ◌∷◌, ◌++◌, ◌⊎◌, inl, inr, false, length, set, nat_eq, if◌then◌else◌, refl, sym, ◌∙◌, ap, subst, arith}
use Rattle.std.proofs.lemmas.Bool.{cases_eq, eq-eqb}
use Rattle.std.proofs.lemmas.Bool.Decides.{nat_tests}
use Rattle.std.proofs.lemmas.List.{get_or-set_same, get_or-set_other, get_or_append_left, get_or_push}
use Rattle.weighted_sets.specs.Sets.{Link, no_link, link_at, IsRoot, one_if_root, root_count}

-- a link that was set, and the others
pub link-set_same : (links : List Link) (x : ℕ) (l : Link) → x < length links
    → link_at (set links x l) x ≡ l
unfolding link_at
link-set_same links x l under = get_or-set_same links x l no_link under

pub link-set_other : (links : List Link) (x y : ℕ) (l : Link) → y ≢ x
    → link_at (set links x l) y ≡ link_at links y
unfolding link_at
link-set_other links x y l other = get_or-set_other links x y l no_link other

-- a link that was pushed, and the others
pub link-last : (links : List Link) (x : ℕ) (l : Link) → length links ≡ x
    → link_at (links ++ l ∷ []) x ≡ l
unfolding link_at
link-last links x l is = get_or_push links l no_link x is

pub link-before : (links : List Link) (x : ℕ) (l : Link) → x < length links
    → link_at (links ++ l ∷ []) x ≡ link_at links x
unfolding link_at
link-before links x l under = get_or_append_left links (l ∷ []) no_link x under

-- what is counted at a root, and at others
root-one : (links : List Link) (x : ℕ) → IsRoot links x → one_if_root links x ≡ 1
unfolding one_if_root
root-one links x root = ap (λ b. if b then 1 else 0) (eq-eqb (link_at links x).above x root)

differs : (a b : ℕ) → a ≢ b → nat_eq a b ≡ false
differs a b other = grind (arith, nat_tests, other)

other-none : (links : List Link) (x : ℕ) → (link_at links x).above ≢ x → one_if_root links x ≡ 0
unfolding one_if_root
other-none links x other =
    ap (λ b. if b then 1 else 0) (differs (link_at links x).above x other)

same-one : (links others : List Link) (x : ℕ)
    → (link_at links x).above ≡ (link_at others x).above
    → one_if_root links x ≡ one_if_root others x
unfolding one_if_root
same-one links others x same = ap (λ a. if nat_eq a x then 1 else 0) same

-- all of the first n elements are roots
pub all_roots : (links : List Link) (n : ℕ) → ((x : ℕ) → x < n → IsRoot links x)
    → root_count links n ≡ n
unfolding root_count
all_roots links zero roots = refl
all_roots links (suc n) roots =
    omega (
      arith,
      root-one links n (roots n (omega arith)),
      all_roots links n (λ x under. roots x (omega (arith, under))),
    )

-- as many roots where each element is one in both lists or in none
pub same_count : (links others : List Link) (n : ℕ)
    → ((x : ℕ) → x < n → one_if_root links x ≡ one_if_root others x)
    → root_count links n ≡ root_count others n
unfolding root_count
same_count links others zero same = refl
same_count links others (suc n) same =
    omega (arith, same n (omega arith), same_count links others n (λ x under. same x (omega (arith, under))))

-- what holds of one element and of each other one holds of all
pub at_each : (at : ℕ) (P : ℕ → Type 0) → P at → ((x : ℕ) → x ≢ at → P x) → (x : ℕ) → P x
at_each at P here elsewhere x = go (cases_eq x at)
  where
    go : (x ≡ at) ⊎ (x ≢ at) → P x
    go (inl is) = subst P (sym is) here
    go (inr other) = elsewhere x other

-- a link that leads elsewhere makes its element no root, and all others stay what they are
module _ (links : List Link) (at : ℕ) (l : Link) (under : at < length links) (leads : l.above ≢ at) where
  none-at_it : one_if_root (set links at l) at ≡ 0
  none-at_it = other-none (set links at l) at
      (λ e. leads (sym (ap (λ k. k.above) (link-set_same links at l under)) ∙ e))

  one-elsewhere : (x : ℕ) → x ≢ at → one_if_root links x ≡ one_if_root (set links at l) x
  one-elsewhere x other = same-one links (set links at l) x
      (ap (λ k. k.above) (sym (link-set_other links at x l other)))

  -- as many roots where the element was none
  pub kept_count : (link_at links at).above ≢ at → (n : ℕ)
      → root_count links n ≡ root_count (set links at l) n
  kept_count none n = same_count links (set links at l) n (λ x _. at_each at
      (λ y. one_if_root links y ≡ one_if_root (set links at l) y)
      (other-none links at none ∙ sym none-at_it) one-elsewhere x)

  less_step : IsRoot links at → (n : ℕ) → at < suc n
      → (at < n → root_count links n ≡ suc (root_count (set links at l) n))
      → root_count links (suc n) ≡ suc (root_count (set links at l) (suc n))
  unfolding root_count
  less_step root n before hypothesis = go (cases_eq n at)
    where
      go : (n ≡ at) ⊎ (n ≢ at)
          → root_count links (suc n) ≡ suc (root_count (set links at l) (suc n))
      go (inl is) = omega (
        arith,
        subst (λ x. one_if_root links x ≡ 1) (sym is) (root-one links at root),
        subst (λ x. one_if_root (set links at l) x ≡ 0) (sym is) none-at_it,
        same_count links (set links at l) n
            (λ x less. one-elsewhere x (λ e. absurd (omega (arith, less, e, is)))),
      )
      go (inr other) = omega (arith, one-elsewhere n other, hypothesis (omega (arith, before, other)))

  -- one root less where it was one
  pub less_count : IsRoot links at → (n : ℕ) → at < n
      → root_count links n ≡ suc (root_count (set links at l) n)
  less_count root zero before = absurd (omega (arith, before))
  less_count root (suc n) before = less_step root n before (λ less. less_count root n less)
