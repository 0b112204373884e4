-- Elements of which each is a set of its own.
use Rattle.std.proofs.Common.{◌≡◌, ◌<◌, ◌≤◌, ℕ, ℤ, pos, List, [], ◌∷◌, ◌++◌, ◌⊎◌, inl, inr, length, length-append, sym, ◌∙◌, ap, subst, arith}
use Rattle.std.proofs.lemmas.Bool.{cases_lt}
use Rattle.std.proofs.lemmas.Int.{ints}
use Rattle.weighted_sets.specs.Sets.{Link, link_at, AreApart, Keep, AreSets}
use Rattle.weighted_sets.proofs.Links.{link-last, link-before, all_roots}

-- the link of an element to itself
abbrev pub to_itself : ℕ → Link
to_itself x = record { above = x; shift = record { place = pos 0; depth = pos 0 } }

abbrev pub AreAlone : List Link → Type 0
AreAlone links = (x : ℕ) → x < length links → link_at links x ≡ to_itself x

pub one_more : (links : List Link) (x : ℕ) → length links ≡ x → AreAlone links
    → AreAlone (links ++ to_itself x ∷ [])
one_more links x is alone y under = go (cases_lt y x)
  where
    go : (y < x) ⊎ (x ≤ y) → link_at (links ++ to_itself x ∷ []) y ≡ to_itself y
    go (inl less) = link-before links y (to_itself x) (omega (arith, is, less)) ∙ alone y (omega (arith, is, less))
    go (inr least) =
        let same : x ≡ y = omega (arith, least, under, is, length-append links (to_itself x ∷ [])) in
        subst (λ z. link_at (links ++ to_itself x ∷ []) z ≡ to_itself z) same (link-last links x (to_itself x) is)

pub alone_sets : (links : List Link) (n : ℕ) → length links ≡ n → AreAlone links
    → AreSets (record { links = links; count = n })
alone_sets links n is alone = record {
  before = λ x under. omega (arith, ap (λ l. l.above) (alone x under));
  place = λ x under _. ap (λ l. l.shift.place) (alone x under);
  depth = λ x under _. ap (λ l. l.shift.depth) (alone x under);
  count = sym (all_roots links (length links) (λ x under. ap (λ l. l.above) (alone x under)) ∙ is);
}

pub alone_free : (links : List Link) → AreAlone links → (places depths : ℕ → ℤ)
    → Keep places depths links
alone_free links alone places depths x under =
    subst (λ l. AreApart places depths l.above x l.shift) (sym (alone x under)) (record {
      place = omega (arith, ints);
      depth = omega (arith, ints);
    })
