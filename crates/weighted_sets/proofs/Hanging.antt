-- A root that is linked to an element before it.
use Rattle.std.proofs.Common.{◌≡◌, ◌<◌, ◌≤◌, ℕ, suc, ℤ, pos, List, length, set, length-set, sym, ◌∙◌, ap, subst, arith}
use Rattle.std.proofs.lemmas.Int.{ints}
use Rattle.weighted_sets.specs.Sets.{Link, link_at, AreApart, Keep, KeepMore, AreSets, IsRoot, root_count}
use Rattle.weighted_sets.proofs.Links.{link-set_same, link-set_other, at_each, less_count}
use Rattle.weighted_sets.proofs.Halving.{over_links, shorter}

-- a new link of a root to an element before it
pub record IsHung (links : List Link) (at : ℕ) (new : Link) : Type 0 where
  pub under : at < length links
  pub root : IsRoot links at
  pub leads : new.above < at

module _ (links : List Link) (at : ℕ) (new : Link) (hung : IsHung links at new) where
  longer : (x : ℕ) → x < length links → x < length (set links at new)
  longer x under = subst (λ n. x < n) (sym (length-set links at new)) under

  -- a root before is apart from itself by nothing
  still : (count : ℕ) → AreSets (record { links = links; count = count })
      → (places depths : ℕ → ℤ)
      → AreApart places depths (link_at links at).above at (link_at links at).shift
  still count sets places depths = record {
    place = omega (arith, ints, ap places hung.root, sets.place at hung.under hung.root);
    depth = omega (arith, ints, ap depths hung.root, sets.depth at hung.under hung.root);
  }

  keep_before : (count : ℕ) → AreSets (record { links = links; count = count })
      → (places depths : ℕ → ℤ) → Keep places depths (set links at new) → Keep places depths links
  keep_before count sets places depths keep = at_each at
      (λ x. x < length links → AreApart places depths (link_at links x).above x (link_at links x).shift)
      (λ _. still count sets places depths)
      (λ x other under. subst (λ l. AreApart places depths l.above x l.shift)
      (link-set_other links at x new other) (keep x (longer x under)))

  keep_behind : (places depths : ℕ → ℤ) → Keep places depths links
      → AreApart places depths new.above at new.shift → Keep places depths (set links at new)
  keep_behind places depths keep apart x under = over_links links at new hung.under
      (λ y l. y < length links → AreApart places depths l.above y l.shift)
      (λ _. apart) (λ y _ low. keep y low) x (shorter links at x new under)

  apart_behind : (places depths : ℕ → ℤ) → Keep places depths (set links at new)
      → AreApart places depths new.above at new.shift
  apart_behind places depths keep = subst (λ l. AreApart places depths l.above at l.shift)
      (link-set_same links at new hung.under) (keep at (longer at hung.under))

  pub hung_more : (count : ℕ) → AreSets (record { links = links; count = count })
      → KeepMore links (set links at new) new.above at new.shift
  unfolding KeepMore
  hung_more count sets places depths = (
    λ keep. (keep_before count sets places depths keep, apart_behind places depths keep),
    λ both. keep_behind places depths both.0 both.1,
  )

  pub hung_count : root_count links (length links)
      ≡ suc (root_count (set links at new) (length (set links at new)))
  hung_count = less_count links at new hung.under (λ e. absurd (omega (arith, e, hung.leads)))
      hung.root (length links) hung.under
      ∙ ap (λ n. suc (root_count (set links at new) n)) (sym (length-set links at new))

  pub hung_sets : (count less : ℕ) → AreSets (record { links = links; count = count })
      → count ≡ suc less → AreSets (record { links = set links at new; count = less })
  hung_sets count less sets is = record {
    before = λ x under. over_links links at new hung.under
        (λ y l. y < length links → l.above ≤ y) (λ _. omega (arith, hung.leads))
        (λ y _ low. sets.before y low) x (shorter links at x new under);
    place = λ x under. over_links links at new hung.under
        (λ y l. y < length links → l.above ≡ y → l.shift.place ≡ pos 0)
        (λ _ e. absurd (omega (arith, e, hung.leads)))
        (λ y _ low. sets.place y low) x (shorter links at x new under);
    depth = λ x under. over_links links at new hung.under
        (λ y l. y < length links → l.above ≡ y → l.shift.depth ≡ pos 0)
        (λ _ e. absurd (omega (arith, e, hung.leads)))
        (λ y _ low. sets.depth y low) x (shorter links at x new under);
    count = omega (arith, is, sets.count, hung_count);
  }

-- the number of sets where some element is a root
pub some_set : (links : List Link) (count x : ℕ) → AreSets (record { links = links; count = count })
    → x < length links → IsRoot links x → 0 < x → 0 < count
some_set links count x sets under root some = omega (
  arith,
  sets.count,
  hung_count links x
      (record { above = 0; shift = (link_at links x).shift })
      (record { under = under; root = root; leads = some }),
)

-- the same, of links by another name
pub hung_more_of : (first links : List Link) (at : ℕ) (new : Link) → first ≡ links
    → IsHung links at new → (count : ℕ) → AreSets (record { links = links; count = count })
    → KeepMore first (set links at new) new.above at new.shift
hung_more_of first links at new is hung count sets =
    subst (λ l. KeepMore l (set links at new) new.above at new.shift) (sym is)
    (hung_more links at new hung count sets)
