-- An element that is linked to what the one above it is linked to.
use Rattle.std.proofs.Common.{◌≡◌, ◌≢◌, ◌<◌, ◌≤◌, ℕ, ℤ, pos, ◌+ℤ◌, List, length, set, length-set, sym, ◌∙◌, ap, subst, arith}
use Rattle.std.proofs.lemmas.Int.{ints}
use Rattle.weighted_sets.specs.Sets.{Link, link_at, AreApart, Keep, KeepSame, KeepRoots, AreSets, IsRoot, root_count}
use Rattle.weighted_sets.proofs.Links.{link-set_same, link-set_other, at_each, kept_count}

-- the link to the one two above
pub record IsHalved (links : List Link) (at : ℕ) (new : Link) : Type 0 where
  pub under : at < length links
  pub before : (link_at links at).above < at
  pub further : (link_at links (link_at links at).above).above ≤ (link_at links at).above
  pub above : new.above ≡ (link_at links (link_at links at).above).above
  pub place :
      new.shift.place
      ≡ (link_at links (link_at links at).above).shift.place +ℤ (link_at links at).shift.place
  pub depth :
      new.shift.depth
      ≡ (link_at links (link_at links at).above).shift.depth +ℤ (link_at links at).shift.depth

-- a statement of each link, of the one that was set and of the others as they were
pub over_links : (links : List Link) (at : ℕ) (new : Link) → at < length links
    → (P : ℕ → Link → Type 0) → P at new → ((x : ℕ) → x ≢ at → P x (link_at links x))
    → (x : ℕ) → P x (link_at (set links at new) x)
over_links links at new under P here elsewhere = at_each at (λ x. P x (link_at (set links at new) x))
    (subst (P at) (sym (link-set_same links at new under)) here)
    (λ x other. subst (P x) (sym (link-set_other links at x new other)) (elsewhere x other))

pub shorter : (links : List Link) (at x : ℕ) (new : Link) → x < length (set links at new)
    → x < length links
shorter links at x new under = subst (λ n. x < n) (length-set links at new) under

module _ (links : List Link) (at : ℕ) (new : Link) (halved : IsHalved links at new) where
  pub at_it : link_at (set links at new) at ≡ new
  at_it = link-set_same links at new halved.under

  leads : new.above < at
  leads = omega (arith, halved.before, halved.further, halved.above)

  pub keep_halved : (places depths : ℕ → ℤ) → Keep places depths links
      → Keep places depths (set links at new)
  keep_halved places depths keep x under = over_links links at new halved.under
      (λ y l. y < length links → AreApart places depths l.above y l.shift)
      (λ _. let first = keep at halved.under in
      let second = keep (link_at links at).above (omega (arith, halved.before, halved.under)) in
      record {
        place = omega (arith, ints, first.place, second.place, halved.place, ap places halved.above);
        depth = omega (arith, ints, first.depth, second.depth, halved.depth, ap depths halved.above);
      })
      (λ y _ low. keep y low) x (shorter links at x new under)

  pub keep_whole : (places depths : ℕ → ℤ) → Keep places depths (set links at new)
      → Keep places depths links
  keep_whole places depths keep = at_each at
      (λ x. x < length links → AreApart places depths (link_at links x).above x (link_at links x).shift)
      (λ _. record {
        place = omega (arith, ints, first.place, second.place, halved.place, ap places halved.above);
        depth = omega (arith, ints, first.depth, second.depth, halved.depth, ap depths halved.above);
      })
      (λ x other under. subst (λ l. AreApart places depths l.above x l.shift)
      (link-set_other links at x new other) (keep x (longer x under)))
    where
      longer : (x : ℕ) → x < length links → x < length (set links at new)
      longer x under = subst (λ n. x < n) (sym (length-set links at new)) under

      first : AreApart places depths new.above at new.shift
      first = subst (λ l. AreApart places depths l.above at l.shift)
          (link-set_same links at new halved.under) (keep at (longer at halved.under))

      between : ℕ
      between = (link_at links at).above

      lower : between < at
      lower = halved.before

      second : AreApart places depths (link_at links between).above between (link_at links between).shift
      second = subst (λ l. AreApart places depths l.above between l.shift)
          (link-set_other links at between new (λ e. absurd (omega (arith, lower, e))))
          (keep between (longer between (omega (arith, lower, halved.under))))

  pub halved_same : KeepSame links (set links at new)
  unfolding KeepSame
  halved_same places depths = (keep_halved places depths, keep_whole places depths)

  pub halved_roots : KeepRoots links (set links at new)
  unfolding KeepRoots
  halved_roots x under root = at_each at (λ y. IsRoot links y → IsRoot (set links at new) y)
      (λ is. absurd (omega (arith, is, halved.before)))
      (λ y other is. ap (λ l. l.above) (link-set_other links at y new other) ∙ is) x root

  pub halved_sets : (count : ℕ) → AreSets (record { links = links; count = count })
      → AreSets (record { links = set links at new; count = count })
  halved_sets count sets = record {
    before = λ x under. over_links links at new halved.under
        (λ y l. y < length links → l.above ≤ y) (λ _. omega (arith, leads))
        (λ y _ low. sets.before y low) x (shorter links at x new under);
    place = λ x under. over_links links at new halved.under
        (λ y l. y < length links → l.above ≡ y → l.shift.place ≡ pos 0)
        (λ _ is. absurd (omega (arith, is, leads)))
        (λ y _ low. sets.place y low) x (shorter links at x new under);
    depth = λ x under. over_links links at new halved.under
        (λ y l. y < length links → l.above ≡ y → l.shift.depth ≡ pos 0)
        (λ _ is. absurd (omega (arith, is, leads)))
        (λ y _ low. sets.depth y low) x (shorter links at x new under);
    count = sets.count ∙ kept_count links at new halved.under
        (λ e. absurd (omega (arith, e, leads))) (λ e. absurd (omega (arith, e, halved.before))) (length links)
        ∙ ap (root_count (set links at new)) (sym (length-set links at new));
  }

-- the same, of links by another name
pub halved_same_of : (first links : List Link) (at : ℕ) (new : Link) → first ≡ links
    → IsHalved links at new → KeepSame first (set links at new)
halved_same_of first links at new is halved =
    subst (λ l. KeepSame l (set links at new)) (sym is) (halved_same links at new halved)
