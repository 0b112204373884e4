-- A parent is put behind those of its child.
use Rattle.std.proofs.Common.{◌≡◌, ◌≢◌, ◌⊎◌, inl, inr, ℕ, suc, ◌+◌, ◌<◌, ◌≤◌, List, [], ◌∷◌, ◌++◌, length, set, get_or, sym, ap, ◌∙◌, subst, arith}
use Rattle.std.proofs.lemmas.Bool.{cases_eq, cases_lt}
use Rattle.std.proofs.lemmas.List.{get_or-set_same, get_or-set_other, get_or_append_left, get_or_push, length_push}
use Rattle.tree_model.specs.Automata.{TreeAutomaton}
use Rattle.rules_tools.specs.declared.parents.Parent.{Parent}
use Rattle.rules_tools.specs.declared.parents.Parents.{Parents}
use Rattle.rules_tools.specs.Keys.{class_of as number_at}
use Rattle.rules_tools.specs.Searches.{IsChild}
use Rattle.rules_tools.specs.Parents.{AreRising, IsSpaced, HasParent, AreTrue, entry_at, no_parent}

-- a number more that is not below those before
pub rising_more : (xs : List ℕ) (y : ℕ) → AreRising xs → ((c : ℕ) → c < length xs → number_at xs c ≤ y) → AreRising (xs ++ y ∷ [])
rising_more xs y rising below c d le lt = go (cases_lt d (length xs)) (cases_lt c (length xs))
  where
    left : (i : ℕ) → i < length xs → number_at (xs ++ y ∷ []) i ≡ number_at xs i
    left i less = get_or_append_left xs (y ∷ []) 0 i less

    last : (i : ℕ) → i < length (xs ++ y ∷ []) → length xs ≤ i → number_at (xs ++ y ∷ []) i ≡ y
    last i less past = get_or_push xs y 0 i (omega (arith, less, past, length_push xs y))

    go : (d < length xs) ⊎ (length xs ≤ d) → (c < length xs) ⊎ (length xs ≤ c) → number_at (xs ++ y ∷ []) c ≤ number_at (xs ++ y ∷ []) d
    go (inl ld) _ = omega (arith, left c (omega (arith, le, ld)), left d ld, rising c d le ld)
    go (inr past) (inl lc) = omega (arith, left c lc, last d lt past, below c lc)
    go (inr past) (inr past') = omega (arith, last c (omega (arith, le, lt)) past', last d lt past)

pub most_more : (xs : List ℕ) (y : ℕ) → ((c : ℕ) → c < length xs → number_at xs c ≤ y) → (c : ℕ) → c < length (xs ++ y ∷ []) → number_at (xs ++ y ∷ []) c ≤ y
most_more xs y below c lt = go (cases_lt c (length xs))
  where
    go : (c < length xs) ⊎ (length xs ≤ c) → number_at (xs ++ y ∷ []) c ≤ y
    go (inl less) = omega (arith, get_or_append_left xs (y ∷ []) 0 c less, below c less)
    go (inr past) = omega (arith, get_or_push xs y 0 c (omega (arith, lt, past, length_push xs y)))

module _ (p p' : Parents) (c q : ℕ) (x : Parent) (starts : p'.starts.items ≡ p.starts.items) (ends : p'.ends.items ≡ set p.ends.items c (q + 1)) (entries : p'.entries.items ≡ set p.entries.items q x) (h : IsSpaced p) (in_ends : c < length p.ends.items) (known : suc c < length p.starts.items) (is_end : q ≡ number_at p.ends.items c) (fits : q < number_at p.starts.items (suc c)) (in_entries : q < length p.entries.items) where
  end_here : number_at p'.ends.items c ≡ q + 1
  end_here = ap (λ xs. number_at xs c) ends ∙ get_or-set_same p.ends.items c (q + 1) 0 in_ends

  end_other : (d : ℕ) → d ≢ c → number_at p'.ends.items d ≡ number_at p.ends.items d
  end_other d other = ap (λ xs. number_at xs d) ends ∙ get_or-set_other p.ends.items c d (q + 1) 0 other

  start_same : (d : ℕ) → number_at p'.starts.items d ≡ number_at p.starts.items d
  start_same d = ap (λ xs. number_at xs d) starts

  entry_here : entry_at p' q ≡ x
  entry_here = ap (λ xs. get_or xs q no_parent) entries ∙ get_or-set_same p.entries.items q x no_parent in_entries

  entry_other : (j : ℕ) → j ≢ q → entry_at p' j ≡ entry_at p j
  entry_other j other = ap (λ xs. get_or xs j no_parent) entries ∙ get_or-set_other p.entries.items q j x no_parent other

  -- no range has the place that is written
  apart : (d j : ℕ) → suc d < length p.starts.items → number_at p.starts.items d ≤ j → j < number_at p.ends.items d → j ≢ q
  apart d j has from below e = go (cases_eq d c) (cases_lt d c)
    where
      go : (d ≡ c) ⊎ (d ≢ c) → (d < c) ⊎ (c ≤ d) → ⊥
      go (inl same) _ = omega (arith, ap (number_at p.ends.items) same, below, is_end, e)
      go (inr other) (inl less) = omega (arith, h.stops d has, h.rising (suc d) c (omega (arith, less)) (omega (arith, known)), h.begins c, below, is_end, e)
      go (inr other) (inr more) = omega (arith, h.rising (suc c) d (omega (arith, more, other)) (omega (arith, has)), fits, from, e)

  pub has_put : HasParent p' c x
  has_put = record {
    at = q;
    known = subst (λ xs. suc c < length xs) (sym starts) known;
    from = omega (arith, start_same c, h.begins c, is_end);
    below = omega (arith, end_here);
    is = entry_here;
  }

  pub has_kept : (d : ℕ) (y : Parent) → HasParent p d y → HasParent p' d y
  has_kept d y g = record {
    at = g.at;
    known = subst (λ xs. suc d < length xs) (sym starts) g.known;
    from = omega (arith, start_same d, g.from);
    below = below (cases_eq d c);
    is = entry_other g.at (apart d g.at g.known g.from g.below) ∙ g.is;
  }
    where
      below : (d ≡ c) ⊎ (d ≢ c) → g.at < number_at p'.ends.items d
      below (inl e) = omega (arith, ap (number_at p'.ends.items) e, ap (number_at p.ends.items) e, end_here, g.below, is_end)
      below (inr other) = omega (arith, end_other d other, g.below)

  pub has_only : (d : ℕ) (y : Parent) → HasParent p' d y → HasParent p d y ⊎ ((d ≡ c) × (y ≡ x))
  has_only d y g = go (cases_eq d c) (cases_eq g.at q)
    where
      has : suc d < length p.starts.items
      has = subst (λ xs. suc d < length xs) starts g.known

      from : number_at p.starts.items d ≤ g.at
      from = omega (arith, start_same d, g.from)

      before : g.at < number_at p.ends.items d → g.at ≢ q → HasParent p d y
      before below other = record { at = g.at; known = has; from = from; below = below; is = sym (entry_other g.at other) ∙ g.is }

      go : (d ≡ c) ⊎ (d ≢ c) → (g.at ≡ q) ⊎ (g.at ≢ q) → HasParent p d y ⊎ ((d ≡ c) × (y ≡ x))
      go (inl e) (inl here) = inr (e, sym g.is ∙ ap (entry_at p') here ∙ entry_here)
      go (inl e) (inr other) = inl (before (omega (arith, ap (number_at p'.ends.items) e, ap (number_at p.ends.items) e, end_here, g.below, is_end, other)) other)
      go (inr d') w =
          let below : g.at < number_at p.ends.items d = omega (arith, end_other d d', g.below) in
          inl (before below (apart d g.at has from below))

-- one true parent more
pub true_more : (a : TreeAutomaton) (p p' : Parents) (c : ℕ) (x : Parent) → AreTrue a p → x.state < length a.states → IsChild a x.state x.side c → ((d : ℕ) (y : Parent) → HasParent p' d y → HasParent p d y ⊎ ((d ≡ c) × (y ≡ x))) → AreTrue a p'
true_more a p p' c x sound state child only d y has = go (only d y has)
  where
    go : HasParent p d y ⊎ ((d ≡ c) × (y ≡ x)) → (y.state < length a.states) × IsChild a y.state y.side d
    go (inl old) = sound d y old
    go (inr (e, same)) =
        subst (λ (z : Parent). (z.state < length a.states) × IsChild a z.state z.side d) (sym same)
        (state, subst (λ k. IsChild a x.state x.side k) (sym e) child)
