-- The live cells, listed each once.
use Rattle.std.proofs.Common.{◌≡◌, ℕ, zero, suc, ◌+◌, ◌<◌, List, [], ◌∷◌, ◌++◌, length, get_or, refl, sym, ap, ◌∙◌, subst, inl, inr, arith}
use Rattle.std.proofs.lemmas.Bool.{cases_lt, cases_eq}
use Rattle.std.proofs.lemmas.List.{length_push, get_or_push, get_or_append_left}
use Rattle.coincidence.specs.declared.table.Cell.{Cell}
use Rattle.coincidence.specs.Cells.{turn_at, IsLive}
use Rattle.region_grower.specs.Regions.{total}
use Rattle.region_grower.proofs.Ways.{zero_or_more}
use Rattle.region_grower.proofs.Left.{total_none, total_next}
use Rattle.region_grower.proofs.Count.{one_if, one_if_none, one_if_some}

-- xs are the live cells below n, each once
pub record IsListing (cells : List Cell) (n : ℕ) (xs : List ℕ) : Type 0 where
  pub count : length xs ≡ total n (λ c. one_if (turn_at cells c))
  pub live : (i : ℕ) → i < length xs → IsLive cells (get_or xs i 0)
  pub below : (i : ℕ) → i < length xs → get_or xs i 0 < n
  pub found : (c : ℕ) → c < n → IsLive cells c → (i : ℕ) × (i < length xs) × (get_or xs i 0 ≡ c)
  pub apart : (i j : ℕ) → i < length xs → j < length xs → get_or xs i 0 ≡ get_or xs j 0 → i ≡ j

module _ (cells : List Cell) where
  -- a cell that is not live is passed over
  passed : (n : ℕ) (xs : List ℕ) → turn_at cells n ≡ 0 → IsListing cells n xs → IsListing cells (suc n) xs
  passed n xs gone h = record {
    count = omega (arith, h.count, total_next n (λ c. one_if (turn_at cells c)), one_if_none (turn_at cells n) gone);
    live = h.live;
    below = λ i there. let low = h.below i there in omega (arith, low);
    found = λ c low live. elim (cases_eq c n) [
      | inl e ↦ let same = ap (turn_at cells) e in absurd (omega (arith, same, gone, live))
      | inr other ↦ h.found c (omega (arith, low, other)) live
    ];
    apart = h.apart;
  }

  -- a live cell is added behind
  added : (n : ℕ) (xs : List ℕ) → IsLive cells n → IsListing cells n xs → IsListing cells (suc n) (xs ++ n ∷ [])
  added n xs live h =
      let ys = xs ++ n ∷ [] in
      let long : length ys ≡ length xs + 1 = length_push xs n in
      let last : get_or ys (length xs) 0 ≡ n = get_or_push xs n 0 (length xs) refl in
      let old : (i : ℕ) → i < length xs → get_or ys i 0 ≡ get_or xs i 0 = λ i there. get_or_append_left xs (n ∷ []) 0 i there in
      let each : (P : ℕ → ℕ → Type 0) → P (length xs) n → ((i : ℕ) → i < length xs → P i (get_or xs i 0)) → (i : ℕ) → i < length ys → P i (get_or ys i 0) = λ P at_last others i there. elim (cases_lt i (length xs)) [
        | inl low ↦ subst (P i) (sym (old i low)) (others i low)
        | inr past ↦ let e : i ≡ length xs = omega (arith, past, there, long) in subst (λ k. P k (get_or ys k 0)) (sym e) (subst (P (length xs)) (sym last) at_last)
      ] in
      record {
        count = omega (arith, long, h.count, total_next n (λ c. one_if (turn_at cells c)), one_if_some (turn_at cells n) live);
        live = each (λ _ c. IsLive cells c) live h.live;
        below = each (λ _ c. c < suc n) (omega arith) (λ i there. let low = h.below i there in omega (arith, low));
        found = λ c low live_c. elim (cases_eq c n) [
          | inl e ↦ (length xs, omega (arith, long), last ∙ sym e)
          | inr other ↦
              let at = h.found c (omega (arith, low, other)) live_c in
              let there = at.1 in
              (at.0, omega (arith, long, there), old at.0 there ∙ at.2)
        ];
        apart = λ i j there_i there_j same.
            each (λ i x. x ≡ get_or ys j 0 → i ≡ j)
            (λ e. each (λ j y. n ≡ y → length xs ≡ j) (λ _. refl) (λ j low f. absurd (let under = h.below j low in omega (arith, f, under))) j there_j e)
            (λ i low e. each (λ j y. get_or xs i 0 ≡ y → i ≡ j) (λ f. absurd (let under = h.below i low in omega (arith, f, under))) (λ j low' f. h.apart i j low low' f) j there_j e)
            i there_i same;
      }

  pub listing : (n : ℕ) → (xs : List ℕ) × IsListing cells n xs
  listing zero = (
    [],
    record {
      count = sym (total_none (λ c. one_if (turn_at cells c)));
      live = λ i there. absurd (omega (arith, there));
      below = λ i there. absurd (omega (arith, there));
      found = λ c low live. absurd (omega (arith, low));
      apart = λ i j there there' same. absurd (omega (arith, there));
    },
  )
  listing (suc n) = elim (zero_or_more (turn_at cells n)) [
    | inl gone ↦ let rest = listing n in (rest.0, passed n rest.0 gone rest.1)
    | inr live ↦ let rest = listing n in (rest.0 ++ n ∷ [], added n rest.0 live rest.1)
  ]
