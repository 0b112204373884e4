-- The chain of cells: a cell put before it, its first cell taken from it, and cells written outside it.
use Rattle.std.proofs.Common.{◌≡◌, ℕ, ◌<◌, ◌≤◌, List, ◌∷◌, length, refl, sym, ap, ◌∙◌, subst, inl, inr, arith}
use Rattle.std.proofs.lemmas.Bool.{cases_eq}
use Rattle.coincidence.specs.declared.table.Cell.{Cell}
use Rattle.coincidence.specs.Darts.{nowhere}
use Rattle.coincidence.specs.Pending.{last_link, next_at, IsChained, IsChain, ends, goes, IsAmong, first, later, HasChain}

among_rest : {x c : ℕ} {rest : List ℕ} → ¬ (x ≡ c) → IsAmong x (c ∷ rest) → IsAmong x rest
among_rest other (first rest) = absurd (other refl)
among_rest other (later y rest among) = among

module _ (cells : List Cell) where
  -- a member of the chain is a cell that is chained
  pub chain_member : {head : ℕ} {chain : List ℕ} → IsChain cells head chain → {x : ℕ} → IsAmong x chain → IsChained cells x
  chain_member (ends head last) among = elim among [ ]
  chain_member (goes c rest made chained apart met) (first _) = chained
  chain_member (goes c rest made chained apart met) (later _ _ among) = chain_member met among

  -- written elsewhere, the chain stays
  pub chain_grows : (cells' : List Cell) → length cells ≤ length cells' → {head : ℕ} {chain : List ℕ} → ((x : ℕ) → IsAmong x chain → next_at cells' x ≡ next_at cells x) → IsChain cells head chain → IsChain cells' head chain
  chain_grows cells' long same (ends head last) = ends head last
  chain_grows cells' long same (goes c rest made chained apart met) =
      let here = same c (first rest) in
      goes c rest (omega arith) (λ e. chained (sym here ∙ e)) apart (subst (λ h. IsChain cells' h rest) (sym here) (chain_grows cells' long (λ x among. same x (later c rest among)) met))

  pub chain_stays : (cells' : List Cell) → length cells' ≡ length cells → {head : ℕ} {chain : List ℕ} → ((x : ℕ) → IsAmong x chain → next_at cells' x ≡ next_at cells x) → IsChain cells head chain → IsChain cells' head chain
  chain_stays cells' long same met = chain_grows cells' (omega (arith, long)) same met

  -- a member of a chain is a cell that is there
  pub chain_made : {head : ℕ} {chain : List ℕ} → IsChain cells head chain → {x : ℕ} → IsAmong x chain → x < length cells
  chain_made (ends head last) among = elim among [ ]
  chain_made (goes c rest made chained apart met) (first _) = made
  chain_made (goes c rest made chained apart met) (later _ _ among) = chain_made met among

  -- a cell that is not chained is put before the chain
  pub chain_put : (cells' : List Cell) (head c : ℕ) → length cells' ≡ length cells → c < length cells → ¬ (IsChained cells c) → ¬ (head ≡ nowhere) → next_at cells' c ≡ head → ((x : ℕ) → ¬ (x ≡ c) → next_at cells' x ≡ next_at cells x) → HasChain cells head → HasChain cells' c
  chain_put cells' head c long made not_chained some here others has =
      let away : (x : ℕ) → IsAmong x has.chain → ¬ (x ≡ c) = λ x among e. not_chained (subst (IsChained cells) e (chain_member has.met among)) in
      let stays = chain_stays cells' long (λ x among. others x (away x among)) has.met in
      record {
        chain = c ∷ has.chain;
        met = goes c has.chain (omega arith) (λ e. some (sym here ∙ e)) (λ among. away c among refl) (subst (λ h. IsChain cells' h has.chain) (sym here) stays);
        whole = λ x chained. elim (cases_eq x c) [
          | inl e ↦ subst (λ y. IsAmong y (c ∷ has.chain)) (sym e) (first has.chain)
          | inr other ↦ later c has.chain (has.whole x (λ e. chained (others x other ∙ e)))
        ];
      }

  -- the first cell is taken from the chain
  without_first : (cells' : List Cell) (head : ℕ) (chain : List ℕ) → length cells' ≡ length cells → next_at cells' head ≡ nowhere → ((x : ℕ) → ¬ (x ≡ head) → next_at cells' x ≡ next_at cells x) → ¬ (head ≡ last_link) → IsChain cells head chain → ((c : ℕ) → IsChained cells c → IsAmong c chain) → HasChain cells' (next_at cells head)
  without_first cells' head chain long here others not_last (ends _ last) whole = absurd (not_last last)
  without_first cells' head chain long here others not_last (goes _ rest made chained apart met) whole = record {
    chain = rest;
    met = chain_stays cells' long (λ x among. others x (λ e. apart (subst (λ y. IsAmong y rest) e among))) met;
    whole = λ x chained'. elim (cases_eq x head) [
      | inl e ↦ absurd (chained' (ap (next_at cells') e ∙ here))
      | inr other ↦ among_rest other (whole x (λ e. chained' (others x other ∙ e)))
    ];
  }

  pub chain_taken : (cells' : List Cell) (head : ℕ) → length cells' ≡ length cells → next_at cells' head ≡ nowhere → ((x : ℕ) → ¬ (x ≡ head) → next_at cells' x ≡ next_at cells x) → ¬ (head ≡ last_link) → HasChain cells head → HasChain cells' (next_at cells head)
  chain_taken cells' head long here others not_last has = without_first cells' head has.chain long here others not_last has.met has.whole

  -- the first of the chain is a cell, chained
  met_head : (head : ℕ) (chain : List ℕ) → ¬ (head ≡ last_link) → IsChain cells head chain → (head < length cells) × IsChained cells head
  met_head head chain not_last (ends _ last) = absurd (not_last last)
  met_head head chain not_last (goes _ rest made chained apart met) = (made, chained)

  pub chain_head : (head : ℕ) → ¬ (head ≡ last_link) → HasChain cells head → (head < length cells) × IsChained cells head
  chain_head head not_last has = met_head head has.chain not_last has.met

  -- where the chain is empty no cell is chained
  met_none : (head c : ℕ) (chain : List ℕ) → head ≡ last_link → length cells ≤ 1000000 → IsChain cells head chain → IsAmong c chain → ⊥
  met_none head c chain last few (ends _ _) among = elim among [ ]
  met_none head c chain last few (goes _ rest made chained apart met) among = omega (arith, last, few, made)

  pub chain_empty : (head : ℕ) → head ≡ last_link → length cells ≤ 1000000 → HasChain cells head → (c : ℕ) → IsChained cells c → ⊥
  chain_empty head last few has c chained = met_none head c has.chain last few has.met (has.whole c chained)

  -- a chain begins at a cell or at its end
  met_some : (head : ℕ) (chain : List ℕ) → length cells ≤ 1000000 → IsChain cells head chain → ¬ (head ≡ nowhere)
  met_some head chain few (ends _ last) e = omega (arith, last, e)
  met_some head chain few (goes _ rest made chained apart met) e = omega (arith, few, made, e)

  pub head_some : (head : ℕ) → length cells ≤ 1000000 → HasChain cells head → ¬ (head ≡ nowhere)
  head_some head few has = met_some head has.chain few has.met
