-- Taking the entries of an array, one after another.
use Rattle.std.proofs.Common.{◌≡◌, ℕ, zero, suc, ◌+◌, ◌<◌, ◌≤◌, List, [], ◌∷◌, ◌++◌, length, Option, Some, None, refl, sym, ap, ◌∙◌, subst, arith, append_assoc, append-nil, length-append, inl, inr, ◌⊎◌}
use Rattle.std.proofs.lemmas.Bool.{cases_lt}
use Rattle.json.specs.Token.{Token}
use Rattle.json.specs.Json.{parse_map, after_end_array}
use Rattle.serde_json.specs.Data.{Data, array, Items, no_items, item}
use Rattle.serde_json.specs.Find.{get_item}
use Rattle.tree_model.specs.declared.Claim.{Claim}
use Rattle.rules_file.specs.Spelling.{pair_json, SpellEach, SpellsArray, SpellsPair, IsFirstMisfit}
use Rattle.rules_file.specs.Taking.{items_read, value_at, items_at, HasValue, HasItems}
use Rattle.rules_file.proofs.Taking.{items_done, items_next, items_are_at}

-- the entries up to `now` spell what was found: what the others spell goes behind it
pub record HasTaken {A : Type 0} (Spells : Data → A → Type 0) (depth : ℕ) (start now : List Token) (found : List A) : Type 0 where
  pub front : Items → Items
  pub reads : items_read depth start ≡ parse_map front (items_read depth now)
  pub spelt : (ds : Items) (ys : List A) → SpellEach Spells ds ys → SpellEach Spells (front ds) (found ++ ys)
  pub before : (ds : Items) (j : ℕ) (e : Data) → j < length found → get_item j (front ds) ≡ Some e → (x : A) × Spells e x
  pub at : (ds : Items) (j k : ℕ) → k ≡ length found + j → get_item k (front ds) ≡ get_item j ds

itself : (r : Option (Items × List Token)) → r ≡ parse_map (λ ds. ds) r
itself None = refl
itself (Some p) = refl

pub under : (f g : Items → Items) (o r : Option (Items × List Token)) → o ≡ parse_map g r → parse_map f o ≡ parse_map (λ ds. f (g ds)) r
under f g o None e = ap (parse_map f) e
under f g o (Some p) e = ap (parse_map f) e

pub HasTaken-none : {A : Type 0} (Spells : Data → A → Type 0) (depth : ℕ) (ts : List Token) (found : List A) → found ≡ [] → HasTaken Spells depth ts ts found
HasTaken-none Spells depth ts found e = record {
  front = λ ds. ds;
  reads = itself _;
  spelt = λ ds ys h. subst (λ xs. SpellEach Spells ds (xs ++ ys)) (sym e) h;
  before = λ ds j d l. absurd (omega (arith, ap length e));
  at = λ ds j k is. ap (λ n. get_item n ds) (omega (arith, ap length e));
}

pub HasTaken-more : {A : Type 0} (Spells : Data → A → Type 0) (depth : ℕ) (start now r : List Token) (found more : List A) (x : A)
    → after_end_array now ≡ None → HasValue depth now r → Spells (value_at depth now) x → more ≡ found ++ x ∷ [] → HasTaken Spells depth start now found → HasTaken Spells depth start r more
HasTaken-more {A = A} Spells depth start now r found more x going has spells e h =
    let d = value_at depth now in
    let longer : length more ≡ suc (length found) = omega (arith, ap length e, length-append found (x ∷ [])) in
    record {
      front = λ ds. h.front (item d ds);
      reads = h.reads ∙ under h.front (item d) _ _ (items_next depth now r d going has);
      spelt = λ ds ys k. subst (SpellEach Spells (h.front (item d ds))) (sym (ap (λ xs. xs ++ ys) e ∙ append_assoc found (x ∷ []) ys)) (h.spelt (item d ds) (x ∷ ys) (spells, k));
      before = λ ds j u l at. earlier ds j u (omega (arith, l, longer)) at (cases_lt j (length found));
      at = λ ds j k is. h.at (item d ds) (suc j) k (omega (arith, is, longer));
    }
  where
    earlier : (ds : Items) (j : ℕ) (u : Data) → j < suc (length found) → get_item j (h.front (item (value_at depth now) ds)) ≡ Some u → (j < length found) ⊎ (length found ≤ j) → (y : A) × Spells u y
    earlier ds j u l at (inl below) = h.before (item (value_at depth now) ds) j u below at
    earlier ds j u l at (inr past) =
        let here : get_item j (h.front (item (value_at depth now) ds)) ≡ Some (value_at depth now) = h.at (item (value_at depth now) ds) 0 j (omega arith) in
        let same : value_at depth now ≡ u = cc in
        (x, subst (λ v. Spells v x) same spells)

pub HasTaken-all : {A : Type 0} (Spells : Data → A → Type 0) (depth : ℕ) (start now r : List Token) (found : List A)
    → after_end_array now ≡ Some r → HasTaken Spells depth start now found → HasItems depth start r × SpellEach Spells (items_at depth start) found
HasTaken-all Spells depth start now r found over h =
    let all = items_are_at depth start r (h.front no_items) (h.reads ∙ ap (parse_map h.front) (items_done depth now r over)) in
    (all.0, subst (λ ds. SpellEach Spells ds found) (sym all.1) (subst (SpellEach Spells (h.front no_items)) (append-nil found) (h.spelt no_items [] tt)))

pub HasTaken-misfit : {A : Type 0} (Spells : Data → A → Type 0) (depth : ℕ) (start now mid r : List Token) (found : List A)
    → after_end_array now ≡ None → HasValue depth now mid → ((x : A) → ¬ Spells (value_at depth now) x) → HasItems depth mid r → HasTaken Spells depth start now found
    → HasItems depth start r × IsFirstMisfit Spells (items_at depth start) (length found)
HasTaken-misfit Spells depth start now mid r found going has bad rest h =
    let d = value_at depth now in
    let ds = items_at depth mid in
    let all = items_are_at depth start r (h.front (item d ds)) (h.reads ∙ ap (parse_map h.front) (items_next depth now mid d going has ∙ ap (parse_map (item d)) rest)) in (
      all.0,
      subst (λ es. IsFirstMisfit Spells es (length found)) (sym all.1) (record {
        entry = d;
        at = h.at (item d ds) 0 (length found) (omega arith);
        bad = bad;
        before = λ j l e at. h.before (item d ds) j e l at;
      }),
    )

pub HasTaken-broken : {A : Type 0} (Spells : Data → A → Type 0) (depth : ℕ) (start now : List Token) (found : List A)
    → items_read depth now ≡ None → HasTaken Spells depth start now found → items_read depth start ≡ None
HasTaken-broken Spells depth start now found none h = h.reads ∙ ap (parse_map h.front) none

-- an entry of what spells a list spells an element
pub entry_spells : {A : Type 0} (Spells : Data → A → Type 0) (ds : Items) (xs : List A) (i : ℕ) (e : Data) → SpellEach Spells ds xs → get_item i ds ≡ Some e → (x : A) × Spells e x
entry_spells Spells no_items xs i e h at = absurd (cc)
entry_spells Spells (item d ds) [] i e h at = absurd h
entry_spells Spells (item d ds) (x ∷ xs) zero e h at = (x, subst (λ u. Spells u x) (cc) h.0)
entry_spells Spells (item d ds) (x ∷ xs) (suc i) e h at = entry_spells Spells ds xs i e h.1 at

-- a list with a misfit is not spelt
pub misfit_spells_none : {A : Type 0} (Spells : Data → A → Type 0) (ds : Items) (i : ℕ) (xs : List A) → IsFirstMisfit Spells ds i → ¬ SpellEach Spells ds xs
misfit_spells_none Spells ds i xs h k = let e = entry_spells Spells ds xs i h.entry k h.at in h.bad e.0 e.1

pub misfit_no_array : {A : Type 0} (Spells : Data → A → Type 0) (d : Data) (ds : Items) (i : ℕ) (xs : List A) → d ≡ array ds → IsFirstMisfit Spells ds i → ¬ SpellsArray Spells d xs
misfit_no_array Spells d ds i xs is h (es, also, each) =
    let same : es ≡ ds = cc in
    misfit_spells_none Spells ds i xs h (subst (λ us. SpellEach Spells us xs) same each)
