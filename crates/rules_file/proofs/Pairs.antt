-- The items of an array, a few at a time, and the pair that two of them spell.
use Rattle.std.proofs.Common.{◌≡◌, ℕ, List, Option, ◌-◌, Some, None, Result, Ok, Err, OnOk, IfOk, refl, sym, ap, ap₂, ◌∙◌, subst}
use Rattle.std.specs.Prelude.{◌≢◌}
use Rattle.json.specs.Token.{Token}
use Rattle.json.specs.Json.{parse_map, after_end_array}
use Rattle.serde_json.specs.Data.{Data, array, Items, no_items, item}
use Rattle.tree_model.specs.declared.Claim.{Claim}
use Rattle.rules_file.specs.Spelling.{SpellsByte, SpellsWord, SpellsPair, whole}
use Rattle.rules_file.specs.Taking.{first_or, value_read, items_read, value_at, items_at, HasValue, HasItems, OpensArray}
use Rattle.rules_file.proofs.Taking.{items_done, items_next, items_stop, items_are_at, array_whole}

-- no bracket was there to be taken
abbrev pub IsGoing : List Token → List Token → Type 0
IsGoing ts us = (after_end_array ts ≡ None) × (us ≡ ts)

pub value_here : (depth : ℕ) (ts us r : List Token) → IsGoing ts us → HasValue depth us r → HasValue depth ts r
value_here depth ts us r going has = subst (λ s. HasValue depth s r) going.1 has

pub items_over : (depth : ℕ) (ts r : List Token) → after_end_array ts ≡ Some r → HasItems depth ts r × (items_at depth ts ≡ no_items)
items_over depth ts r e = items_are_at depth ts r no_items (items_done depth ts r e)

pub items_more : (depth : ℕ) (ts us m r : List Token) → IsGoing ts us → HasValue depth us m → HasItems depth m r
    → HasItems depth ts r × (items_at depth ts ≡ item (value_at depth us) (items_at depth m))
items_more depth ts us m r going has rest =
    let here = value_here depth ts us m going has in
    let all = items_are_at depth ts r _ (items_next depth ts m (value_at depth ts) going.0 here ∙ ap (parse_map (item (value_at depth ts))) rest) in
    (all.0, all.1 ∙ ap (λ s. item (value_at depth s) (items_at depth m)) (sym going.1))

pub items_broken : (depth : ℕ) (ts us : List Token) → IsGoing ts us → value_read depth us ≡ None → items_read depth ts ≡ None
items_broken depth ts us going none = items_stop depth ts going.0 (subst (λ s. value_read depth s ≡ None) going.1 none)

pub rest_broken : (depth : ℕ) (ts us m : List Token) → IsGoing ts us → HasValue depth us m → items_read depth m ≡ None → items_read depth ts ≡ None
rest_broken depth ts us m going has none =
    items_next depth ts m (value_at depth ts) going.0 (value_here depth ts us m going has) ∙ ap (parse_map (item (value_at depth ts))) none

starts : (d : Data) (ds : Items) (r : List Token) (o : Option (Items × List Token)) → Some (ds, r) ≡ parse_map (item d) o → ds ≢ no_items
starts d ds r None e is = absurd (cc)
starts d ds r (Some p) e is = ended (sym (ap (first_or no_items) e) ∙ is)
  where
    ended : item d p.0 ≡ no_items → ⊥
    ended v = absurd (cc)

pub items_left : (depth : ℕ) (ts us r : List Token) → IsGoing ts us → HasItems depth us r → HasItems depth ts r × (items_at depth ts ≢ no_items)
items_left depth ts us r going has = (here, some (value_read depth ts) refl)
  where
    here : HasItems depth ts r
    here = subst (λ s. HasItems depth s r) going.1 has

    some : (o : Option (Data × List Token)) → value_read depth ts ≡ o → items_at depth ts ≢ no_items
    some None e is = absurd (impossible (items_stop depth ts going.0 e) here)
      where
        impossible : items_read depth ts ≡ None → HasItems depth ts r → ⊥
        impossible p q = absurd (cc)
    some (Some p) e is = starts p.0 (items_at depth ts) r (items_read depth p.1) (sym here ∙ items_next depth ts p.1 p.0 going.0 e) is

pub left_broken : (depth : ℕ) (ts us : List Token) → IsGoing ts us → items_read depth us ≡ None → items_read depth ts ≡ None
left_broken depth ts us going none = subst (λ s. items_read depth s ≡ None) going.1 none

-- ---- pairs

pub pair_of_none : (ds : Items) (c : Claim) → ds ≡ no_items → ¬ SpellsPair (array ds) c
pair_of_none ds c is h = let v = h.value in absurd (cc)

pub pair_of_one : (ds : Items) (d : Data) (es : Items) (c : Claim) → ds ≡ item d es → es ≡ no_items → ¬ SpellsPair (array ds) c
pair_of_one ds d es c is over h = let v = h.value in absurd (cc)

pub pair_of_more : (ds : Items) (d e : Data) (es fs : Items) (c : Claim) → ds ≡ item d es → es ≡ item e fs → fs ≢ no_items → ¬ SpellsPair (array ds) c
pair_of_more ds d e es fs c is also more h = more (ended h.value)
  where
    ended : array ds ≡ array (item (whole c.corner) (item (whole c.place) no_items)) → fs ≡ no_items
    ended v = cc

pub two_items : (ds : Items) (d e : Data) (es fs : Items) → ds ≡ item d es → es ≡ item e fs → fs ≡ no_items → ds ≡ item d (item e no_items)
two_items ds d e es fs is also over = is ∙ ap (item d) (also ∙ ap (item e) over)

pub pair_spelt : (ds : Items) (d e : Data) (m n : ℕ) → ds ≡ item d (item e no_items) → SpellsWord d m → SpellsByte e n → SpellsPair (array ds) (record { corner = m; place = n })
pair_spelt ds d e m n is h k = record {
  value = ap array (is ∙ ap₂ (λ a b. item a (item b no_items)) h.value k.value);
  corner_fits = h.fits;
  place_fits = k.fits;
}

pub no_corner : (ds : Items) (d e : Data) (c : Claim) → ds ≡ item d (item e no_items) → ((n : ℕ) → ¬ SpellsWord d n) → ¬ SpellsPair (array ds) c
no_corner ds d e c is none h = none c.corner (record { value = first h.value; fits = h.corner_fits })
  where
    first : array ds ≡ array (item (whole c.corner) (item (whole c.place) no_items)) → d ≡ whole c.corner
    first v = cc

pub no_place : (ds : Items) (d e : Data) (c : Claim) → ds ≡ item d (item e no_items) → ((n : ℕ) → ¬ SpellsByte e n) → ¬ SpellsPair (array ds) c
no_place ds d e c is none h = none c.place (record { value = second h.value; fits = h.place_fits })
  where
    second : array ds ≡ array (item (whole c.corner) (item (whole c.place) no_items)) → e ≡ whole c.place
    second v = cc

-- ---- a whole array, as its items were taken

pub array_passed : {T E : Type 0} (o : Result T E) (depth : ℕ) (ts mid r : List Token) → OpensArray depth ts mid → OnOk o (HasItems (depth - 1) mid r) → OnOk o (HasValue depth ts r)
array_passed (Ok u) depth ts mid r opens h = (array_whole depth ts mid r opens h).0
array_passed (Err u) depth ts mid r opens h = tt

pub array_says : {T E : Type 0} (o : Result T E) (P : Data → T → Type 0) (depth : ℕ) (ts mid r : List Token) → OpensArray depth ts mid → OnOk o (HasItems (depth - 1) mid r)
    → IfOk o (P (array (items_at (depth - 1) mid))) → IfOk o (P (value_at depth ts))
array_says (Ok u) P depth ts mid r opens h p = subst (λ d. P d u) (sym (array_whole depth ts mid r opens h).1) p
array_says (Err u) P depth ts mid r opens h p = tt
