-- Numbers of keys, as classes.
use Rattle.std.proofs.Common.{◌≡◌, ◌≢◌, ◌⊎◌, inl, inr, ℕ, zero, suc, ◌+◌, ◌<◌, List, [], ◌∷◌, ◌++◌, map, length, Bool, true, false, refl, sym, ap, ◌∙◌, arith}
use Rattle.std.specs.Prelude.{◌↔◌, Option, Some, None, if◌then◌else◌}
use Rattle.std.proofs.lemmas.Bool.{cases_eq}
use Rattle.std.proofs.lemmas.List.{get_or_append_left, get_or_push, length_push, length-map}
use Rattle.tile_model.specs.Tessellations.{TileKind}
use Rattle.tree_model.specs.Automata.{TreeAutomaton}
use Rattle.tree_model.specs.Conditions.{IsAccepted}
use Rattle.merge_model.specs.Merging.{class_at, number, AreClasses}
use Rattle.merge_laws.proofs.Copies.{mapped}
use Rattle.merge_laws.proofs.Numbers.{has_number}
use Rattle.key_numbers.specs.Numbers.{entry, AreNumbers}
use Rattle.rules_tools.proofs.Entries.{cases, entry_below}
use Rattle.rules_tools.specs.Reached.{AreReached, mark_at}
use Rattle.rules_tools.specs.Keys.{class_of, key_of, listed, class_key}
use Rattle.rules_tools.specs.Classes.{AreApart, AreStable, AreByKey}
use Rattle.rules_tools.proofs.Refining.{stable_classes}

pub listed_none : (f : ℕ → Option (List ℕ)) → listed f 0 ≡ []
unfolding listed
listed_none f = refl

listed_next : (f : ℕ → Option (List ℕ)) (n : ℕ) → listed f (suc n) ≡ listed f n ++ f n ∷ []
unfolding listed
listed_next f n = refl

pub listed_more : (f : ℕ → Option (List ℕ)) (n : ℕ) → listed f (n + 1) ≡ listed f n ++ f n ∷ []
listed_more f n = let e : n + 1 ≡ suc n = omega arith in ap (listed f) e ∙ listed_next f n

pub length_listed : (f : ℕ → Option (List ℕ)) (n : ℕ) → length (listed f n) ≡ n
length_listed f zero = ap length (listed_none f)
length_listed f (suc n) = ap length (listed_next f n) ∙ omega (arith, length_push (listed f n) (f n), length_listed f n)

pub entry_listed : (f : ℕ → Option (List ℕ)) (n i : ℕ) → i < n → entry (listed f n) i ≡ f i
entry_listed f zero i lt = absurd (omega (arith, lt))
entry_listed f (suc n) i lt = ap (λ xs. entry xs i) (listed_next f n) ∙ go (entry_listed f n i) (cases_eq i n)
  where
    go : (i < n → entry (listed f n) i ≡ f i) → (i ≡ n) ⊎ (i ≢ n) → entry (listed f n ++ f n ∷ []) i ≡ f i
    go before (inl e) = get_or_push (listed f n) (f n) None i (length_listed f n ∙ sym e) ∙ ap f (sym e)
    go before (inr d) =
        let less : i < n = omega (arith, lt, d) in
        get_or_append_left (listed f n) (f n ∷ []) None i (omega (arith, less, length_listed f n)) ∙ before less

module _ (a : TreeAutomaton) (before : List ℕ) (numbers : List (Option ℕ)) (count : ℕ) (are : AreNumbers (listed (λ s. Some (key_of a before s)) (length a.states)) numbers count) where
  abbrev met : List (Option (List ℕ))
  met = listed (λ s. Some (key_of a before s)) (length a.states)

  met_at : (s : ℕ) → s < length a.states → entry met s ≡ Some (key_of a before s)
  met_at s lt = entry_listed (λ t. Some (key_of a before t)) (length a.states) s lt

  long : length numbers ≡ length a.states
  long = are.long ∙ length_listed (λ s. Some (key_of a before s)) (length a.states)

  class_is : (s : ℕ) → class_of (map number numbers) s ≡ number (entry numbers s)
  class_is s = mapped number numbers s None

  numbered : (s : ℕ) → s < length a.states → entry numbers s ≡ Some (class_of (map number numbers) s)
  numbered s lt =
      has_number (entry numbers s) (λ none. let no = (are.nothing s).0 none in absurd (cc (met_at s lt, no)))
      ∙ ap Some (sym (class_is s))

  number_of : (s m : ℕ) → entry numbers s ≡ Some m → class_of (map number numbers) s ≡ m
  number_of s m e = class_is s ∙ ap number e

  below : (s m : ℕ) → entry numbers s ≡ Some m → s < length a.states
  below s m e = let lt = entry_below numbers s m e in omega (arith, lt, long)

  pub by_key : AreByKey a before (map number numbers) count
  by_key = record {
    long = length-map numbers number ∙ long;
    one = λ s t ls lt.
        are.one s t (class_of (map number numbers) s) (class_of (map number numbers) t) (key_of a before s) (key_of a before t)
        (met_at s ls) (met_at t lt) (numbered s ls) (numbered t lt);
    first = λ s m ls lt.
        let (t, less, e) = are.first s (class_of (map number numbers) s) m (numbered s ls) lt in
        (t, less, number_of t m e);
    known = λ s ls. (are.counted (class_of (map number numbers) s)).1 (s, numbered s ls);
    used = λ m lt. let (s, e) = (are.counted m).0 lt in (s, below s m e, number_of s m e);
  }

module _ (kinds : List TileKind) (a : TreeAutomaton) (ok : IsAccepted kinds a) (marks : List Bool) (class : List ℕ) (reached : AreReached kinds a marks) (apart : AreApart kinds a class) (stable : AreStable kinds a class) (numbers : List (Option ℕ)) (count : ℕ) (are : AreNumbers (listed (class_key marks class) (length a.states)) numbers count) where
  long_too : length numbers ≡ length a.states
  long_too = are.long ∙ length_listed (class_key marks class) (length a.states)

  below_too : (s m : ℕ) → entry numbers s ≡ Some m → s < length a.states
  below_too s m e = let lt = entry_below numbers s m e in omega (arith, lt, long_too)

  key_at : (s : ℕ) → s < length a.states → entry (listed (class_key marks class) (length a.states)) s ≡ class_key marks class s
  key_at s lt = entry_listed (class_key marks class) (length a.states) s lt

  marked_key : (s : ℕ) → mark_at marks s ≡ true → class_key marks class s ≡ Some (class_of class s ∷ [])
  marked_key s m = ap (λ b. if b then Some (class_of class s ∷ []) else None) m

  unmarked_key : (s : ℕ) → mark_at marks s ≡ false → class_key marks class s ≡ None
  unmarked_key s m = ap (λ b. if b then Some (class_of class s ∷ []) else None) m

  numbered_marked : (s m : ℕ) → entry numbers s ≡ Some m → mark_at marks s ≡ true
  numbered_marked s m e = go (cases (mark_at marks s))
    where
      go : (mark_at marks s ≡ true) ⊎ (mark_at marks s ≡ false) → mark_at marks s ≡ true
      go (inl t) = t
      go (inr f) =
          let none = (are.nothing s).1 (key_at s (below_too s m e) ∙ unmarked_key s f) in
          absurd (cc (none, e))

  has_key : (s m : ℕ) → entry numbers s ≡ Some m → entry (listed (class_key marks class) (length a.states)) s ≡ Some (class_of class s ∷ [])
  has_key s m e = key_at s (below_too s m e) ∙ marked_key s (numbered_marked s m e)

  by_number : (s t m n : ℕ) → entry numbers s ≡ Some m → entry numbers t ≡ Some n → (m ≡ n) ↔ (class_of class s ∷ [] ≡ class_of class t ∷ [])
  by_number s t m n e e' = are.one s t m n (class_of class s ∷ []) (class_of class t ∷ []) (has_key s m e) (has_key t n e') e e'

  pub are_classes : AreClasses kinds a numbers count
  unfolding class_at
  are_classes = record {
    entries = long_too;
    on = λ s m e. reached.marked s (numbered_marked s m e);
    off = λ s lt none r.
        let no = (are.nothing s).0 none in
        let key = key_at s lt ∙ marked_key s (reached.all s r) in
        absurd (cc (no, key));
    alike = λ s t m e e'.
        let same = (by_number s t m m e e').0 refl in
        stable_classes kinds a ok class stable s t (below_too s m e) (below_too t m e') (cc (same));
    told = λ s t m n e e' d.
        apart s t (below_too s m e) (below_too t n e') (λ same. d ((by_number s t m n e e').1 (ap (λ x. x ∷ []) same)));
    known = λ s m e. (are.counted m).1 (s, e);
    used = λ m lt. (are.counted m).0 lt;
    ordered = λ s m n e lt. are.first s m n e lt;
  }
