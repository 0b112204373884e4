-- The first failure, part by part.
use Rattle.std.proofs.Common.{◌≡◌, Bool, true, false, IsTrue, ℕ, zero, suc, ◌<◌, List, Some, codes, is_some, Result, Ok, Err, IsErrAnd, IfErr, refl, sym, ap, ◌∙◌, subst, arith, inl, inr, ◌⊎◌}
use Rattle.serde_json.specs.Data.{Data, null, boolean, number, string, array, object, Items, no_items, item}
use Rattle.serde_json.specs.Events.{items_len}
use Rattle.serde_json.specs.Find.{get, get_item, as_object}
use Rattle.rules_file.specs.declared.fault.Part.{Part}
use Rattle.rules_file.specs.declared.fault.Part.TheVariants.{Whole, Version, Scale, Roots, Corners, Corner, States, State}
use Rattle.rules_file.specs.declared.fault.RulesFault.{RulesFault}
use Rattle.rules_file.specs.declared.fault.RulesFault.TheVariants.{Memory}
use Rattle.tree_model.specs.Automata.{TreeState, CornerType}
use Rattle.rules_file.specs.Spelling.{HasWord, HasVersion, SpellsWord, SpellsCorner, SpellsState, SpellsArray, SpellsMember, IsFirstMisfit}
use Rattle.rules_file.specs.Faults.{IsNoObject, HasNoArray, HasBadEntry, FailsAt, turn, Refuses, RefusesTable, no_memory, no_array, bad_entry}
use Rattle.rules_file.proofs.Entries.{entry_spells}

-- no part whose turn is before n fails
unfoldable pub Cleared : ℕ → Data → Type 0
Cleared n d = (part : Part) (j : ℕ) → turn part < n → ¬ FailsAt part j d

array_there : (name : List ℕ) (d : Data) (ds : Items) → get name d ≡ Some (array ds) → ¬ HasNoArray name d
array_there name d ds found none = none ds found

none_bad : {A : Type 0} (Spells : Data → A → Type 0) (name : List ℕ) (d : Data) (xs : List A) (i : ℕ) → SpellsMember (SpellsArray Spells) name d xs → ¬ HasBadEntry Spells name d i
none_bad Spells name d xs i (e, found, (ds, is, each)) bad =
    let same : bad.entries ≡ ds = entries_same bad.found found is in
    let entry = entry_spells Spells ds xs i bad.entry each (ap (get_item i) (sym same) ∙ bad.at) in
    bad.bad entry.0 entry.1
  where
    entries_same : {b c : Items} {u : Data} → get name d ≡ Some (array b) → get name d ≡ Some u → u ≡ array c → b ≡ c
    entries_same p q r = cc

has_array : {A : Type 0} (Spells : Data → A → Type 0) (name : List ℕ) (d : Data) (xs : List A) → SpellsMember (SpellsArray Spells) name d xs → ¬ HasNoArray name d
has_array Spells name d xs (e, found, (ds, is, each)) none = none ds (found ∙ ap Some is)

none_before : {A : Type 0} (Spells : Data → A → Type 0) (name : List ℕ) (d : Data) (ds : Items) (i j : ℕ) → get name d ≡ Some (array ds) → IsFirstMisfit Spells ds i → j < i → ¬ HasBadEntry Spells name d j
none_before Spells name d ds i j found misfit l bad =
    let same : bad.entries ≡ ds = entries_same bad.found found in
    let entry = misfit.before j l bad.entry (ap (get_item j) (sym same) ∙ bad.at) in
    bad.bad entry.0 entry.1
  where
    entries_same : {b c : Items} → get name d ≡ Some (array b) → get name d ≡ Some (array c) → b ≡ c
    entries_same p q = cc

bad_at : {A : Type 0} (Spells : Data → A → Type 0) (name : List ℕ) (d : Data) (ds : Items) (i : ℕ) → get name d ≡ Some (array ds) → IsFirstMisfit Spells ds i → HasBadEntry Spells name d i
bad_at Spells name d ds i found misfit = record { entries = ds; found = found; entry = misfit.entry; at = misfit.at; bad = misfit.bad }

-- a file is of one version
pub one_version : (d : Data) (r q : Bool) → HasVersion r d → HasVersion q d → r ≡ q
one_version d true true h k = refl
one_version d true false h k = absurd (cc)
one_version d false true h k = absurd (cc)
one_version d false false h k = refl

pub cleared_scale : (d : Data) (ranked : Bool) → ¬ IsNoObject d → HasVersion ranked d → (IsTrue ranked → HasWord (codes "scale") d) → Cleared 3 d
unfolding Cleared
cleared_scale d ranked there version scale Whole j l fails = there fails.1
cleared_scale d ranked there version scale Version j l fails = fails.1 ranked version
cleared_scale d ranked there version scale Scale j l fails = fails.1.1 (scale (one_version d ranked true version fails.1.0))
cleared_scale d ranked there version scale Roots j l fails = absurd (omega arith)
cleared_scale d ranked there version scale Corners j l fails = absurd (omega arith)
cleared_scale d ranked there version scale Corner j l fails = absurd (omega arith)
cleared_scale d ranked there version scale States j l fails = absurd (omega arith)
cleared_scale d ranked there version scale State j l fails = absurd (omega arith)

neither : {A B : Type 0} → ¬ A → ¬ B → ¬ (A ⊎ B)
neither p q (inl a) = p a
neither p q (inr b) = q b

pub cleared_roots : (d : Data) (ns : List ℕ) → Cleared 3 d → SpellsMember (SpellsArray SpellsWord) (codes "roots") d ns → Cleared 4 d
unfolding Cleared
cleared_roots d ns before roots Whole j l = before Whole j (omega arith)
cleared_roots d ns before roots Version j l = before Version j (omega arith)
cleared_roots d ns before roots Scale j l = before Scale j (omega arith)
cleared_roots d ns before roots Roots j l = neither (λ none. has_array SpellsWord (codes "roots") d ns roots none.1) (none_bad SpellsWord (codes "roots") d ns j roots)
cleared_roots d ns before roots Corners j l = absurd (omega arith)
cleared_roots d ns before roots Corner j l = absurd (omega arith)
cleared_roots d ns before roots States j l = absurd (omega arith)
cleared_roots d ns before roots State j l = absurd (omega arith)

-- with an array of this name, the part of the array itself is cleared too
cleared_array : (d : Data) (ds : Items) → Cleared 4 d → get (codes "corners") d ≡ Some (array ds) → Cleared 5 d
unfolding Cleared
cleared_array d ds before found Whole j l = before Whole j (omega arith)
cleared_array d ds before found Version j l = before Version j (omega arith)
cleared_array d ds before found Scale j l = before Scale j (omega arith)
cleared_array d ds before found Roots j l = before Roots j (omega arith)
cleared_array d ds before found Corners j l = λ fails. fails.1 ds found
cleared_array d ds before found Corner j l = absurd (omega arith)
cleared_array d ds before found States j l = absurd (omega arith)
cleared_array d ds before found State j l = absurd (omega arith)

-- the version is one, so a bad entry is one of this version
no_bad_corner : (d : Data) (ranked : Bool) (i : ℕ) → HasVersion ranked d → ¬ HasBadEntry (SpellsCorner ranked) (codes "corners") d i → ¬ FailsAt Corner i d
no_bad_corner d ranked i version none (r, also, bad) = none (subst (λ q. HasBadEntry (SpellsCorner q) (codes "corners") d i) (one_version d r ranked also version) bad)

pub cleared_corners : (d : Data) (ranked : Bool) (gs : List CornerType) → HasVersion ranked d → Cleared 4 d → SpellsMember (SpellsArray (SpellsCorner ranked)) (codes "corners") d gs → Cleared 6 d
unfolding Cleared
cleared_corners d ranked gs version before corners Whole j l = before Whole j (omega arith)
cleared_corners d ranked gs version before corners Version j l = before Version j (omega arith)
cleared_corners d ranked gs version before corners Scale j l = before Scale j (omega arith)
cleared_corners d ranked gs version before corners Roots j l = before Roots j (omega arith)
cleared_corners d ranked gs version before corners Corners j l = λ fails. has_array (SpellsCorner ranked) (codes "corners") d gs corners fails.1
cleared_corners d ranked gs version before corners Corner j l = no_bad_corner d ranked j version (none_bad (SpellsCorner ranked) (codes "corners") d gs j corners)
cleared_corners d ranked gs version before corners States j l = absurd (omega arith)
cleared_corners d ranked gs version before corners State j l = absurd (omega arith)

cleared_states_array : (d : Data) (ds : Items) → Cleared 6 d → get (codes "states") d ≡ Some (array ds) → Cleared 7 d
unfolding Cleared
cleared_states_array d ds before found Whole j l = before Whole j (omega arith)
cleared_states_array d ds before found Version j l = before Version j (omega arith)
cleared_states_array d ds before found Scale j l = before Scale j (omega arith)
cleared_states_array d ds before found Roots j l = before Roots j (omega arith)
cleared_states_array d ds before found Corners j l = before Corners j (omega arith)
cleared_states_array d ds before found Corner j l = before Corner j (omega arith)
cleared_states_array d ds before found States j l = λ fails. fails.1 ds found
cleared_states_array d ds before found State j l = absurd (omega arith)

pub cleared_states : (d : Data) (ss : List TreeState) → Cleared 6 d → SpellsMember (SpellsArray SpellsState) (codes "states") d ss → Cleared 8 d
unfolding Cleared
cleared_states d ss before states Whole j l = before Whole j (omega arith)
cleared_states d ss before states Version j l = before Version j (omega arith)
cleared_states d ss before states Scale j l = before Scale j (omega arith)
cleared_states d ss before states Roots j l = before Roots j (omega arith)
cleared_states d ss before states Corners j l = before Corners j (omega arith)
cleared_states d ss before states Corner j l = before Corner j (omega arith)
cleared_states d ss before states States j l = λ fails. has_array SpellsState (codes "states") d ss states fails.1
cleared_states d ss before states State j l = none_bad SpellsState (codes "states") d ss j states

pub roots_refused : (d : Data) (e : RulesFault) → Cleared 3 d → RefusesTable SpellsWord (codes "roots") d Roots Roots e → Refuses d e
unfolding Cleared
roots_refused d _ cleared no_memory = tt
roots_refused d _ cleared (no_array none) = record { fails = inl (refl, none); earlier_parts = cleared; earlier_entries = λ j l. absurd (omega arith) }
roots_refused d _ cleared (bad_entry {ds} {i} found misfit) = record {
  fails = inr (bad_at SpellsWord (codes "roots") d ds i found misfit);
  earlier_parts = cleared;
  earlier_entries = λ j l. neither (λ none. none.1 ds found) (none_before SpellsWord (codes "roots") d ds i j found misfit l);
}

pub corners_refused : (d : Data) (ranked : Bool) (e : RulesFault) → HasVersion ranked d → Cleared 4 d → RefusesTable (SpellsCorner ranked) (codes "corners") d Corners Corner e → Refuses d e
unfolding Cleared
corners_refused d ranked _ version cleared no_memory = tt
corners_refused d ranked _ version cleared (no_array none) = record { fails = (refl, none); earlier_parts = cleared; earlier_entries = λ j l. absurd (omega arith) }
corners_refused d ranked _ version cleared (bad_entry {ds} {i} found misfit) = record {
  fails = (ranked, version, bad_at (SpellsCorner ranked) (codes "corners") d ds i found misfit);
  earlier_parts = cleared_array d ds cleared found;
  earlier_entries = λ j l. no_bad_corner d ranked j version (none_before (SpellsCorner ranked) (codes "corners") d ds i j found misfit l);
}

pub states_refused : (d : Data) (e : RulesFault) → Cleared 6 d → RefusesTable SpellsState (codes "states") d States State e → Refuses d e
unfolding Cleared
states_refused d _ cleared no_memory = tt
states_refused d _ cleared (no_array none) = record { fails = (refl, none); earlier_parts = cleared; earlier_entries = λ j l. absurd (omega arith) }
states_refused d _ cleared (bad_entry {ds} {i} found misfit) = record {
  fails = bad_at SpellsState (codes "states") d ds i found misfit;
  earlier_parts = cleared_states_array d ds cleared found;
  earlier_entries = λ j l. none_before SpellsState (codes "states") d ds i j found misfit l;
}

pub place_within : (ds : Items) (i : ℕ) (e : Data) → get_item i ds ≡ Some e → i < items_len ds
place_within no_items i e at = absurd (cc)
place_within (item d ds) zero e at = omega arith
place_within (item d ds) (suc i) e at = omega (arith, place_within ds i e at)

-- what `?` hands on
pub handed_on : {T : Type 0} (d : Data) (r : Result T RulesFault) (f : RulesFault) → IsErrAnd r (λ e. e ≡ f) → Refuses d f → IfErr r (Refuses d)
handed_on d (Ok x) f h refused = absurd h
handed_on d (Err e) f h refused = subst (Refuses d) (sym h) refused

pub memory_refuses : {A T : Type 0} (Spells : Data → A → Type 0) (name : List ℕ) (d : Data) (p q : Part) (r : Result T RulesFault) → IsErrAnd r (λ e. e ≡ Memory) → IfErr r (RefusesTable Spells name d p q)
memory_refuses Spells name d p q (Ok x) h = absurd h
memory_refuses Spells name d p q (Err e) h = subst (RefusesTable Spells name d p q) (sym h) no_memory

pub object_there : (d : Data) → true ≡ is_some (as_object d) → ¬ IsNoObject d
object_there null h none = absurd (cc)
object_there (boolean b) h none = absurd (cc)
object_there (number n) h none = absurd (cc)
object_there (string s) h none = absurd (cc)
object_there (array ds) h none = absurd (cc)
object_there (object ms) h none = none ms refl
