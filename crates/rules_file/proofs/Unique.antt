-- A JSON value spells one automaton at most, and has one first failure at most, and never both.
use Rattle.std.proofs.Common.{◌≡◌, Bool, ℕ, zero, suc, ◌<◌, ◌≤◌, ℤ, pos, negsuc, List, [], ◌∷◌, get_or, Option, Some, None, codes, refl, sym, ap, ap₂, ◌∙◌, subst, arith, inl, inr, ◌⊎◌, Result, Ok, Err, OnOk, IfOk, IfErr, MatchResult}
use Rattle.std.proofs.lemmas.Bool.{cases_lt}
use Rattle.serde_json.specs.Data.{Data, null, boolean, number, string, array, object, Items, no_items, item}
use Rattle.serde_json.specs.Find.{get}
use Rattle.tree_model.specs.declared.Rule.{Rule}
use Rattle.tree_model.specs.declared.Rule.TheVariants.{Parent, Child, Left, Right}
use Rattle.tree_model.specs.Automata.{TreeAutomaton}
use Rattle.rules_file.specs.declared.fault.Part.{Part}
use Rattle.rules_file.specs.declared.fault.Part.TheVariants.{Whole, Version, Scale, Roots, Corners, Corner, States, State}
use Rattle.rules_file.specs.declared.fault.RulesFault.{RulesFault}
use Rattle.rules_file.specs.declared.fault.RulesFault.TheVariants.{Syntax, Shape, Memory}
use Rattle.serde_json.specs.Read.{read}
use Rattle.rules_file.specs.Spelling.{offset_json, rule_json, pair_json, SpellsByte, SpellsWord, SpellsOffset, SpellsRule, SpellsPair, SpellEach, SpellsArray, SpellsMember, SpellsCorner, SpellsState, SpellsTables, IsTextOf, IsRulesFile}
use Rattle.rules_file.specs.Faults.{IsNoObject, FailsAt, turn, IsFirstFault}
use Rattle.rules_file.specs.Taking.{text_value}
use Rattle.rules_file.specs.Parts.{RefusesText}
use Rattle.rules_file.proofs.Failures.{Cleared, one_version, cleared_scale, cleared_roots, cleared_corners, cleared_states}

-- no value spells two things
abbrev IsExact : {A : Type 0} → (Data → A → Type 0) → Type 0
IsExact {A} Spells = (d : Data) (x y : A) → Spells d x → Spells d y → x ≡ y

each_exact : {A : Type 0} (Spells : Data → A → Type 0) → IsExact Spells → (ds : Items) (xs ys : List A) → SpellEach Spells ds xs → SpellEach Spells ds ys → xs ≡ ys
each_exact Spells one no_items [] [] h k = refl
each_exact Spells one no_items [] (y ∷ ys) h k = absurd k
each_exact Spells one no_items (x ∷ xs) ys h k = absurd h
each_exact Spells one (item d ds) [] ys h k = absurd h
each_exact Spells one (item d ds) (x ∷ xs) [] h k = absurd k
each_exact Spells one (item d ds) (x ∷ xs) (y ∷ ys) h k = ap₂ (λ u us. u ∷ us) (one d x y h.0 k.0) (each_exact Spells one ds xs ys h.1 k.1)

array_exact : {A : Type 0} (Spells : Data → A → Type 0) → IsExact Spells → IsExact (SpellsArray Spells)
array_exact Spells one d xs ys (ds, is, each) (es, also, also_each) =
    let same : ds ≡ es = cc in
    each_exact Spells one es xs ys (subst (λ us. SpellEach Spells us xs) same each) also_each

member_exact : {A : Type 0} (Spells : Data → A → Type 0) (name : List ℕ) → IsExact Spells → IsExact (SpellsMember Spells name)
member_exact Spells name one d x y (e, found, spelt) (f, also, also_spelt) =
    let same : e ≡ f = cc in
    one f x y (subst (λ u. Spells u x) same spelt) also_spelt

byte_exact : IsExact SpellsByte
byte_exact d x y h k = let a = h.value in let b = k.value in cc

word_exact : IsExact SpellsWord
word_exact d x y h k = let a = h.value in let b = k.value in cc

offset_same : (z w : ℤ) → offset_json z ≡ offset_json w → z ≡ w
offset_same (pos n) (pos m) e = cc
offset_same (pos n) (negsuc m) e = absurd (cc)
offset_same (negsuc n) (pos m) e = absurd (cc)
offset_same (negsuc n) (negsuc m) e = cc

offset_exact : IsExact SpellsOffset
offset_exact d x y h k = offset_same x y (sym h.value ∙ k.value)

-- the first byte of a text
text_of : Data → ℕ
text_of null = 0
text_of (boolean b) = 0
text_of (number n) = 0
text_of (string s) = get_or s 0 0
text_of (array ds) = 0
text_of (object ms) = 0

rule_same : (r s : Rule) → rule_json r ≡ rule_json s → r ≡ s
unfolding text_of
rule_same Parent Parent e = refl
rule_same Parent (Child n) e = absurd (omega (arith, ap text_of e))
rule_same Parent Left e = absurd (omega (arith, ap text_of e))
rule_same Parent Right e = absurd (omega (arith, ap text_of e))
rule_same (Child m) Parent e = absurd (omega (arith, ap text_of e))
rule_same (Child m) (Child n) e = cc
rule_same (Child m) Left e = absurd (omega (arith, ap text_of e))
rule_same (Child m) Right e = absurd (omega (arith, ap text_of e))
rule_same Left Parent e = absurd (omega (arith, ap text_of e))
rule_same Left (Child n) e = absurd (omega (arith, ap text_of e))
rule_same Left Left e = refl
rule_same Left Right e = absurd (omega (arith, ap text_of e))
rule_same Right Parent e = absurd (omega (arith, ap text_of e))
rule_same Right (Child n) e = absurd (omega (arith, ap text_of e))
rule_same Right Left e = absurd (omega (arith, ap text_of e))
rule_same Right Right e = refl

rule_exact : IsExact SpellsRule
rule_exact d x y h k = rule_same x y (sym h.value ∙ k.value)

pair_exact : IsExact SpellsPair
pair_exact d x y h k =
    let e : pair_json x ≡ pair_json y = sym h.value ∙ k.value in
    let p : x.corner ≡ y.corner = cc in
    let q : x.place ≡ y.place = cc in
    λ i. record { corner = p i; place = q i }

corner_exact : (ranked : Bool) → IsExact (SpellsCorner ranked)
corner_exact ranked d x y h k =
    let p = member_exact _ (codes "h") (array_exact SpellsOffset offset_exact) d x.offsets y.offsets h.h k.h in
    let q = member_exact _ (codes "outer") pair_exact d x.outer y.outer h.outer k.outer in
    λ i. record { offsets = p i; outer = q i }

state_exact : IsExact SpellsState
state_exact d x y h k =
    let p = member_exact _ (codes "kind") byte_exact d x.kind y.kind h.kind k.kind in
    let q = member_exact _ (codes "off") byte_exact d x.off y.off h.off k.off in
    let r = member_exact _ (codes "rules") (array_exact SpellsRule rule_exact) d x.rules y.rules h.rules k.rules in
    let s = member_exact _ (codes "claims") (array_exact SpellsPair pair_exact) d x.claims y.claims h.claims k.claims in
    λ i. record { kind = p i; off = q i; rules = r i; claims = s i }

pub tables_exact : (d : Data) (x y : TreeAutomaton) → SpellsTables d x → SpellsTables d y → x ≡ y
tables_exact d x y h k =
    let q = member_exact _ (codes "roots") (array_exact SpellsWord word_exact) d x.roots y.roots h.roots k.roots in
    let also = subst (λ ranked. SpellsMember (SpellsArray (SpellsCorner ranked)) (codes "corners") d y.corners) (one_version d k.ranked h.ranked k.version h.version) k.corners in
    let r = member_exact _ (codes "corners") (array_exact (SpellsCorner h.ranked) (corner_exact h.ranked)) d x.corners y.corners h.corners also in
    let s = member_exact _ (codes "states") (array_exact SpellsState state_exact) d x.states y.states h.states k.states in
    λ i. record { states = s i; corners = r i; roots = q i }

-- ---- failures

pub object_with : (name : List ℕ) (d e : Data) → get name d ≡ Some e → ¬ IsNoObject d
object_with name null e h none = absurd (cc)
object_with name (boolean b) e h none = absurd (cc)
object_with name (number n) e h none = absurd (cc)
object_with name (string s) e h none = absurd (cc)
object_with name (array ds) e h none = absurd (cc)
object_with name (object ms) e h none = none ms refl

below_eight : (part : Part) → turn part < 8
below_eight Whole = omega arith
below_eight Version = omega arith
below_eight Scale = omega arith
below_eight Roots = omega arith
below_eight Corners = omega arith
below_eight Corner = omega arith
below_eight States = omega arith
below_eight State = omega arith

-- what spells an automaton has no failure
pub spelt_no_failure : (d : Data) (a : TreeAutomaton) (part : Part) (i : ℕ) → SpellsTables d a → ¬ FailsAt part i d
unfolding Cleared
spelt_no_failure d a part i h =
    let scale = cleared_scale d h.ranked (object_with (codes "version") d _ h.version) h.version h.scale in
    let roots = cleared_roots d a.roots scale h.roots in
    let corners = cleared_corners d h.ranked a.corners h.version roots h.corners in
    cleared_states d a.states corners h.states part i (below_eight part)

part_at : ℕ → Part
part_at zero = Whole
part_at (suc zero) = Version
part_at (suc (suc zero)) = Scale
part_at (suc (suc (suc zero))) = Roots
part_at (suc (suc (suc (suc zero)))) = Corners
part_at (suc (suc (suc (suc (suc zero))))) = Corner
part_at (suc (suc (suc (suc (suc (suc zero)))))) = States
part_at (suc (suc (suc (suc (suc (suc (suc n))))))) = State

part_of_turn : (part : Part) → part_at (turn part) ≡ part
unfolding part_at
part_of_turn Whole = refl
part_of_turn Version = refl
part_of_turn Scale = refl
part_of_turn Roots = refl
part_of_turn Corners = refl
part_of_turn Corner = refl
part_of_turn States = refl
part_of_turn State = refl

pub one_first_fault : (d : Data) (p q : Part) (i j : ℕ) → IsFirstFault d p i → IsFirstFault d q j → (p ≡ q) × (i ≡ j)
one_first_fault d p q i j h k = go (cases_lt (turn p) (turn q)) (cases_lt (turn q) (turn p))
  where
    same_place : p ≡ q → (i < j) ⊎ (j ≤ i) → (j < i) ⊎ (i ≤ j) → (p ≡ q) × (i ≡ j)
    same_place e (inl l) m = absurd (k.earlier_entries i l (subst (λ r. FailsAt r i d) e h.fails))
    same_place e (inr l) (inl m) = absurd (h.earlier_entries j m (subst (λ r. FailsAt r j d) (sym e) k.fails))
    same_place e (inr l) (inr m) = (e, omega arith)

    go : (turn p < turn q) ⊎ (turn q ≤ turn p) → (turn q < turn p) ⊎ (turn p ≤ turn q) → (p ≡ q) × (i ≡ j)
    go (inl l) m = absurd (k.earlier_parts p i l h.fails)
    go (inr l) (inl m) = absurd (h.earlier_parts q j m k.fails)
    go (inr l) (inr m) =
        let turns : turn p ≡ turn q = omega arith in
        same_place (sym (part_of_turn p) ∙ ap part_at turns ∙ part_of_turn q) (cases_lt i j) (cases_lt j i)

-- ---- so the answer to a text is one

same_value : (bytes : List ℕ) (d e : Data) → read bytes ≡ Some d → IsTextOf bytes e → e ≡ d
same_value bytes d e is text = let also = text.value in cc

not_both : {u : Data} {o : Option Data} → o ≡ None → o ≡ Some u → ⊥
not_both p q = absurd (cc)

pub complete_answer : (text bytes : List ℕ) (r : Result TreeAutomaton RulesFault) (a : TreeAutomaton) → text ≡ bytes → OnOk r (read text ≡ Some (text_value text)) → IfOk r (SpellsTables (text_value text)) → IfErr r (RefusesText text)
    → IsRulesFile bytes a → MatchResult r (λ b. b ≡ a) (λ e. e ≡ Memory)
complete_answer text bytes (Ok b) a same is ok err (e, t, spelt) =
    tables_exact (text_value text) b a ok (subst (λ u. SpellsTables u a) (same_value bytes (text_value text) e (ap read (sym same) ∙ is) t) spelt)
complete_answer text bytes (Err Syntax) a same is ok err (e, t, spelt) = absurd (not_both (ap read (sym same) ∙ err) t.value)
complete_answer text bytes (Err (Shape part i)) a same is ok err (e, t, spelt) =
    absurd (spelt_no_failure (text_value text) a part i (subst (λ u. SpellsTables u a) (same_value bytes (text_value text) e (ap read (sym same) ∙ err.0) t) spelt) err.1.fails)
complete_answer text bytes (Err Memory) a same is ok err file = refl

pub misshapen_answer : (text bytes : List ℕ) (e : Data) (r : Result TreeAutomaton RulesFault) (part : Part) (i : ℕ) → text ≡ bytes → OnOk r (read text ≡ Some (text_value text)) → IfOk r (SpellsTables (text_value text)) → IfErr r (RefusesText text)
    → IsTextOf bytes e → IsFirstFault e part i → (r ≡ Err (Shape part i)) ⊎ (r ≡ Err Memory)
misshapen_answer text bytes e (Ok b) part i same is ok err t fault =
    absurd (spelt_no_failure (text_value text) b part i ok (subst (λ u. FailsAt part i u) (same_value bytes (text_value text) e (ap read (sym same) ∙ is) t) fault.fails))
misshapen_answer text bytes e (Err Syntax) part i same is ok err t fault = absurd (not_both (ap read (sym same) ∙ err) t.value)
misshapen_answer text bytes e (Err (Shape p j)) part i same is ok err t fault =
    let one = one_first_fault (text_value text) p part j i err.1 (subst (λ u. IsFirstFault u part i) (same_value bytes (text_value text) e (ap read (sym same) ∙ err.0) t) fault) in
    inl (ap₂ (λ q k. Err (Shape q k)) one.0 one.1)
misshapen_answer text bytes e (Err Memory) part i same is ok err t fault = inr refl

pub file_exact : (bytes : List ℕ) (a b : TreeAutomaton) → IsRulesFile bytes a → IsRulesFile bytes b → a ≡ b
file_exact bytes a b (d, text, spelt) (e, also, also_spelt) =
    tables_exact d a b spelt (subst (λ u. SpellsTables u b) (same_value bytes d e text.value also) also_spelt)
