-- The JSON of an automaton spells it.
use Rattle.std.proofs.Common.{◌<◌, ◌^◌, false, List, [], ◌∷◌, map, refl}
use Rattle.std.specs.Prelude.{All, FitsSigned}
use Rattle.std.specs.Int.{w8}
use Rattle.std.proofs.lemmas.List.Elements.{All-head, All-tail}
use Rattle.serde_json.specs.Data.{Data}
use Rattle.serde_json.specs.View.{items_of}
use Rattle.tree_model.specs.Automata.{TreeState, CornerType, TreeAutomaton}
use Rattle.rules_file.specs.Spelling.{whole, offset_json, rule_json, pair_json, list_json, corner_json, state_json, automaton_json, rules_text, FitsRule, SpellEach, SpellsArray, SpellsCorner, SpellsState, SpellsTables, SpellsWord, SpellsOffset, SpellsRule, SpellsPair, IsTextOf, IsRulesFile}
use Rattle.rules_file.specs.Ranges.{FitsPair, FitsCorner, FitsState, FitsTables}
use Rattle.rules_file.proofs.Canonical.{line_reads, line_utf8}
use Rattle.rules_file.proofs.Writable.{automaton_writable, deep_enough}

each_spelt : {A : Type 0} (f : A → Data) (Spells : Data → A → Type 0) (Fits : A → Type 0) → ((x : A) → Fits x → Spells (f x) x) → (xs : List A) → All Fits xs → SpellEach Spells (items_of (map f xs)) xs
each_spelt f Spells Fits one [] h = tt
each_spelt f Spells Fits one (x ∷ xs) h = (one x (All-head Fits x xs h), each_spelt f Spells Fits one xs (All-tail Fits x xs h))

list_spelt : {A : Type 0} (f : A → Data) (Spells : Data → A → Type 0) (Fits : A → Type 0) → ((x : A) → Fits x → Spells (f x) x) → (xs : List A) → All Fits xs → SpellsArray Spells (list_json f xs) xs
list_spelt f Spells Fits one xs h = (items_of (map f xs), refl, each_spelt f Spells Fits one xs h)

corner_spelt : (g : CornerType) → FitsCorner g → SpellsCorner false (corner_json g) g
corner_spelt g h = record {
  h = (_, refl, list_spelt offset_json SpellsOffset (FitsSigned w8) (λ z k. record { value = refl; fits = k }) g.offsets h.offsets);
  outer = (_, refl, record { value = refl; corner_fits = h.outer.corner; place_fits = h.outer.place });
  rank = λ h. absurd (cc);
}

state_spelt : (s : TreeState) → FitsState s → SpellsState (state_json s) s
state_spelt s h = record {
  kind = (_, refl, record { value = refl; fits = h.kind });
  off = (_, refl, record { value = refl; fits = h.off });
  rules = (_, refl, list_spelt rule_json SpellsRule FitsRule (λ r k. record { value = refl; fits = k }) s.rules h.rules);
  claims = (_, refl, list_spelt pair_json SpellsPair FitsPair (λ c k. record { value = refl; corner_fits = k.corner; place_fits = k.place }) s.claims h.claims);
}

tables_spelt : (a : TreeAutomaton) → FitsTables a → SpellsTables (automaton_json a) a
tables_spelt a h = record {
  ranked = false;
  version = refl;
  scale = λ h. absurd (cc);
  roots = (_, refl, list_spelt whole SpellsWord (λ n. n < 2 ^ 32) (λ n k. record { value = refl; fits = k }) a.roots h.roots);
  corners = (_, refl, list_spelt corner_json (SpellsCorner false) FitsCorner corner_spelt a.corners h.corners);
  states = (_, refl, list_spelt state_json SpellsState FitsState state_spelt a.states h.states);
}

pub canonical_is_file : (a : TreeAutomaton) → FitsTables a → IsRulesFile (rules_text a) a
canonical_is_file a h =
    let written = automaton_writable a h in
    let text : IsTextOf (rules_text a) (automaton_json a) = record { utf8 = line_utf8 5 (automaton_json a) written; value = line_reads (automaton_json a) (deep_enough (automaton_json a) written) } in
    (automaton_json a, text, tables_spelt a h)
