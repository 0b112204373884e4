-- What is printed is a rules file of the automaton and of no other.
use Rattle.std.proofs.Common.{◌≡◌, List, ℕ, ◌∷◌, [], ◌++◌, Ok, Err, sym, ◌∙◌, ap, subst}
use Rattle.std.specs.Prelude.{Result, IfOk}
use Rattle.serde_json.specs.Data.{Data}
use Rattle.serde_json.specs.Written.{compact_text}
use Rattle.tree_model.specs.Automata.{TreeAutomaton}
use Rattle.rules_file.specs.Spelling.{automaton_json, IsRulesFile}
use Rattle.rules_file.specs.Ranges.{FitsTables}
use Rattle.rules_file.proofs.Spelt.{canonical_is_file}
use Rattle.rules_file.proofs.Unique.{file_exact}

-- the bytes are the line of the value of the automaton
line_is_file : (a : TreeAutomaton) (json : Data) (bytes : List ℕ) → FitsTables a → json ≡ automaton_json a → bytes ≡ compact_text json ++ 10 ∷ [] → IsRulesFile bytes a
line_is_file a json bytes fits is text =
    subst (λ (l : List ℕ). IsRulesFile l a) (sym (text ∙ ap (λ (d : Data). compact_text d ++ 10 ∷ []) is)) (canonical_is_file a fits)

module _ {V E : Type 0} (items : V → List ℕ) (a : TreeAutomaton) (json : Data) where
  pub spelled : (r : Result V E) → FitsTables a → json ≡ automaton_json a → IfOk r (λ v. items v ≡ compact_text json ++ 10 ∷ []) → IfOk r (λ v. IsRulesFile (items v) a)
  spelled (Ok v) fits is text = line_is_file a json (items v) fits is text
  spelled (Err e) fits is text = tt

  pub of_no_other : (r : Result V E) → FitsTables a → json ≡ automaton_json a → IfOk r (λ v. items v ≡ compact_text json ++ 10 ∷ []) → IfOk r (λ v. (b : TreeAutomaton) → IsRulesFile (items v) b → b ≡ a)
  of_no_other (Ok v) fits is text = λ b file. file_exact (items v) b a file (line_is_file a json (items v) fits is text)
  of_no_other (Err e) fits is text = tt
