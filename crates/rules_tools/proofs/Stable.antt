-- Classes are stable where each state has the key of the first state of its class.
use Rattle.std.proofs.Common.{◌≡◌, ℕ, ◌<◌, List, length, sym, ◌∙◌, subst}
use Rattle.std.specs.Prelude.{Option, Some}
use Rattle.tile_model.specs.Tessellations.{TileKind}
use Rattle.tree_model.specs.Automata.{TreeAutomaton}
use Rattle.tree_model.specs.Conditions.{IsAccepted}
use Rattle.rules_tools.specs.Keys.{class_of, key_of}
use Rattle.rules_tools.specs.Classes.{AreStable}
use Rattle.rules_tools.specs.Firsts.{first_at, HasFirst}
use Rattle.rules_tools.proofs.Refining.{stable_by_key}

module _ (a : TreeAutomaton) (class : List ℕ) (firsts : List (Option ℕ)) (has : (s : ℕ) → s < length a.states → HasFirst a class firsts s) where
  one_key : (s t : ℕ) → s < length a.states → t < length a.states → class_of class s ≡ class_of class t → key_of a class s ≡ key_of a class t
  one_key s t ls lt e =
      let (r, is, k) = has s ls in
      let (r', is', k') = has t lt in
      let is'' : first_at firsts (class_of class t) ≡ Some r = subst (λ m. first_at firsts m ≡ Some r) e is in
      let same : r ≡ r' = cc (is'', is') in
      sym k ∙ subst (λ x. key_of a class x ≡ key_of a class t) (sym same) k'

  pub first_stable : (kinds : List TileKind) → IsAccepted kinds a → AreStable kinds a class
  first_stable kinds ok = stable_by_key kinds a ok class class one_key (λ s t ls lt e. e)
