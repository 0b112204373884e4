-- What accepted rules have: states of names, few sides, and names that grow by a side.
use Rattle.std.proofs.Common.{◌≡◌, ℕ, ◌<◌, ◌≤◌, List, [], ◌∷◌, ◌++◌, length, sym, ap, ◌∙◌}
use Rattle.tile_model.specs.Tessellations.{TileKind}
use Rattle.tree_model.specs.declared.Rule.TheVariants.{Child}
use Rattle.tree_model.specs.Automata.{TreeAutomaton, rule_at, side_count}
use Rattle.tree_model.specs.Conditions.{IsClosedTable}
use Rattle.tree_model.specs.Names.{child_of, reached, IsNameBelow}
use Rattle.structure_check.specs.Rules.{TreeRules, AreSound}

pub few_sides : (r : TreeRules) → AreSound r → (s : ℕ) → s < length r.automaton.states → side_count r.kinds r.automaton s ≤ 64
unfolding side_count
few_sides r sound s known = (sound.valid.sides _ (sound.accepted.c1.tables s known).kind).1

module _ (kinds : List TileKind) (a : TreeAutomaton) where
  pub reached_known : IsClosedTable kinds a → (s : ℕ) (m : List ℕ) → s < length a.states → IsNameBelow kinds a s m → reached a s m < length a.states
  reached_known closed s [] known name = known
  reached_known closed s (i ∷ m) known name =
      reached_known closed (child_of (rule_at a s i)) m ((closed.targets s known).child i _ name.0 name.1) name.2

  pub name_push : (s : ℕ) (m : List ℕ) (x c : ℕ) → IsNameBelow kinds a s m → x < side_count kinds a (reached a s m) → rule_at a (reached a s m) x ≡ Child c → IsNameBelow kinds a s (m ++ x ∷ [])
  name_push s [] x c name h child = (h, child ∙ ap (λ q. Child (child_of q)) (sym child), tt)
  name_push s (i ∷ m) x c name h child = (name.0, name.1, name_push (child_of (rule_at a s i)) m x c name.2 h child)

  pub reached_push : (s : ℕ) (m : List ℕ) (x c : ℕ) → rule_at a (reached a s m) x ≡ Child c → reached a s (m ++ x ∷ []) ≡ c
  reached_push s [] x c child = ap child_of child
  reached_push s (i ∷ m) x c child = reached_push (child_of (rule_at a s i)) m x c child

  pub name_pop : (s : ℕ) (m : List ℕ) (x : ℕ) → IsNameBelow kinds a s (m ++ x ∷ []) → IsNameBelow kinds a s m
  name_pop s [] x name = tt
  name_pop s (i ∷ m) x name = (name.0, name.1, name_pop (child_of (rule_at a s i)) m x name.2)
