-- Classes by number: which states have one, and how many classes there are.
use Rattle.std.proofs.Common.{◌≡◌, ℕ, zero, suc, ◌<◌, ◌≤◌, List, [], ◌∷◌, ◌++◌, length, refl, sym, ap, ◌∙◌, subst, arith}
use Rattle.std.specs.Prelude.{Option, Some, None}
use Rattle.tile_model.specs.Tessellations.{TileKind}
use Rattle.tree_model.specs.declared.Rule.TheVariants.{Child}
use Rattle.tree_model.specs.Automata.{TreeAutomaton, rule_at, root_at, side_count}
use Rattle.tree_model.specs.Conditions.{IsAccepted}
use Rattle.tree_model.specs.Names.{child_of}
use Rattle.tree_model.proofs.Names.{reached_push, name_push, name_state}
use Rattle.merge_model.specs.Merging.{IsReachable, class_at, number, class_number, AreClasses}

pub has_number : (o : Option ℕ) → (o ≡ None → ⊥) → o ≡ Some (number o)
has_number (Some m) h = refl
has_number None h = absurd (h refl)

module _ (kinds : List TileKind) (a : TreeAutomaton) (ok : IsAccepted kinds a) where
  pub reachable_state : (s : ℕ) → IsReachable kinds a s → s < length a.states
  reachable_state s r = subst (λ n. n < length a.states) r.reaches (name_state kinds a ok.c1 (root_at a r.kind) r.name (ok.c1.root r.kind r.is_kind) r.is_name)

  pub root_reachable : (k : ℕ) → k < length kinds → IsReachable kinds a (root_at a k)
  root_reachable k h = record { kind = k; is_kind = h; name = []; is_name = tt; reaches = refl }

  pub child_reachable : (s i : ℕ) → IsReachable kinds a s → i < side_count kinds a s → rule_at a s i ≡ Child (child_of (rule_at a s i)) → IsReachable kinds a (child_of (rule_at a s i))
  child_reachable s i r h c = record {
    kind = r.kind;
    is_kind = r.is_kind;
    name = r.name ++ i ∷ [];
    is_name =
        name_push kinds a (root_at a r.kind) r.name i r.is_name (subst (λ t. i < side_count kinds a t) (sym r.reaches) h)
        (subst (λ t. rule_at a t i ≡ Child (child_of (rule_at a t i))) (sym r.reaches) c);
    reaches = reached_push kinds a (root_at a r.kind) r.name i ∙ ap (λ t. child_of (rule_at a t i)) r.reaches;
  }

  module _ (classes : List (Option ℕ)) (count : ℕ) (classed : AreClasses kinds a classes count) where
    pub state_below : (s m : ℕ) → class_at classes s ≡ Some m → s < length a.states
    state_below s m h = reachable_state s (classed.on s m h)

    pub reachable_class : (s : ℕ) → IsReachable kinds a s → class_at classes s ≡ Some (class_number classes s)
    reachable_class s r = has_number (class_at classes s) (λ e. classed.off s (reachable_state s r) e r)

    pub number_is : (s m : ℕ) → class_at classes s ≡ Some m → class_number classes s ≡ m
    number_is s m h = ap number h

    -- a class is not before the states of the lesser classes
    pub number_most : (s m : ℕ) → class_at classes s ≡ Some m → m ≤ s
    number_most s zero h = omega arith
    number_most s (suc m) h = let (t, lt, e) = classed.ordered s (suc m) m h (omega arith) in omega (arith, lt, number_most t m e)

    pub few_classes : count ≤ length a.states
    few_classes = go count refl
      where
        go : (n : ℕ) → n ≡ count → n ≤ length a.states
        go zero e = omega arith
        go (suc n) e =
            let (s, h) = classed.used n (omega (arith, e)) in
            omega (arith, number_most s n h, state_below s n h)
