-- Classes are cut: paths tell their parts apart, and members stay members.
use Rattle.std.proofs.Common.{◌≡◌, ◌≢◌, ◌⊎◌, inl, inr, ℕ, zero, suc, ◌+◌, ◌<◌, ◌≤◌, List, [], ◌∷◌, ◌++◌, length, take, get_or, slice_index_or, Contains, Vec, refl, sym, ap, ◌∙◌, subst, arith}
use Rattle.std.specs.declared.alloc.Global.{Global}
use Rattle.std.proofs.lemmas.Bool.{cases_eq, cases_lt}
use Rattle.std.proofs.lemmas.List.{get_or_past, take_more}
use Rattle.std.proofs.lemmas.List.Elements.{Contains-append_left, Contains-append_right, Contains-push, Contains-push_cases}
use Rattle.tile_model.specs.Tessellations.{TileKind}
use Rattle.tree_model.specs.declared.Rule.{Rule}
use Rattle.tree_model.specs.declared.Rule.TheVariants.{Parent as ParentSide, Child, Left, Right}
use Rattle.tree_model.specs.Automata.{TreeAutomaton, state_at, rule_at, side_count}
use Rattle.tree_model.specs.Conditions.{IsAccepted}
use Rattle.tree_model.specs.Names.{child_of}
use Rattle.merge_model.specs.Telling.{AreTold}
use Rattle.merge_laws.proofs.Paths.{face_told, child_told, GoesOn, same_goes_on}
use Rattle.rules_tools.specs.declared.parents.Parents.{Parents}
use Rattle.rules_tools.specs.declared.splitting.Classes.{Classes}
use Rattle.rules_tools.specs.Keys.{class_of}
use Rattle.rules_tools.specs.Classes.{AreApart}
use Rattle.rules_tools.specs.Rows.{row}
use Rattle.rules_tools.specs.Searches.{IsChild}
use Rattle.rules_tools.specs.Splitting.{HasParents, IsApart, AreFound, IsCut, Cuts}
use Rattle.rules_tools.proofs.Refining.{rule_is, goes_on, child_below}

-- an element, or none
pub has_or_not : (xs : List ℕ) (x : ℕ) → Contains xs x ⊎ (Contains xs x → ⊥)
has_or_not [] x = inr (λ h. absurd (omega (arith, h.1)))
has_or_not (y ∷ ys) x = go (cases_eq y x) (has_or_not ys x)
  where
    go : (y ≡ x) ⊎ (y ≢ x) → Contains ys x ⊎ (Contains ys x → ⊥) → Contains (y ∷ ys) x ⊎ (Contains (y ∷ ys) x → ⊥)
    go (inl e) _ = inl (0, omega arith, e)
    go (inr d) (inl h) = inl (Contains-append_right (y ∷ []) ys x h)
    go (inr d) (inr none) = inr (λ h. at h.0 h.1 h.2)
      where
        at : (k : ℕ) → k < length (y ∷ ys) → slice_index_or (y ∷ ys) k x ≡ x → ⊥
        at zero lt e = d e
        at (suc k) lt e = none (k, omega (arith, lt), e)

-- a side that has a child is there
child_within : (a : TreeAutomaton) (s i c : ℕ) → IsChild a s i c → i < length (state_at a s).rules
child_within a s i c h = go (cases_lt i (length (state_at a s).rules))
  where
    go : (i < length (state_at a s).rules) ⊎ (length (state_at a s).rules ≤ i) → i < length (state_at a s).rules
    go (inl lt) = lt
    go (inr le) = let none = get_or_past (state_at a s).rules i ParentSide le in absurd (cc (none, h))

rule_child : (a : TreeAutomaton) (s i c : ℕ) → rule_at a s i ≡ Child c → IsChild a s i c
unfolding rule_at
rule_child a s i c h = h

module _ (kinds : List TileKind) (a : TreeAutomaton) where
  pub told_back : (s t : ℕ) → AreTold kinds a s t → AreTold kinds a t s
  told_back s t (path, h) = (path, record { from_first = h.from_second; from_second = h.from_first; differ = λ e. h.differ (sym e) })

  -- classes that are cut by what paths tell apart
  pub cut_apart : (found class class' : List ℕ) → length class ≡ length a.states → AreApart kinds a class → Cuts kinds a found → IsCut found class class' → AreApart kinds a class'
  cut_apart found class class' long apart cuts h s t ls lt other = go (cases_eq (class_of class s) (class_of class t)) (has_or_not found s) (has_or_not found t)
    where
      in_s : s < length class
      in_s = omega (arith, ls, long)

      in_t : t < length class
      in_t = omega (arith, lt, long)

      go : (class_of class s ≡ class_of class t) ⊎ (class_of class s ≢ class_of class t) → Contains found s ⊎ (Contains found s → ⊥) → Contains found t ⊎ (Contains found t → ⊥) → AreTold kinds a s t
      go (inr d) _ _ = apart s t ls lt d
      go (inl e) (inl f) (inl g) = absurd (other (h.these s in_s f ∙ ap h.to e ∙ sym (h.these t in_t g)))
      go (inl e) (inr f) (inr g) = absurd (other (h.others s in_s f ∙ e ∙ sym (h.others t in_t g)))
      go (inl e) (inl f) (inr g) = cuts s t ls lt f g
      go (inl e) (inr f) (inl g) = told_back t s (cuts t s lt ls g f)

  module _ (ok : IsAccepted kinds a) (p : Parents) (parents : HasParents a p) (x : Classes) (h : IsApart kinds a x) (number : ℕ) (found : List (Vec ℕ Global)) (are : AreFound x p number found) where
    -- a path tells states with a child in the class from others
    pub side_cuts : (i : ℕ) → i < 64 → Cuts kinds a (row found i)
    side_cuts i li s t ls lt has none = sides (rule_at a t i) refl (cases_lt i (side_count kinds a t))
      where
        u : ℕ
        u = (are.sound i s has).0

        in_class : class_of x.class.items u ≡ number
        in_class = (are.sound i s has).1

        child : IsChild a s i u
        child = (parents.sound u (record { state = s; side = i }) (are.sound i s has).2).1

        rule : rule_at a s i ≡ Child u
        rule = rule_is kinds a ok s i u child

        on : GoesOn kinds a s i
        on = goes_on kinds a ok s i u ls (child_within a s i u child) rule

        by_face : (GoesOn kinds a t i → ⊥) → AreTold kinds a s t
        by_face stops = face_told kinds a s t (λ same. stops (same_goes_on kinds a s t i same on))

        by_child : (c : ℕ) → rule_at a t i ≡ Child c → i < side_count kinds a t → AreTold kinds a s t
        by_child c e lc =
            child_told kinds a s t i on (lc, e ∙ ap (λ r. Child (child_of r)) (sym e))
            (subst (λ y. AreTold kinds a y (child_of (rule_at a t i))) (sym (ap child_of rule))
            (subst (λ y. AreTold kinds a u y) (sym (ap child_of e)) (h.apart u c in_u in_c other)))
          where
            in_u : u < length a.states
            in_u = child_below kinds a ok s i u ls on.0 rule

            in_c : c < length a.states
            in_c = child_below kinds a ok t i c lt lc e

            other : class_of x.class.items u ≢ class_of x.class.items c
            other same =
                let number_is : class_of x.class.items c ≡ number = sym same ∙ in_class in
                let member = subst (λ k. Contains (row x.members.items k) c) number_is (h.members c (omega (arith, in_c, h.long))) in
                none (are.all c (record { state = t; side = i }) member number_is (parents.all t i c lt li (rule_child a t i c e)) li)

        sides : (r : Rule) → rule_at a t i ≡ r → (i < side_count kinds a t) ⊎ (side_count kinds a t ≤ i) → AreTold kinds a s t
        sides ParentSide e _ = by_face (λ g. let f = g.1 in absurd (cc (e, f)))
        sides Left e _ = by_face (λ g. let f = g.1 in absurd (cc (e, f)))
        sides Right e _ = by_face (λ g. let f = g.1 in absurd (cc (e, f)))
        sides (Child c) e (inl lc) = by_child c e lc
        sides (Child c) e (inr past) = by_face (λ g. let less = g.0 in absurd (omega (arith, less, past)))

-- a state gets a class, in which it is a member
pub set_members : (class class' : List ℕ) (rows rows' : List (Vec ℕ Global)) (s number : ℕ) → length class' ≡ length class → class_of class' s ≡ number → ((t : ℕ) → t ≢ s → class_of class' t ≡ class_of class t) → Contains (row rows' number) s → ((m y : ℕ) → Contains (row rows m) y → Contains (row rows' m) y) → ((t : ℕ) → t < length class → Contains (row rows (class_of class t)) t) → (t : ℕ) → t < length class' → Contains (row rows' (class_of class' t)) t
set_members class class' rows rows' s number long this others added kept h t lt = go (cases_eq t s)
  where
    go : (t ≡ s) ⊎ (t ≢ s) → Contains (row rows' (class_of class' t)) t
    go (inl e) =
        subst (λ y. Contains (row rows' (class_of class' y)) y) (sym e)
        (subst (λ k. Contains (row rows' k) s) (sym this) added)
    go (inr d) =
        subst (λ k. Contains (row rows' k) t) (sym (others t d))
        (kept (class_of class t) t (h t (omega (arith, lt, long))))

-- one state more got its class
module _ (found : List ℕ) (class class' class'' : List ℕ) (to : ℕ → ℕ) (j : ℕ) where
  pub these_more : (s : ℕ) → j < length found
      → (Contains (take j found) s → class_of class' s ≡ to (class_of class s))
      → (s ≡ get_or found j 0 → class_of class'' s ≡ to (class_of class s))
      → (s ≢ get_or found j 0 → class_of class'' s ≡ class_of class' s)
      → Contains (take (j + 1) found) s → class_of class'' s ≡ to (class_of class s)
  these_more s lt before this other has = go (cases_eq s (get_or found j 0)) (Contains-push_cases (take j found) (get_or found j 0) s (subst (λ xs. Contains xs s) (take_more found j 0 lt) has))
    where
      go : (s ≡ get_or found j 0) ⊎ (s ≢ get_or found j 0) → Contains (take j found) s ⊎ (get_or found j 0 ≡ s) → class_of class'' s ≡ to (class_of class s)
      go (inl e) _ = this e
      go (inr d) (inl old) = other d ∙ before old
      go (inr d) (inr e) = absurd (d (sym e))

  pub others_more : (s : ℕ) → j < length found
      → ((Contains (take j found) s → ⊥) → class_of class' s ≡ class_of class s)
      → (s ≢ get_or found j 0 → class_of class'' s ≡ class_of class' s)
      → (Contains (take (j + 1) found) s → ⊥) → class_of class'' s ≡ class_of class s
  others_more s lt before other none = other (λ e. none (again (subst (λ y. Contains (take j found ++ y ∷ []) s) e (Contains-push (take j found) s)))) ∙ before (λ old. none (again (Contains-append_left (take j found) (get_or found j 0 ∷ []) s old)))
    where
      again : Contains (take j found ++ get_or found j 0 ∷ []) s → Contains (take (j + 1) found) s
      again = subst (λ xs. Contains xs s) (sym (take_more found j 0 lt))

-- nothing is cut
pub uncut : (found class : List ℕ) → IsCut found class class
uncut found class = record { to = λ k. k; these = λ s lt f. refl; others = λ s lt f. refl }
