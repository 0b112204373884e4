-- The states of the classes, gone through in order, make the merged automaton.
use Rattle.std.proofs.Common.{◌≡◌, ◌≢◌, ◌⊎◌, inl, inr, ℕ, ◌+◌, ◌<◌, ◌≤◌, List, [], ◌∷◌, ◌++◌, map, length, slice_index_or, sym, ap, ◌∙◌, subst, arith}
use Rattle.std.specs.Prelude.{Option, Some}
use Rattle.std.proofs.lemmas.Bool.{cases_eq, cases_lt, cases_order}
use Rattle.std.proofs.lemmas.List.{get_or_append_left, get_or_push, length_push}
use Rattle.tile_model.specs.Tessellations.{TileKind}
use Rattle.tree_model.specs.declared.Rule.TheVariants.{Parent, Child}
use Rattle.tree_model.specs.Automata.{TreeState, TreeAutomaton, no_state, state_at, rule_at, side_count}
use Rattle.tree_model.specs.Conditions.{IsAccepted}
use Rattle.tree_model.specs.Names.{child_of}
use Rattle.merge_model.specs.Faces.{with_children}
use Rattle.merge_model.specs.Telling.{AreAlike}
use Rattle.merge_model.specs.Merging.{class_at, class_number, AreClasses, IsMerged}
use Rattle.merge_laws.proofs.Copies.{face_sides}
use Rattle.merge_laws.proofs.Paths.{alike_face, alike_child, told_not_alike}
use Rattle.merge_laws.proofs.Numbers.{child_reachable, reachable_class, state_below}
use Rattle.rules_tools.specs.Reducing.{AreOrdered, AreFirstStates}
use Rattle.rules_tools.proofs.Deciding.{made_same, one_rules}

module _ (a : TreeAutomaton) (classes : List (Option ℕ)) where
  pub no_states : AreFirstStates a classes 0 []
  no_states = record { each = λ m lt. absurd (omega (arith, lt)); all = λ s m lt e. absurd (omega (arith, lt)) }

  -- a state whose class has its state
  pub known_state : AreOrdered classes → (n : ℕ) (us : List TreeState) → AreFirstStates a classes n us → (class_at classes n ≡ Some (length us) → ⊥) → AreFirstStates a classes (n + 1) us
  known_state ordered n us h other = record {
    each = λ m lt. let (s, ls, e, is) = h.each m lt in (s, omega (arith, ls), e, is);
    all = λ s m lt e. go s m lt e (cases_eq s n) (cases_order m (length us));
  }
    where
      go : (s m : ℕ) → s < n + 1 → class_at classes s ≡ Some m → (s ≡ n) ⊎ (s ≢ n) → (m ≡ length us) ⊎ ((m < length us) ⊎ (length us < m)) → m < length us
      go s m lt e (inr d) _ = h.all s m (omega (arith, lt, d)) e
      go s m lt e (inl q) (inl same) = absurd (other (sym (ap (class_at classes) q) ∙ e ∙ ap Some same))
      go s m lt e (inl q) (inr (inl less)) = less
      go s m lt e (inl q) (inr (inr more)) =
          let (t, before, e') = ordered s m (length us) e more in
          let low = h.all t (length us) (omega (arith, before, q)) e' in
          absurd (omega (arith, low))

  -- the first state of a class
  pub new_state : (n : ℕ) (us : List TreeState) (u : TreeState) → AreFirstStates a classes n us → class_at classes n ≡ Some (length us) → u ≡ with_children (class_number classes) (state_at a n) → AreFirstStates a classes (n + 1) (us ++ u ∷ [])
  new_state n us u h e is = record {
    each = λ m lt. each m lt (cases_lt m (length us));
    all = λ s m lt q. all s m lt q (cases_eq s n);
  }
    where
      Each : ℕ → Type 0
      Each m = (s : ℕ) × (s < n + 1) × (class_at classes s ≡ Some m) × (slice_index_or (us ++ u ∷ []) m no_state ≡ with_children (class_number classes) (state_at a s))

      each : (m : ℕ) → m < length (us ++ u ∷ []) → (m < length us) ⊎ (length us ≤ m) → Each m
      each m lt (inl less) =
          let (s, ls, q, at) = h.each m less in
          (s, omega (arith, ls), q, get_or_append_left us (u ∷ []) no_state m less ∙ at)
      each m lt (inr ge) =
          let last : m ≡ length us = omega (arith, lt, ge, length_push us u) in
          (n, omega arith, e ∙ ap Some (sym last), get_or_push us u no_state m (sym last) ∙ is)

      all : (s m : ℕ) → s < n + 1 → class_at classes s ≡ Some m → (s ≡ n) ⊎ (s ≢ n) → m < length (us ++ u ∷ [])
      all s m lt q (inr d) = let less = h.all s m (omega (arith, lt, d)) q in omega (arith, less, length_push us u)
      all s m lt q (inl z) =
          let two : Some m ≡ Some (length us) = sym q ∙ ap (class_at classes) z ∙ e in
          let same : m ≡ length us = cc (two) in
          omega (arith, same, length_push us u)

module _ (kinds : List TileKind) (a : TreeAutomaton) (ok : IsAccepted kinds a) (classes : List (Option ℕ)) (count : ℕ) (classed : AreClasses kinds a classes count) where
  -- two numbers of states that no path tells apart are one
  one_number : (s t m n : ℕ) → class_at classes s ≡ Some m → class_at classes t ≡ Some n → AreAlike kinds a s t → m ≡ n
  one_number s t m n e e' alike = go (cases_eq m n)
    where
      go : (m ≡ n) ⊎ (m ≢ n) → m ≡ n
      go (inl q) = q
      go (inr d) = absurd (told_not_alike kinds a s t (classed.told s t m n e e' d) alike)

  child_number : (s t m i c d : ℕ) → class_at classes s ≡ Some m → class_at classes t ≡ Some m → i < length (state_at a s).rules → slice_index_or (state_at a s).rules i Parent ≡ Child c → slice_index_or (state_at a t).rules i Parent ≡ Child d → class_number classes c ≡ class_number classes d
  unfolding rule_at
  child_number s t m i c d e e' lt h h' =
      let ls = state_below kinds a ok classes count classed s m e in
      let alike = classed.alike s t m e e' in
      let li : i < side_count kinds a s = subst (λ n. i < n) (ok.c1.tables s ls).rules lt in
      let g : rule_at a s i ≡ Child (child_of (rule_at a s i)) = h ∙ ap (λ x. Child (child_of x)) (sym h) in
      let g' : rule_at a t i ≡ Child (child_of (rule_at a t i)) = h' ∙ ap (λ x. Child (child_of x)) (sym h') in
      let li' = subst (λ n. i < n) (face_sides kinds a s t (alike_face kinds a s t alike)) li in
      let r = reachable_class kinds a ok classes count classed (child_of (rule_at a s i)) (child_reachable kinds a ok s i (classed.on s m e) li g) in
      let r' = reachable_class kinds a ok classes count classed (child_of (rule_at a t i)) (child_reachable kinds a ok t i (classed.on t m e') li' g') in
      let one = one_number (child_of (rule_at a s i)) (child_of (rule_at a t i)) (class_number classes (child_of (rule_at a s i))) (class_number classes (child_of (rule_at a t i))) r r' (alike_child kinds a s t i alike (li, g)) in
      sym (ap (λ x. class_number classes (child_of x)) h) ∙ one ∙ ap (λ x. class_number classes (child_of x)) h'

  -- a class has one state
  one_state : (s t m : ℕ) → class_at classes s ≡ Some m → class_at classes t ≡ Some m → with_children (class_number classes) (state_at a s) ≡ with_children (class_number classes) (state_at a t)
  one_state s t m e e' =
      let f = alike_face kinds a s t (classed.alike s t m e e') in
      made_same (with_children (class_number classes) (state_at a s)) (with_children (class_number classes) (state_at a t))
      (ap (λ (u : TreeState). u.kind) f) (ap (λ (u : TreeState). u.off) f)
      (one_rules (class_number classes) (state_at a s).rules (state_at a t).rules (ap (λ (u : TreeState). u.rules) f) (λ i c d lt h h'. child_number s t m i c d e e' lt h h'))
      (ap (λ (u : TreeState). u.claims) f)

  module _ (b : TreeAutomaton) (states : AreFirstStates a classes (length a.states) b.states) (roots : b.roots ≡ map (class_number classes) a.roots) (corners : b.corners ≡ a.corners) where
    state_is : (m : ℕ) → m < length b.states → (s : ℕ) × (class_at classes s ≡ Some m) × (state_at b m ≡ with_children (class_number classes) (state_at a s))
    unfolding state_at
    state_is m lt = let (s, _, e, is) = states.each m lt in (s, e, is)

    many : length b.states ≡ count
    many = go (cases_order (length b.states) count)
      where
        go : (length b.states ≡ count) ⊎ ((length b.states < count) ⊎ (count < length b.states)) → length b.states ≡ count
        go (inl e) = e
        go (inr (inl less)) =
            let (s, e) = classed.used (length b.states) less in
            let low = states.all s (length b.states) (state_below kinds a ok classes count classed s (length b.states) e) e in
            absurd (omega (arith, low))
        go (inr (inr more)) =
            let (s, e, _) = state_is count more in
            let low = classed.known s count e in
            absurd (omega (arith, low))

    pub is_merged : IsMerged kinds a classes b
    is_merged = record {
      classed = subst (AreClasses kinds a classes) (sym many) classed;
      reduced = record {
        state = λ s m e.
            let lt = states.all s m (state_below kinds a ok classes count classed s m e) e in
            let (t, e', is) = state_is m lt in
            is ∙ one_state t s m e' e;
        roots = roots;
        corners = corners;
      };
    }
