-- There is one merging: a state that has the lesser number in one of two would be of the class of
-- a state before it, and no path tells these apart.
use Rattle.std.proofs.Common.{◌≡◌, ◌⊎◌, inl, inr, ℕ, zero, suc, ◌<◌, ◌≤◌, List, length, slice_index_or, refl, sym, ap, ◌∙◌, subst, arith}
use Rattle.std.specs.Prelude.{Option, Some, None}
use Rattle.std.proofs.lemmas.Bool.{cases_order}
use Rattle.std.proofs.lemmas.List.{same_lists, get_or_default}
use Rattle.tile_model.specs.Tessellations.{TileKind}
use Rattle.tree_model.specs.Automata.{TreeState, TreeAutomaton, CornerType, no_state, state_at}
use Rattle.tree_model.specs.Conditions.{IsAccepted}
use Rattle.merge_model.specs.Merging.{class_at, AreClasses, IsMerged}
use Rattle.merge_laws.proofs.Paths.{told_not_alike}
use Rattle.merge_laws.proofs.Numbers.{reachable_state}

same_at : {X : Type 0} (xs ys : List X) (d : X) → length xs ≡ length ys → ((k : ℕ) → k < length xs → slice_index_or xs k d ≡ slice_index_or ys k d) → xs ≡ ys
same_at xs ys d e h =
    same_lists xs ys e (λ k x lt. get_or_default xs k x d lt ∙ h k lt ∙ get_or_default ys k d x (subst (λ n. k < n) e lt))

module _ (kinds : List TileKind) (a : TreeAutomaton) (ok : IsAccepted kinds a) where
  module _ (classes classes' : List (Option ℕ)) (count count' : ℕ) (classed : AreClasses kinds a classes count) (classed' : AreClasses kinds a classes' count') where
    -- a state does not get a greater number
    not_greater : (s m n : ℕ) → ((t : ℕ) → t < s → class_at classes' t ≡ class_at classes t) → class_at classes s ≡ Some m → class_at classes' s ≡ Some n → m < n → ⊥
    not_greater s m n before h h' lt =
        let (t, less, g') = classed'.ordered s n m h' lt in
        let g : class_at classes t ≡ Some m = sym (before t less) ∙ g' in
        let told = classed'.told s t n m h' g' (λ e. omega (arith, e, lt)) in
        told_not_alike kinds a s t told (classed.alike s t m h g)

  module _ (classes classes' : List (Option ℕ)) (count count' : ℕ) (classed : AreClasses kinds a classes count) (classed' : AreClasses kinds a classes' count') where
    one_number : (s m n : ℕ) → ((t : ℕ) → t < s → class_at classes' t ≡ class_at classes t) → class_at classes s ≡ Some m → class_at classes' s ≡ Some n → n ≡ m
    one_number s m n before h h' = go (cases_order m n)
      where
        go : (m ≡ n) ⊎ ((m < n) ⊎ (n < m)) → n ≡ m
        go (inl e) = sym e
        go (inr (inl lt)) = absurd (not_greater classes classes' count count' classed classed' s m n before h h' lt)
        go (inr (inr gt)) = absurd (not_greater classes' classes count' count classed' classed s n m (λ t less. sym (before t less)) h' h gt)

    one_entry : (s : ℕ) → ((t : ℕ) → t < s → class_at classes' t ≡ class_at classes t) → (o o' : Option ℕ) → class_at classes s ≡ o → class_at classes' s ≡ o' → o' ≡ o
    one_entry s before None None e e' = refl
    one_entry s before (Some m) (Some n) e e' = ap Some (one_number s m n before e e')
    one_entry s before None (Some n) e e' = let r = classed'.on s n e' in absurd (classed.off s (reachable_state kinds a ok s r) e r)
    one_entry s before (Some m) None e e' = let r = classed.on s m e in absurd (classed'.off s (reachable_state kinds a ok s r) e' r)

    entries_below : (bound s : ℕ) → s < bound → class_at classes' s ≡ class_at classes s
    entries_below zero s lt = absurd (omega (arith, lt))
    entries_below (suc bound) s lt =
        one_entry s (λ t less. entries_below bound t (omega (arith, lt, less))) (class_at classes s) (class_at classes' s) refl refl

    one_class : (s : ℕ) → class_at classes' s ≡ class_at classes s
    one_class s = entries_below (suc s) s (omega arith)

    pub one_list : classes' ≡ classes
    unfolding class_at
    one_list = same_at classes' classes None (classed'.entries ∙ sym classed.entries) (λ s lt. one_class s)

  -- and as many classes
  not_more : (classes : List (Option ℕ)) (count count' : ℕ) → AreClasses kinds a classes count → AreClasses kinds a classes count' → count ≤ count'
  not_more classes zero count' classed classed' = omega arith
  not_more classes (suc n) count' classed classed' =
      let (s, h) = classed.used n (omega arith) in
      let lt = classed'.known s n h in
      omega (arith, lt)

  same_states : (b c : TreeAutomaton) → length b.states ≡ length c.states → ((m : ℕ) → m < length b.states → state_at b m ≡ state_at c m) → b.states ≡ c.states
  unfolding state_at
  same_states b c count each = same_at b.states c.states no_state count each

  abbrev make : List TreeState → List CornerType → List ℕ → TreeAutomaton
  make states corners roots = record { states = states; corners = corners; roots = roots }

  pub one_merging : (classes : List (Option ℕ)) (b : TreeAutomaton) → IsMerged kinds a classes b → (classes' : List (Option ℕ)) (b' : TreeAutomaton) → IsMerged kinds a classes' b' → (classes' ≡ classes) × (b' ≡ b)
  one_merging classes b merged classes' b' merged' = (same, automata)
    where
      same : classes' ≡ classes
      same = one_list classes classes' (length b.states) (length b'.states) merged.classed merged'.classed

      moved : IsMerged kinds a classes b'
      moved = subst (λ c. IsMerged kinds a c b') same merged'

      count : length b'.states ≡ length b.states
      count =
          let less = not_more classes (length b'.states) (length b.states) moved.classed merged.classed in
          let more = not_more classes (length b.states) (length b'.states) merged.classed moved.classed in
          omega (arith, less, more)

      states : (m : ℕ) → m < length b'.states → state_at b' m ≡ state_at b m
      states m lt =
          let (s, h) = moved.classed.used m lt in
          moved.reduced.state s m h ∙ sym (merged.reduced.state s m h)

      lists : b'.states ≡ b.states
      lists = same_states b' b count states

      automata : b' ≡ b
      automata =
          ap (λ u. make u b'.corners b'.roots) lists
          ∙ ap (λ u. make b.states u b'.roots) (moved.reduced.corners ∙ sym merged.reduced.corners)
          ∙ ap (λ u. make b.states b.corners u) (moved.reduced.roots ∙ sym merged.reduced.roots)
