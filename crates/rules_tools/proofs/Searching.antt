-- The search for reachable states: a state is marked, and what holds at the end.
use Rattle.std.proofs.Common.{◌≡◌, ◌≢◌, ◌⊎◌, inl, inr, ℕ, ◌+◌, ◌<◌, ◌≤◌, List, [], ◌∷◌, ◌++◌, length, set, slice_index_or, Bool, true, false, refl, sym, ap, ◌∙◌, subst, arith}
use Rattle.std.proofs.lemmas.Bool.{cases_eq, cases_lt}
use Rattle.std.proofs.lemmas.List.{get_or_default, get_or_append_left, get_or_push, length_push, length-set, get_or-set_same, get_or-set_other}
use Rattle.std.proofs.lemmas.List.Sums.{sum_by-set}
use Rattle.tile_model.specs.Tessellations.{TileKind}
use Rattle.tree_model.specs.declared.Rule.TheVariants.{Parent, Child}
use Rattle.tree_model.specs.Automata.{TreeAutomaton, state_at, root_at, rule_at, side_count}
use Rattle.tree_model.specs.Conditions.{IsAccepted}
use Rattle.tree_model.specs.Names.{child_of, reached, IsNameBelow}
use Rattle.merge_model.specs.Merging.{IsReachable}
use Rattle.merge_laws.proofs.Numbers.{reachable_state, child_reachable}
use Rattle.rules_tools.specs.Reached.{AreReached, mark_at, as_unmarked, queued_at, IsSearch, Grows, ChildrenMarked}

pub same_grows : (marks : List Bool) (queue : List ℕ) → Grows marks queue marks queue
same_grows marks queue = record { kept = λ s h. h; longer = omega arith; same = λ j lt. refl }

pub both_grow : (m : List Bool) (q : List ℕ) (m' : List Bool) (q' : List ℕ) (m'' : List Bool) (q'' : List ℕ) → Grows m q m' q' → Grows m' q' m'' q'' → Grows m q m'' q''
both_grow m q m' q' m'' q'' g h = record {
  kept = λ s e. h.kept s (g.kept s e);
  longer = omega (arith, g.longer, h.longer);
  same = λ j lt. h.same j (omega (arith, lt, g.longer)) ∙ g.same j lt;
}

pub set_marked : (marks : List Bool) (s : ℕ) → s < length marks → mark_at (set marks s true) s ≡ true
set_marked marks s lt = get_or-set_same marks s true false lt

marked_or : (marks : List Bool) (s t : ℕ) → t ≢ s → mark_at (set marks s true) t ≡ mark_at marks t
marked_or marks s t other = get_or-set_other marks s t true false other

pub marked_grows : (marks : List Bool) (queue : List ℕ) (s : ℕ) → s < length marks → Grows marks queue (set marks s true) (queue ++ s ∷ [])
marked_grows marks queue s lt = record {
  kept = λ t h. go t h (cases_eq t s);
  longer = omega (arith, length_push queue s);
  same = λ j less. get_or_append_left queue (s ∷ []) 0 j less;
}
  where
    go : (t : ℕ) → mark_at marks t ≡ true → (t ≡ s) ⊎ (t ≢ s) → mark_at (set marks s true) t ≡ true
    go t h (inl e) = subst (λ x. mark_at (set marks s true) x ≡ true) (sym e) (set_marked marks s lt)
    go t h (inr d) = marked_or marks s t d ∙ h

module _ (kinds : List TileKind) (a : TreeAutomaton) where
  pub marked_search : (marks : List Bool) (queue : List ℕ) (s : ℕ) → s < length marks → mark_at marks s ≡ false → IsSearch kinds a marks queue → IsReachable kinds a s → IsSearch kinds a (set marks s true) (queue ++ s ∷ [])
  marked_search marks queue s lt none h r = record {
    long = length-set marks s true ∙ h.long;
    queued = λ t m. place t m (cases_eq t s);
    known = λ j less. known j less (cases_lt j (length queue));
    balance =
        let sums = sum_by-set as_unmarked marks s true false lt in
        let was = ap as_unmarked none in
        omega (arith, sums, was, length_push queue s, h.balance);
  }
    where
      place : (t : ℕ) → mark_at (set marks s true) t ≡ true → (t ≡ s) ⊎ (t ≢ s) → (j : ℕ) × (j < length (queue ++ s ∷ [])) × (queued_at (queue ++ s ∷ []) j ≡ t)
      place t m (inl e) = (length queue, omega (arith, length_push queue s), get_or_push queue s 0 (length queue) refl ∙ sym e)
      place t m (inr d) =
          let (j, less, is) = h.queued t (sym (marked_or marks s t d) ∙ m) in
          (j, omega (arith, less, length_push queue s), get_or_append_left queue (s ∷ []) 0 j less ∙ is)

      known : (j : ℕ) → j < length (queue ++ s ∷ []) → (j < length queue) ⊎ (length queue ≤ j) → IsReachable kinds a (queued_at (queue ++ s ∷ []) j)
      known j less (inl low) = subst (IsReachable kinds a) (sym (get_or_append_left queue (s ∷ []) 0 j low)) (h.known j low)
      known j less (inr high) =
          let e : j ≡ length queue = omega (arith, less, high, length_push queue s) in
          subst (IsReachable kinds a) (sym (get_or_push queue s 0 j (sym e))) r

  module _ (ok : IsAccepted kinds a) where
    -- children of one state more are marked
    pub one_more : (marks marks' : List Bool) (queue queue' : List ℕ) (n : ℕ) → n < length queue → ChildrenMarked kinds a marks queue n → Grows marks queue marks' queue' → ((i c : ℕ) → i < side_count kinds a (queued_at queue n) → rule_at a (queued_at queue n) i ≡ Child c → mark_at marks' c ≡ true) → ChildrenMarked kinds a marks' queue' (n + 1)
    one_more marks marks' queue queue' n within before g last j i c lt li h =
        let less : j < length queue = omega (arith, lt, within) in
        let e = g.same j less in
        let li' = subst (λ x. i < side_count kinds a x) e li in
        let h' = subst (λ x. rule_at a x i ≡ Child c) e h in
        go li' h' (cases_eq j n)
      where
        go : i < side_count kinds a (queued_at queue j) → rule_at a (queued_at queue j) i ≡ Child c → (j ≡ n) ⊎ (j ≢ n) → mark_at marks' c ≡ true
        go li' h' (inl e) = last i c (subst (λ x. i < side_count kinds a (queued_at queue x)) e li') (subst (λ x. rule_at a (queued_at queue x) i ≡ Child c) e h')
        go li' h' (inr d) = g.kept c (before j i c (omega (arith, lt, d)) li' h')

    module _ (marks : List Bool) (queue : List ℕ) (h : IsSearch kinds a marks queue) where
      pub marked_reachable : (s : ℕ) → mark_at marks s ≡ true → IsReachable kinds a s
      marked_reachable s m = let (j, lt, e) = h.queued s m in subst (IsReachable kinds a) e (h.known j lt)

      names_marked : ChildrenMarked kinds a marks queue (length queue) → (s : ℕ) (name : List ℕ) → mark_at marks s ≡ true → IsNameBelow kinds a s name → mark_at marks (reached a s name) ≡ true
      names_marked children s [] m n = m
      names_marked children s (i ∷ name) m n =
          let (j, lt, e) = h.queued s m in
          names_marked children (child_of (rule_at a s i)) name
          (children j i (child_of (rule_at a s i)) lt (subst (λ x. i < side_count kinds a x) (sym e) n.0) (subst (λ x. rule_at a x i ≡ Child (child_of (rule_at a s i))) (sym e) n.1)) n.2

      pub all_reached : ((k : ℕ) → k < length kinds → mark_at marks (root_at a k) ≡ true) → ChildrenMarked kinds a marks queue (length queue) → AreReached kinds a marks
      all_reached roots children = record {
        long = h.long;
        marked = marked_reachable;
        all = λ s r. subst (λ x. mark_at marks x ≡ true) r.reaches (names_marked children (root_at a r.kind) r.name (roots r.kind r.is_kind) r.is_name);
      }

    -- a child that a rule of a reachable state names
    pub rule_child : (s i c : ℕ) → IsReachable kinds a s → i < length (state_at a s).rules → slice_index_or (state_at a s).rules i Parent ≡ Child c → IsReachable kinds a c × (c < length a.states)
    unfolding rule_at
    rule_child s i c r lt h =
        let li : i < side_count kinds a s = subst (λ n. i < n) (ok.c1.tables s (reachable_state kinds a ok s r)).rules lt in
        let named : rule_at a s i ≡ Child (child_of (rule_at a s i)) = h ∙ ap (λ x. Child (child_of x)) (sym h) in
        let child = subst (IsReachable kinds a) (ap child_of h) (child_reachable kinds a ok s i r li named) in
        (child, reachable_state kinds a ok c child)

    -- rules by side, and as a list
    pub sides_marked : (marks : List Bool) (s : ℕ) → s < length a.states → ((i c : ℕ) → i < length (state_at a s).rules → slice_index_or (state_at a s).rules i Parent ≡ Child c → mark_at marks c ≡ true) → (i c : ℕ) → i < side_count kinds a s → rule_at a s i ≡ Child c → mark_at marks c ≡ true
    unfolding rule_at
    sides_marked marks s ls h i c li e = h i c (subst (λ n. i < n) (sym (ok.c1.tables s ls).rules) li) e

-- the entry that an index reads
pub now_queued : (queue : List ℕ) (j x : ℕ) → j < length queue → x ≡ slice_index_or queue j x → x ≡ queued_at queue j
now_queued queue j x lt e = e ∙ get_or_default queue j x 0 lt
