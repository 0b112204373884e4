-- What a path that tells two states apart comes to in the queue of pairs.
use Rattle.std.proofs.Common.{◌≡◌, ◌≢◌, ◌⊎◌, inl, inr, ℕ, ◌<◌, ◌≤◌, List, [], ◌∷◌, ◌++◌, length, reverse, slice_index_or, refl, sym, ap, ◌∙◌, subst, arith}
use Rattle.std.specs.Prelude.{Option}
use Rattle.std.proofs.lemmas.Bool.{cases_lt}
use Rattle.std.proofs.lemmas.List.{append_assoc, reverse-append, get_or_append_left, get_or_push, length_push}
use Rattle.tile_model.specs.Tessellations.{TileKind}
use Rattle.tree_model.specs.declared.Rule.TheVariants.{Child}
use Rattle.tree_model.specs.Automata.{TreeAutomaton, rule_at, side_count}
use Rattle.tree_model.specs.Names.{child_of, reached, IsNameBelow}
use Rattle.merge_model.specs.Faces.{face_at}
use Rattle.merge_model.specs.Telling.{ComesFirst, TellsApart, IsFirstTelling}
use Rattle.merge_laws.proofs.Paths.{GoesOn, child_at, same_goes_on}
use Rattle.cell_names.specs.Name.{IsName}
use Rattle.rules_tools.specs.declared.pairs.Pair.{Pair}
use Rattle.rules_tools.specs.Joined.{Linked, here, there, back}
use Rattle.rules_tools.specs.Pairs.{pair_at, path_at, AtMost, IsPairWithin, IsGoneThrough}
use Rattle.rules_tools.proofs.Joining.{linked_on, linked_back, linked_more}
use Rattle.rules_tools.proofs.Order.{first_on, first_itself, most_first, most_on, most_pushed, most_longer}

module _ (kinds : List TileKind) (a : TreeAutomaton) (s t : ℕ) (above : List (Option ℕ)) (queue : List Pair) (next side : ℕ) (h : IsGoneThrough kinds a s t above queue next side) where
  abbrev E : List ℕ → ℕ → ℕ → Type 0
  E bound = IsPairWithin queue h.paths bound

  -- whatever has a path up to this one was gone through
  abbrev AllPassed : List ℕ → Type 0
  AllPassed bound = (j : ℕ) → j < length queue → AtMost (path_at h.paths j) bound → j < next

  pair_face : (bound : List ℕ) → AllPassed bound → (x y : ℕ) → E bound x y → face_at a x ≡ face_at a y
  pair_face bound all x y p =
      sym (ap (face_at a) p.first) ∙ h.faces p.entry (all p.entry p.within p.path) ∙ ap (face_at a) p.second

  linked_face : (bound : List ℕ) → AllPassed bound → (x y : ℕ) → Linked (E bound) x y → face_at a x ≡ face_at a y
  linked_face bound all x y (here e) = ap (face_at a) e
  linked_face bound all x y (there z p l) = pair_face bound all x z p ∙ linked_face bound all z y l
  linked_face bound all x y (back z p l) = sym (pair_face bound all z x p) ∙ linked_face bound all z y l

  -- the children of a pair are linked
  pair_children : (bound : List ℕ) → AllPassed bound → (i x y : ℕ) → E bound x y → GoesOn kinds a x i → Linked (E (bound ++ i ∷ [])) (child_at kinds a x i) (child_at kinds a y i)
  pair_children bound all i x y p g =
      let j = p.entry in
      let low = subst (λ z. i < side_count kinds a z) (sym p.first) g.0 in
      let rule = subst (λ z. rule_at a z i ≡ Child (child_of (rule_at a z i))) (sym p.first) g.1 in
      let l = h.passed j i (all j p.within p.path) low rule in
      let more = linked_more (E (path_at h.paths j ++ i ∷ [])) (E (bound ++ i ∷ []))
      (λ u v q. record { entry = q.entry; within = q.within; first = q.first; second = q.second; path = most_on (path_at h.paths q.entry) (path_at h.paths j ++ i ∷ []) (bound ++ i ∷ []) q.path (most_pushed (path_at h.paths j) bound i p.path) })
      (child_of (rule_at a (pair_at queue j).first i)) (child_of (rule_at a (pair_at queue j).second i)) l in
      subst (λ u. Linked (E (bound ++ i ∷ [])) u (child_at kinds a y i)) (ap (λ z. child_of (rule_at a z i)) p.first)
      (subst (λ v. Linked (E (bound ++ i ∷ [])) (child_of (rule_at a (pair_at queue j).first i)) v) (ap (λ z. child_of (rule_at a z i)) p.second) more)

  linked_children : (bound : List ℕ) → AllPassed bound → (i x y : ℕ) → Linked (E bound) x y → GoesOn kinds a x i → Linked (E (bound ++ i ∷ [])) (child_at kinds a x i) (child_at kinds a y i)
  linked_children bound all i x y (here e) g = here (ap (λ z. child_of (rule_at a z i)) e)
  linked_children bound all i x y (there z p l) g =
      let g' = same_goes_on kinds a x z i (pair_face bound all x z p) g in
      linked_on (E (bound ++ i ∷ [])) (child_at kinds a x i) (child_at kinds a z i) (child_at kinds a y i) (pair_children bound all i x z p g) (linked_children bound all i z y l g')
  linked_children bound all i x y (back z p l) g =
      let g' = same_goes_on kinds a x z i (sym (pair_face bound all z x p)) g in
      linked_on (E (bound ++ i ∷ [])) (child_at kinds a x i) (child_at kinds a z i) (child_at kinds a y i)
      (linked_back (E (bound ++ i ∷ [])) (child_at kinds a z i) (child_at kinds a x i) (pair_children bound all i z x p g'))
      (linked_children bound all i z y l g')

  -- along a path, of which all pairs were gone through, the states are linked
  along : (front rest : List ℕ) → AllPassed (front ++ rest) → (x y : ℕ) → Linked (E front) x y → IsNameBelow kinds a x rest → Linked (E (front ++ rest)) (reached a x rest) (reached a y rest)
  along front [] all x y l n = subst (λ b. Linked (E b) x y) (sym (append_nil front)) l
    where
      append_nil : (m : List ℕ) → m ++ [] ≡ m
      append_nil [] = refl
      append_nil (z ∷ m) = ap (λ w. z ∷ w) (append_nil m)
  along front (i ∷ rest) all x y l n =
      let e : (front ++ i ∷ []) ++ rest ≡ front ++ i ∷ rest = append_assoc front (i ∷ []) rest in
      let before : AllPassed front = λ j less most. all j less (most_on (path_at h.paths j) front (front ++ i ∷ rest) most (most_longer front (i ∷ rest))) in
      let step = linked_children front before i x y l (n.0, n.1) in
      subst (λ b. Linked (E b) (reached a (child_at kinds a x i) rest) (reached a (child_at kinds a y i) rest)) e
      (along (front ++ i ∷ []) rest (subst AllPassed (sym e) all) (child_at kinds a x i) (child_at kinds a y i) step n.2)

  start_linked : Linked (E []) s t
  start_linked = there t (record { entry = 0; within = h.pairs.some; first = h.pairs.start_first; second = h.pairs.start_second; path = inl h.pairs.start }) (here refl)

  -- such a path does not tell
  not_told : (path : List ℕ) → AllPassed path → TellsApart kinds a s t path → ⊥
  not_told path all told =
      told.differ (linked_face path all (reached a s path) (reached a t path) (along [] path all s t start_linked told.from_first))

  -- where all pairs were gone through no path tells
  pub none_tells : length queue ≤ next → (path : List ℕ) → TellsApart kinds a s t path → ⊥
  none_tells all path told = not_told path (λ j less most. omega (arith, less, all)) told

  -- where the faces of a pair differ its path is the first that tells
  pub first_tells : next < length queue → face_at a (pair_at queue next).first ≢ face_at a (pair_at queue next).second → IsFirstTelling kinds a s t (path_at h.paths next)
  first_tells within differ =
      let e = h.pairs.each next within in
      record {
        tells = record {
          from_first = e.first_below;
          from_second = e.second_below;
          differ = λ same. differ (sym (ap (face_at a) e.first) ∙ same ∙ ap (face_at a) e.second);
        };
        first = λ other told before. not_told other (λ j less most. passed other before j less most (cases_lt j next)) told;
      }
    where
      passed : (other : List ℕ) → ComesFirst other (path_at h.paths next) → (j : ℕ) → j < length queue → AtMost (path_at h.paths j) other → (j < next) ⊎ (next ≤ j) → j < next
      passed other before j less most (inl low) = low
      passed other before j less most (inr high) = absurd (go (cases_lt next j))
        where
          lower : ComesFirst (path_at h.paths j) (path_at h.paths next)
          lower = most_first (path_at h.paths j) other (path_at h.paths next) most before

          go : (next < j) ⊎ (j ≤ next) → ⊥
          go (inl more) = first_itself (path_at h.paths j) (first_on (path_at h.paths j) (path_at h.paths next) (path_at h.paths j) lower (h.pairs.ordered next j more less))
          go (inr same) =
              let e : j ≡ next = omega (arith, same, high) in
              first_itself (path_at h.paths next) (subst (λ n. ComesFirst (path_at h.paths n) (path_at h.paths next)) e lower)

  -- the entry from which the last side of a path leads
  pub step_back : (j : ℕ) → 0 < j → j < length queue → ((pair_at queue j).from < j) × (path_at h.paths j ≡ path_at h.paths (pair_at queue j).from ++ (pair_at queue j).side ∷ [])
  step_back j some less = go (h.pairs.each j less).step
    where
      go : ((j ≡ 0) ⊎ (((pair_at queue j).from < j) × (path_at h.paths j ≡ path_at h.paths (pair_at queue j).from ++ (pair_at queue j).side ∷ []))) → ((pair_at queue j).from < j) × (path_at h.paths j ≡ path_at h.paths (pair_at queue j).from ++ (pair_at queue j).side ∷ [])
      go (inl z) = absurd (omega (arith, some, z))
      go (inr step) = step

-- a side more in a list that is turned round
pub turned_more : (p s : List ℕ) (x : ℕ) → p ++ reverse (s ++ x ∷ []) ≡ (p ++ x ∷ []) ++ reverse s
turned_more p s x = ap (λ l. p ++ l) (reverse-append s (x ∷ [])) ∙ sym (append_assoc p (x ∷ []) (reverse s))

pub below_more : (s : List ℕ) (x : ℕ) → IsName s → x < 64 → IsName (s ++ x ∷ [])
below_more s x below less k d lt = go (cases_lt k (length s))
  where
    go : (k < length s) ⊎ (length s ≤ k) → slice_index_or (s ++ x ∷ []) k d < 64
    go (inl low) = subst (λ n. n < 64) (sym (get_or_append_left s (x ∷ []) d k low)) (below k d low)
    go (inr high) =
        let e : k ≡ length s = omega (arith, lt, high, length_push s x) in
        subst (λ n. n < 64) (sym (get_or_push s x d k (sym e))) less
