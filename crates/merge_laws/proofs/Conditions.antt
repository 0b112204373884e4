-- The merged automaton meets the twelve conditions: each at a place of it is that condition at the
-- same place of a state of the class.
use Rattle.std.proofs.Common.{◌≡◌, ℕ, zero, suc, ◌-◌, ◌<◌, ◌≤◌, List, length, slice_index_or, pos, negsuc, ◌+ℤ◌, ◌-ℤ◌, ◌≤ℤ◌, nat_abs, refl, sym, ap, ap₂, ◌∙◌, subst, arith}
use Rattle.std.specs.Prelude.{Option, Some, ◌<ℤ◌}
use Rattle.std.proofs.lemmas.List.{length-map, get_or-map, get_or_default}
use Rattle.std.proofs.lemmas.List.Elements.{Contains-get_or}
use Rattle.tile_model.specs.Tessellations.{TileKind, kind_at, cross, valence}
use Rattle.tile_model.specs.Validity.{IsValid}
use Rattle.tree_model.specs.declared.Rule.TheVariants.{Parent, Child}
use Rattle.tree_model.specs.declared.Claim.{Claim}
use Rattle.tree_model.specs.OuterLinks.{entered, led, entered_sum}
use Rattle.tree_model.specs.Automata.{TreeState, TreeAutomaton, CornerType, no_corner, state_at, root_at, corner_at, rule_at, claim_at, offset, corner_valence, outer, side_count, next, previous, further}
use Rattle.tree_model.specs.Conditions.{IsRoot, HasLimits, HasOffsets, HasOuter, HasTables, HasTargets, HasParentRule, HasChildType, HasClaimValence, HasFirstPlace, HasLastPlace, HasOuterBefore, HasOuterBehind, KeepsClaims, HasOneChange, HasSmallChange, HasFallingCycles, IsAccepted}
use Rattle.tree_model.specs.Names.{child_of}
use Rattle.merge_model.specs.Faces.{with_child, with_children}
use Rattle.merge_model.specs.Merging.{IsReachable, class_at, number, class_number, IsMerged}
use Rattle.merge_laws.proofs.Copies.{child_from, parent_from, left_from, right_from, kind_same, off_same, sides_same, type_same, claim_same, rule_same, face_sides, face_parent}
use Rattle.merge_laws.proofs.Paths.{alike_face}
use Rattle.merge_laws.proofs.Numbers.{root_reachable, child_reachable, state_below, reachable_class, few_classes}

-- two automata with the same corner types
module _ (kinds : List TileKind) (a b : TreeAutomaton) (same : b.corners ≡ a.corners) where
  pub corner_same : (g : ℕ) → corner_at b g ≡ corner_at a g
  unfolding corner_at
  corner_same g = ap (λ (cs : List CornerType). slice_index_or cs g no_corner) same

  pub offset_same : (g t : ℕ) → offset b g t ≡ offset a g t
  unfolding offset
  offset_same g t = ap (λ (c : CornerType). slice_index_or c.offsets t (pos 0)) (corner_same g)

  pub valence_same : (g : ℕ) → corner_valence b g ≡ corner_valence a g
  unfolding corner_valence
  valence_same g = ap (λ (c : CornerType). length c.offsets) (corner_same g)

  pub outer_same : (g : ℕ) → outer b g ≡ outer a g
  unfolding outer
  outer_same g = ap (λ (c : CornerType). c.outer) (corner_same g)

  pub count_same : length b.corners ≡ length a.corners
  count_same = ap length same

  entered_same : (g : ℕ) → entered b g ≡ entered a g
  entered_same g = ap (λ (c : Claim). offset b c.corner c.place) (outer_same g) ∙ offset_same (outer a g).corner (outer a g).place

  led_same : (n g : ℕ) → led b n g ≡ led a n g
  led_same zero g = refl
  led_same (suc n) g = ap (λ (c : Claim). led b n c.corner) (outer_same g) ∙ led_same n (outer a g).corner

  sum_same : (n g : ℕ) → entered_sum b n g ≡ entered_sum a n g
  sum_same zero g = refl
  sum_same (suc n) g =
      ap₂ (λ x y. x +ℤ y) (entered_same g) (ap (λ (c : Claim). entered_sum b n c.corner) (outer_same g) ∙ sum_same n (outer a g).corner)

  pub same_offsets : (g : ℕ) → HasOffsets a g → HasOffsets b g
  same_offsets g h = record {
    count = subst (λ n. (3 ≤ n) × (n ≤ 64)) (sym (valence_same g)) h.count;
    first = offset_same g 0 ∙ h.first;
    small = λ t lt. subst (λ z. nat_abs z ≤ 64) (sym (offset_same g t)) (h.small t (subst (λ n. t < n) (valence_same g) lt));
  }

  pub same_outer : (g : ℕ) → HasOuter a g → HasOuter b g
  same_outer g h = (
    subst (λ (c : Claim). c.corner < length b.corners) (sym (outer_same g)) (subst (λ n. (outer a g).corner < n) (sym count_same) h.0),
    subst (λ (c : Claim). suc c.place < corner_valence b c.corner) (sym (outer_same g)) (subst (λ n. suc (outer a g).place < n) (sym (valence_same (outer a g).corner)) h.1),
  )

  -- the offsets of a place given by a claim
  claimed_same : (c d : Claim) → c ≡ d → offset b c.corner c.place ≡ offset a d.corner d.place
  claimed_same c d e = ap (λ (x : Claim). offset b x.corner x.place) e ∙ offset_same d.corner d.place

  further_same : (c d : Claim) → c ≡ d → offset b c.corner (suc c.place) ≡ offset a d.corner (suc d.place)
  further_same c d e = ap (λ (x : Claim). offset b x.corner (suc x.place)) e ∙ offset_same d.corner (suc d.place)

  before_same : (c d : Claim) → c ≡ d → offset b c.corner (c.place - 1) ≡ offset a d.corner (d.place - 1)
  before_same c d e = ap (λ (x : Claim). offset b x.corner (x.place - 1)) e ∙ offset_same d.corner (d.place - 1)

  last_same : (g : ℕ) → offset b g (corner_valence b g - 1) ≡ offset a g (corner_valence a g - 1)
  last_same g = ap (λ n. offset b g (n - 1)) (valence_same g) ∙ offset_same g (corner_valence a g - 1)

  pub same_change : (g : ℕ) → HasOneChange a g → HasOneChange b g
  same_change g h =
      ap₂ (λ x y. x -ℤ y) (further_same (outer b g) (outer a g) (outer_same g)) (claimed_same (outer b g) (outer a g) (outer_same g))
      ∙ h ∙ sym (ap₂ (λ x y. x -ℤ y) (last_same g) (offset_same g 0))

  pub same_small : (g : ℕ) → HasSmallChange a g → HasSmallChange b g
  same_small g h = subst (λ z. (negsuc 0 ≤ℤ z) × (z ≤ℤ pos 1)) (sym (last_same g)) h

  pub same_cycles : (g : ℕ) → HasFallingCycles a g → HasFallingCycles b g
  same_cycles g h = λ n back. subst (λ z. z <ℤ pos 0) (sym (sum_same (suc n) g)) (h n (sym (led_same (suc n) g) ∙ back))

module _ (kinds : List TileKind) (a : TreeAutomaton) (classes : List (Option ℕ)) (b : TreeAutomaton) (valid : IsValid kinds) (ok : IsAccepted kinds a) (merged : IsMerged kinds a classes b) where
  abbrev class : ℕ → ℕ
  class s = class_number classes s

  classed_reachable : (s : ℕ) → IsReachable kinds a s → class_at classes s ≡ Some (class s)
  classed_reachable s r = reachable_class kinds a ok classes (length b.states) merged.classed s r

  below_states : (s m : ℕ) → class_at classes s ≡ Some m → s < length a.states
  below_states s m h = state_below kinds a ok classes (length b.states) merged.classed s m h

  pub root_class : (k : ℕ) → k < length kinds → class_at classes (root_at a k) ≡ Some (class (root_at a k))
  root_class k lt = classed_reachable (root_at a k) (root_reachable kinds a ok k lt)

  pub root_is : (k : ℕ) → k < length kinds → root_at b k ≡ class (root_at a k)
  unfolding root_at
  root_is k lt =
      ap (λ (rs : List ℕ). slice_index_or rs k 0) merged.reduced.roots
      ∙ get_or-map class a.roots k 0 0 (subst (λ n. k < n) (sym ok.c1.limits.roots) lt)

  pub child_class : (s m i : ℕ) → class_at classes s ≡ Some m → i < side_count kinds a s → rule_at a s i ≡ Child (child_of (rule_at a s i)) → class_at classes (child_of (rule_at a s i)) ≡ Some (class (child_of (rule_at a s i)))
  child_class s m i h lt c = classed_reachable (child_of (rule_at a s i)) (child_reachable kinds a ok s i (merged.classed.on s m h) lt c)

  roots_are : length b.roots ≡ length kinds
  roots_are = ap length merged.reduced.roots ∙ length-map a.roots class ∙ ok.c1.limits.roots

  root_at_is : (k : ℕ) → k < length kinds → IsRoot a (root_at a k)
  unfolding root_at
  root_at_is k lt = Contains-get_or a.roots k 0 (subst (λ n. k < n) (sym ok.c1.limits.roots) lt)

  new_root_is : (k : ℕ) → k < length kinds → IsRoot b (root_at b k)
  unfolding root_at
  new_root_is k lt = Contains-get_or b.roots k 0 (subst (λ n. k < n) (sym roots_are) lt)

  -- a root is the root of some kind
  kind_of_root : (c : TreeAutomaton) (s : ℕ) → length c.roots ≡ length kinds → IsRoot c s → (k : ℕ) × (k < length kinds) × (root_at c k ≡ s)
  unfolding root_at
  kind_of_root c s e (k, lt, is) = (k, subst (λ n. k < n) e lt, get_or_default c.roots k 0 s lt ∙ is)

  root_kept : (s m : ℕ) → class_at classes s ≡ Some m → IsRoot a s → IsRoot b m
  root_kept s m h r =
      let (k, lt, is) = kind_of_root a s ok.c1.limits.roots r in
      subst (IsRoot b) (root_is k lt ∙ ap class is ∙ ap number h) (new_root_is k lt)

  -- a class of a root has no other states
  no_root_kept : (s m : ℕ) → class_at classes s ≡ Some m → 0 < side_count kinds a s → ¬ (IsRoot a s) → ¬ (IsRoot b m)
  no_root_kept s m h some not_root r =
      let (k, lt, is) = kind_of_root b m roots_are r in
      let h' : class_at classes (root_at a k) ≡ Some m = root_class k lt ∙ ap Some (sym (root_is k lt) ∙ is) in
      let alike = merged.classed.alike s (root_at a k) m h h' in
      let e = alike_face kinds a s (root_at a k) alike in
      let parent : rule_at a s 0 ≡ Parent = (ok.c2 s 0 (below_states s m h) some).parent.1 (refl, not_root) in
      let some' : 0 < side_count kinds a (root_at a k) = subst (λ n. 0 < n) (face_sides kinds a s (root_at a k) e) some in
      ((ok.c2 (root_at a k) 0 (below_states (root_at a k) m h') some').parent.0 (face_parent kinds a s (root_at a k) e 0 parent)).1 (root_at_is k lt)

  pub limits : HasLimits kinds b
  limits = record {
    states = (
      let lt : 0 < length kinds = omega (arith, valid.count.0) in
          let known = merged.classed.known (root_at a 0) (class (root_at a 0)) (root_class 0 lt) in
          omega (arith, known),
      omega (arith, few_classes kinds a ok classes (length b.states) merged.classed, ok.c1.limits.states.1),
    );
    corners = subst (λ n. (1 ≤ n) × (n ≤ 20000)) (sym (ap length merged.reduced.corners)) ok.c1.limits.corners;
    roots = roots_are;
  }

  sides_positive : (t n : ℕ) → class_at classes t ≡ Some n → 0 < side_count kinds a t
  unfolding side_count
  sides_positive t n g = let three = (valid.sides (state_at a t).kind (ok.c1.tables t (below_states t n g)).kind).0 in omega (arith, three)

  -- at state m, which is that of s
  module _ (s m : ℕ) (h : class_at classes s ≡ Some m) where
    e : state_at b m ≡ with_children class (state_at a s)
    e = merged.reduced.state s m h

    known : s < length a.states
    known = below_states s m h

    sides : side_count kinds b m ≡ side_count kinds a s
    sides = sides_same kinds a b class s m e

    claims : (i : ℕ) → claim_at b m i ≡ claim_at a s i
    claims i = claim_same kinds a b class s m e i

    rules : (i : ℕ) → rule_at b m i ≡ with_child class (rule_at a s i)
    rules i = rule_same kinds a b class s m e i

    old : (i : ℕ) → i < side_count kinds b m → i < side_count kinds a s
    old i lt = subst (λ n. i < n) sides lt

    pub tables : HasTables kinds b m
    unfolding side_count
    tables =
        let t = ok.c1.tables s known in
        record {
          kind = subst (λ n. n < length kinds) (sym (kind_same kinds a b class s m e)) t.kind;
          off = subst (λ (u : TreeState). u.off < (kind_at kinds u.kind).repeat) (sym e) t.off;
          rules = ap (λ (u : TreeState). length u.rules) e ∙ length-map (state_at a s).rules (with_child class) ∙ t.rules ∙ sym sides;
          claims = ap (λ (u : TreeState). length u.claims) e ∙ t.claims ∙ sym sides;
        }

    -- where the new child comes from
    record HasOld (i c : ℕ) : Type 0 where
      child : ℕ
      rule : rule_at a s i ≡ Child child
      known_class : class_at classes child ≡ Some c

    old_child : (i c : ℕ) → i < side_count kinds b m → rule_at b m i ≡ Child c → HasOld i c
    old_child i c lt r =
        let (r', n) = child_from class (rule_at a s i) c (sym (rules i) ∙ r) in
        record { child = child_of (rule_at a s i); rule = r'; known_class = child_class s m i h (old i lt) r' ∙ ap Some n }

    pub targets : HasTargets kinds b m
    targets = record {
      child = λ i c lt r. let o = old_child i c lt r in merged.classed.known o.child c o.known_class;
      claim = λ i lt.
          let t = (ok.c1.targets s known).claim i (old i lt) in
          subst (λ (q : Claim). (q.corner < length b.corners) × (q.place < corner_valence b q.corner)) (sym (claims i)) (
            subst (λ n. (claim_at a s i).corner < n) (sym (count_same kinds a b merged.reduced.corners)) t.0,
            subst (λ n. (claim_at a s i).place < n) (sym (valence_same kinds a b merged.reduced.corners (claim_at a s i).corner)) t.1,
          );
    }

    module _ (i : ℕ) (lt : i < side_count kinds b m) where
      pub parent_rule : HasParentRule kinds b m i
      parent_rule = record {
        root = λ z k kl is.
            let h' : class_at classes (root_at a k) ≡ Some m = root_class k kl ∙ ap Some (sym (root_is k kl) ∙ is) in
            let e' = merged.reduced.state (root_at a k) m h' in
            let some : 0 < side_count kinds a (root_at a k) = subst (λ n. 0 < n) (sides_same kinds a b class (root_at a k) m e') (omega (arith, lt)) in
            let p = (ok.c2 (root_at a k) 0 (below_states (root_at a k) m h') some).root refl k kl refl in
            (kind_same kinds a b class (root_at a k) m e' ∙ p.0, off_same kinds a b class (root_at a k) m e' ∙ p.1);
        parent = (
          (λ p.
              let (z, not_root) = (ok.c2 s i known (old i lt)).parent.0 (parent_from class (rule_at a s i) (sym (rules i) ∙ p)) in
              (z, no_root_kept s m h (omega (arith, old i lt)) not_root)),
          (λ q. rules i ∙ ap (with_child class) ((ok.c2 s i known (old i lt)).parent.1 (q.0, λ r. q.1 (root_kept s m h r)))),
        );
        child = λ c r.
            let o = old_child i c lt r in
            no_root_kept o.child c o.known_class (sides_positive o.child c o.known_class) ((ok.c2 s i known (old i lt)).child o.child o.rule);
      }

      pub child_type : HasChildType kinds b m i
      child_type = λ c r.
          let o = old_child i c lt r in
          ap (cross kinds) (type_same kinds a b class s m e i) ∙ ok.c3 s i known (old i lt) o.child o.rule
          ∙ sym (ap (λ (u : TreeState). (u.kind, u.off)) (merged.reduced.state o.child c o.known_class))

      pub claim_valence : HasClaimValence kinds b m i
      claim_valence =
          valence_same kinds a b merged.reduced.corners (claim_at b m i).corner ∙ ap (λ (q : Claim). corner_valence a q.corner) (claims i)
          ∙ ok.c4 s i known (old i lt) ∙ ap (valence kinds) (sym (type_same kinds a b class s m e i))

      pub first_place : HasFirstPlace b m i
      first_place =
          let f = ok.c5 s i known (old i lt) in (
            (λ p. rules i ∙ ap (with_child class) (f.0 (sym (ap (λ (q : Claim). q.place) (claims i)) ∙ p))),
            (λ r. ap (λ (q : Claim). q.place) (claims i) ∙ f.1 (left_from class (rule_at a s i) (sym (rules i) ∙ r))),
          )

      before : claim_at b m (previous (side_count kinds b m) i) ≡ claim_at a s (previous (side_count kinds a s) i)
      before = ap (λ n. claim_at b m (previous n i)) sides ∙ claims (previous (side_count kinds a s) i)

      pub last_place : HasLastPlace kinds b m i
      last_place =
          let f = ok.c6 s i known (old i lt) in
          let valences : corner_valence b (claim_at b m i).corner ≡ corner_valence a (claim_at a s i).corner =
          valence_same kinds a b merged.reduced.corners (claim_at b m i).corner ∙ ap (λ (q : Claim). corner_valence a q.corner) (claims i) in
          let places : suc (claim_at b m i).place ≡ suc (claim_at a s i).place = ap (λ (q : Claim). suc q.place) (claims i) in
          let behind : rule_at b m (next (side_count kinds b m) i) ≡ with_child class (rule_at a s (next (side_count kinds a s) i)) =
          ap (λ n. rule_at b m (next n i)) sides ∙ rules (next (side_count kinds a s) i) in (
            (λ p. behind ∙ ap (with_child class) (f.0 (sym places ∙ p ∙ valences))),
            (λ r. places ∙ f.1 (right_from class (rule_at a s (next (side_count kinds a s) i)) (sym behind ∙ r)) ∙ sym valences),
          )

      pub outer_before : HasOuterBefore kinds b m i
      outer_before = λ r.
          before ∙ ok.c7 s i known (old i lt) (left_from class (rule_at a s i) (sym (rules i) ∙ r))
          ∙ sym (outer_same kinds a b merged.reduced.corners (claim_at b m i).corner ∙ ap (λ (q : Claim). outer a q.corner) (claims i))

      pub outer_behind : HasOuterBehind kinds b m i
      outer_behind = λ r.
          claims i ∙ ok.c8 s i known (old i lt) (right_from class (rule_at a s i) (sym (rules i) ∙ r))
          ∙ sym (ap further (outer_same kinds a b merged.reduced.corners (claim_at b m (previous (side_count kinds b m) i)).corner ∙ ap (λ (q : Claim). outer a q.corner) before))

      pub child_claims : KeepsClaims kinds b m i
      child_claims = λ c r.
          let o = old_child i c lt r in
          let f = ok.c9 s i known (old i lt) o.child o.rule in
          let e' = merged.reduced.state o.child c o.known_class in
          let last : claim_at b c (side_count kinds b c - 1) ≡ claim_at a o.child (side_count kinds a o.child - 1) =
          ap (λ n. claim_at b c (n - 1)) (sides_same kinds a b class o.child c e') ∙ claim_same kinds a b class o.child c e' (side_count kinds a o.child - 1) in
          record {
            first = claim_same kinds a b class o.child c e' 0 ∙ f.first ∙ sym (ap further before);
            first_depth =
                further_same kinds a b merged.reduced.corners (claim_at b m (previous (side_count kinds b m) i)) (claim_at a s (previous (side_count kinds a s) i)) before
                ∙ f.first_depth
                ∙ sym (ap (λ z. z +ℤ pos 1) (claimed_same kinds a b merged.reduced.corners (claim_at b m (previous (side_count kinds b m) i)) (claim_at a s (previous (side_count kinds a s) i)) before));
            last = claims i ∙ f.last ∙ sym (ap further last);
            last_depth =
                before_same kinds a b merged.reduced.corners (claim_at b m i) (claim_at a s i) (claims i)
                ∙ f.last_depth
                ∙ sym (ap (λ z. z +ℤ pos 1) (claimed_same kinds a b merged.reduced.corners (claim_at b m i) (claim_at a s i) (claims i)));
          }

  old_state : (m : ℕ) → m < length b.states → (s : ℕ) × (class_at classes s ≡ Some m)
  old_state m lt = merged.classed.used m lt

  pub merged_accepted : IsAccepted kinds b
  merged_accepted =
      let corners = merged.reduced.corners in
      let old_corner : (g : ℕ) → g < length b.corners → g < length a.corners = λ g lt. subst (λ n. g < n) (count_same kinds a b corners) lt in
      record {
        c1 = record {
          limits = limits;
          root = λ k lt. subst (λ n. n < length b.states) (sym (root_is k lt)) (merged.classed.known (root_at a k) (class (root_at a k)) (root_class k lt));
          offsets = λ g lt. same_offsets kinds a b corners g (ok.c1.offsets g (old_corner g lt));
          outer = λ g lt. same_outer kinds a b corners g (ok.c1.outer g (old_corner g lt));
          tables = λ m lt. let (s, h) = old_state m lt in tables s m h;
          targets = λ m lt. let (s, h) = old_state m lt in targets s m h;
        };
        c2 = λ m i lt il. let (s, h) = old_state m lt in parent_rule s m h i il;
        c3 = λ m i lt il. let (s, h) = old_state m lt in child_type s m h i il;
        c4 = λ m i lt il. let (s, h) = old_state m lt in claim_valence s m h i il;
        c5 = λ m i lt il. let (s, h) = old_state m lt in first_place s m h i il;
        c6 = λ m i lt il. let (s, h) = old_state m lt in last_place s m h i il;
        c7 = λ m i lt il. let (s, h) = old_state m lt in outer_before s m h i il;
        c8 = λ m i lt il. let (s, h) = old_state m lt in outer_behind s m h i il;
        c9 = λ m i lt il. let (s, h) = old_state m lt in child_claims s m h i il;
        c10 = λ g lt. same_change kinds a b corners g (ok.c10 g (old_corner g lt));
        c11 = λ g lt. same_small kinds a b corners g (ok.c11 g (old_corner g lt));
        c12 = λ g lt. same_cycles kinds a b corners g (ok.c12 g (old_corner g lt));
      }
