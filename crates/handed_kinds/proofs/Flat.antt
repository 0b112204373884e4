-- `flat` is one to one, and moves as the expansion does.
use Rattle.std.proofs.Common.{◌≡◌, ℕ, zero, suc, ◌/◌, ◌%◌, ◌==◌, ◌<◌, inl, inr, Bool, true, false, cond, List, length, slice_index_or, nat_lt, ◌&&◌, refl, sym, ap, ap₂, ◌∙◌, subst, arith, lt-ltb, ltb-true}
use Rattle.std.proofs.lemmas.Bool.{and_parts, cases_Bool}
use Rattle.std.proofs.lemmas.List.FromFn.{get_or-map-range_with_len}
use Rattle.tile_model.specs.Tessellations.{TileKind, IsType, is_type, left as flat_left, right as flat_right, cross as flat_cross, valence as flat_valence, around as flat_around, around_times as flat_times}
use Rattle.tile_model.proofs.Types.{test_type, left_is, right_is, cross_is, left_alone, right_alone, cross_alone}
use Rattle.handed_kinds.specs.Handed.{HandedKind, handed_at, IsSide, is_side, IsHandedType, partner_at, next_residue, last_residue, hand_across, left, right, cross, valence, around, around_times}
use Rattle.handed_kinds.specs.Expansion.{turned, number, flat, as_seen, expanded}
use Rattle.handed_kinds.proofs.Residues.{turned_twice, turned_below, turned_below_back, opposite_last, opposite_next, next_below, last_below}
use Rattle.handed_kinds.proofs.Numbers.{number_kind, number_hand, number_of, kind_is, number_there, number_back, repeat_is}

module _ (hs : List HandedKind) where
  abbrev repeat_of : ℕ → ℕ
  repeat_of k = (handed_at hs k).repeat

  -- each pair is flat of one triple
  abbrev pub handed_of : ℕ × ℕ → ℕ × ℕ × Bool
  handed_of d = as_seen hs (d.0 / 2) (d.0 % 2 == 1) d.1

  pub flat_as_seen : (k : ℕ) (hand : Bool) (j : ℕ) → flat hs (as_seen hs k hand j) ≡ (number k hand, j)
  flat_as_seen k hand j = ap (λ (n : ℕ). (number k hand, n)) (turned_twice (repeat_of k) hand j)

  pub flat_onto : (d : ℕ × ℕ) → flat hs (handed_of d) ≡ d
  flat_onto d = flat_as_seen (d.0 / 2) (d.0 % 2 == 1) d.1 ∙ ap (λ (n : ℕ). (n, d.1)) (number_of d.0)

  pub handed_of_flat : (t : ℕ × ℕ × Bool) → handed_of (flat hs t) ≡ t
  handed_of_flat t =
      let residue = turned (repeat_of t.0) t.2 t.1 in
      ap₂ (λ (k : ℕ) (hand : Bool). as_seen hs k hand residue) (number_kind t.0 t.2) (number_hand t.0 t.2)
      ∙ ap (λ (s : ℕ). (t.0, s, t.2)) (turned_twice (repeat_of t.0) t.2 t.1)

  pub flat_one : (t u : ℕ × ℕ × Bool) → flat hs t ≡ flat hs u → t ≡ u
  flat_one t u same = sym (handed_of_flat t) ∙ ap (λ (d : ℕ × ℕ). handed_of d) same ∙ handed_of_flat u

  -- and so are the types
  pub type_there : (t : ℕ × ℕ × Bool) → IsHandedType hs t → IsType (expanded hs) (flat hs t)
  type_there t h = (number_there hs t.0 t.2 h.0, omega (arith, repeat_is hs t.0 t.2, turned_below (repeat_of t.0) t.2 t.1 h.1))

  pub type_back : (t : ℕ × ℕ × Bool) → IsType (expanded hs) (flat hs t) → IsHandedType hs t
  type_back t h = (number_back hs t.0 t.2 h.0, turned_below_back (repeat_of t.0) t.2 t.1 (omega (arith, repeat_is hs t.0 t.2, h.1)))

  -- the test of sides
  pub side_test : (d : ℕ × ℕ) → IsSide hs d → is_side hs d ≡ true
  side_test d h = ap₂ (λ a b. a && b) (lt-ltb d.0 (length hs) h.0) (lt-ltb d.1 (repeat_of d.0) h.1)

  pub test_side : (d : ℕ × ℕ) → is_side hs d ≡ true → IsSide hs d
  test_side d e =
      let h = and_parts (nat_lt d.0 (length hs)) (nat_lt d.1 (repeat_of d.0)) e in
      (ltb-true d.0 (length hs) h.0, ltb-true d.1 (repeat_of d.0) h.1)

  no_type_there : (t : ℕ × ℕ × Bool) → is_side hs (t.0, t.1) ≡ false → is_type (expanded hs) (flat hs t) ≡ false
  no_type_there t e = elim (cases_Bool (is_type (expanded hs) (flat hs t))) [
    | inl holds ↦ absurd (cc (side_test (t.0, t.1) (type_back t (test_type (expanded hs) (flat hs t) holds)), e))
    | inr fails ↦ fails
  ]

  -- what holds of handed types and of triples that are left alone holds of all triples
  by_type : (P : ℕ × ℕ × Bool → Type 0) (t : ℕ × ℕ × Bool) → (IsHandedType hs t → P t) → (is_side hs (t.0, t.1) ≡ false → P t) → P t
  by_type P t at_type alone = go (is_side hs (t.0, t.1)) refl
    where
      go : (b : Bool) → is_side hs (t.0, t.1) ≡ b → P t
      go true e = at_type (test_side (t.0, t.1) e)
      go false e = alone e

  -- the values of the moves
  abbrev left_value : ℕ × ℕ × Bool → ℕ × ℕ × Bool
  left_value t = (t.0, cond t.2 (last_residue (repeat_of t.0) t.1) (next_residue (repeat_of t.0) t.1), t.2)

  abbrev right_value : ℕ × ℕ × Bool → ℕ × ℕ × Bool
  right_value t = (t.0, cond t.2 (next_residue (repeat_of t.0) t.1) (last_residue (repeat_of t.0) t.1), t.2)

  abbrev cross_value : ℕ × ℕ × Bool → ℕ × ℕ × Bool
  cross_value t = ((partner_at hs (t.0, t.1)).0, (partner_at hs (t.0, t.1)).1, hand_across (partner_at hs (t.0, t.1)).2 t.2)

  pub handed_left_is : (t : ℕ × ℕ × Bool) → IsHandedType hs t → left hs t ≡ left_value t
  handed_left_is t h = ap (λ b. cond b (left_value t) t) (side_test (t.0, t.1) h)

  pub handed_right_is : (t : ℕ × ℕ × Bool) → IsHandedType hs t → right hs t ≡ right_value t
  handed_right_is t h = ap (λ b. cond b (right_value t) t) (side_test (t.0, t.1) h)

  pub handed_cross_is : (t : ℕ × ℕ × Bool) → IsHandedType hs t → cross hs t ≡ cross_value t
  handed_cross_is t h = ap (λ b. cond b (cross_value t) t) (side_test (t.0, t.1) h)

  left_left_alone : (t : ℕ × ℕ × Bool) → is_side hs (t.0, t.1) ≡ false → left hs t ≡ t
  left_left_alone t e = ap (λ b. cond b (left_value t) t) e

  right_left_alone : (t : ℕ × ℕ × Bool) → is_side hs (t.0, t.1) ≡ false → right hs t ≡ t
  right_left_alone t e = ap (λ b. cond b (right_value t) t) e

  cross_left_alone : (t : ℕ × ℕ × Bool) → is_side hs (t.0, t.1) ≡ false → cross hs t ≡ t
  cross_left_alone t e = ap (λ b. cond b (cross_value t) t) e

  -- turns
  left_residue : (p s : ℕ) (hand : Bool) → s < p → turned p hand (cond hand (last_residue p s) (next_residue p s)) ≡ next_residue p (turned p hand s)
  left_residue p s false lt = refl
  left_residue p s true lt = opposite_last p s lt

  right_residue : (p s : ℕ) (hand : Bool) → s < p → turned p hand (cond hand (next_residue p s) (last_residue p s)) ≡ last_residue p (turned p hand s)
  right_residue p s false lt = refl
  right_residue p s true lt = opposite_next p s lt

  pub left_flat : (t : ℕ × ℕ × Bool) → flat hs (left hs t) ≡ flat_left (expanded hs) (flat hs t)
  left_flat t =
      by_type (λ u. flat hs (left hs u) ≡ flat_left (expanded hs) (flat hs u)) t
      (λ h. ap (λ u. flat hs u) (handed_left_is t h)
      ∙ ap (λ (n : ℕ). (number t.0 t.2, n)) (left_residue (repeat_of t.0) t.1 t.2 h.1 ∙ ap (λ (p : ℕ). next_residue p (turned (repeat_of t.0) t.2 t.1)) (sym (repeat_is hs t.0 t.2)))
      ∙ sym (left_is (expanded hs) (flat hs t) (type_there t h)))
      (λ e. ap (λ u. flat hs u) (left_left_alone t e) ∙ sym (left_alone (expanded hs) (flat hs t) (no_type_there t e)))

  pub right_flat : (t : ℕ × ℕ × Bool) → flat hs (right hs t) ≡ flat_right (expanded hs) (flat hs t)
  right_flat t =
      by_type (λ u. flat hs (right hs u) ≡ flat_right (expanded hs) (flat hs u)) t
      (λ h. ap (λ u. flat hs u) (handed_right_is t h)
      ∙ ap (λ (n : ℕ). (number t.0 t.2, n)) (right_residue (repeat_of t.0) t.1 t.2 h.1 ∙ ap (λ (p : ℕ). last_residue p (turned (repeat_of t.0) t.2 t.1)) (sym (repeat_is hs t.0 t.2)))
      ∙ sym (right_is (expanded hs) (flat hs t) (type_there t h)))
      (λ e. ap (λ u. flat hs u) (right_left_alone t e) ∙ sym (right_alone (expanded hs) (flat hs t) (no_type_there t e)))

  pub left_type : (t : ℕ × ℕ × Bool) → IsHandedType hs t → IsHandedType hs (left hs t)
  left_type t h = subst (λ u. IsHandedType hs u) (sym (handed_left_is t h)) (h.0, go t.2)
    where
      go : (hand : Bool) → cond hand (last_residue (repeat_of t.0) t.1) (next_residue (repeat_of t.0) t.1) < repeat_of t.0
      go true = last_below (repeat_of t.0) t.1 h.1
      go false = next_below (repeat_of t.0) t.1 h.1

  pub right_type : (t : ℕ × ℕ × Bool) → IsHandedType hs t → IsHandedType hs (right hs t)
  right_type t h = subst (λ u. IsHandedType hs u) (sym (handed_right_is t h)) (h.0, go t.2)
    where
      go : (hand : Bool) → cond hand (next_residue (repeat_of t.0) t.1) (last_residue (repeat_of t.0) t.1) < repeat_of t.0
      go true = next_below (repeat_of t.0) t.1 h.1
      go false = last_below (repeat_of t.0) t.1 h.1

  -- The lists of each kind are as long as its repeat.
  pub record HasLists : Type 0 where
    pub partners : (k : ℕ) → k < length hs → length (handed_at hs k).partner ≡ repeat_of k
    pub valences : (k : ℕ) → k < length hs → length (handed_at hs k).valence ≡ repeat_of k

  module _ (lists : HasLists) where
    pub cross_flat : (t : ℕ × ℕ × Bool) → flat hs (cross hs t) ≡ flat_cross (expanded hs) (flat hs t)
    cross_flat t =
        by_type (λ u. flat hs (cross hs u) ≡ flat_cross (expanded hs) (flat hs u)) t
        (λ h.
        let j = turned (repeat_of t.0) t.2 t.1 in
        let inside : j < length (handed_at hs t.0).partner = omega (arith, lists.partners t.0 h.0, turned_below (repeat_of t.0) t.2 t.1 h.1) in
        let there = cross_is (expanded hs) (flat hs t) (type_there t h) ∙ ap (λ (x : TileKind). slice_index_or x.partner j (0, 0)) (kind_is hs t.0 t.2 h.0) in
        let back = get_or-map-range_with_len (λ i. flat hs (cross hs (as_seen hs t.0 t.2 i))) 0 (length (handed_at hs t.0).partner) j j (0, 0) inside (omega arith) in
        sym (there ∙ back ∙ ap (λ (s : ℕ). flat hs (cross hs (t.0, s, t.2))) (turned_twice (repeat_of t.0) t.2 t.1)))
        (λ e. ap (λ u. flat hs u) (cross_left_alone t e) ∙ sym (cross_alone (expanded hs) (flat hs t) (no_type_there t e)))

    pub valence_flat : (t : ℕ × ℕ × Bool) → IsHandedType hs t → valence hs t ≡ flat_valence (expanded hs) (flat hs t)
    valence_flat t h =
        let j = turned (repeat_of t.0) t.2 t.1 in
        let inside : j < length (handed_at hs t.0).valence = omega (arith, lists.valences t.0 h.0, turned_below (repeat_of t.0) t.2 t.1 h.1) in
        let there = ap (λ (x : TileKind). slice_index_or x.valence j 0) (kind_is hs t.0 t.2 h.0) in
        let back = get_or-map-range_with_len (λ i. valence hs (as_seen hs t.0 t.2 i)) 0 (length (handed_at hs t.0).valence) j j 0 inside (omega arith) in
        sym (there ∙ back ∙ ap (λ (s : ℕ). valence hs (t.0, s, t.2)) (turned_twice (repeat_of t.0) t.2 t.1))

    pub around_flat : (t : ℕ × ℕ × Bool) → flat hs (around hs t) ≡ flat_around (expanded hs) (flat hs t)
    around_flat t = cross_flat (left hs t) ∙ ap (λ (d : ℕ × ℕ). flat_cross (expanded hs) d) (left_flat t)

    pub times_flat : (n : ℕ) (t : ℕ × ℕ × Bool) → flat hs (around_times hs n t) ≡ flat_times (expanded hs) n (flat hs t)
    times_flat zero t = refl
    times_flat (suc n) t = around_flat (around_times hs n t) ∙ ap (λ (d : ℕ × ℕ). flat_around (expanded hs) d) (times_flat n t)
