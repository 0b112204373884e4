-- A list of handed kinds is valid exactly where its expansion is.
use Rattle.std.proofs.Common.{◌≡◌, ℕ, ◌/◌, ◌%◌, ◌==◌, ◌<◌, ◌≤◌, Bool, true, false, cond, List, length, map, sym, ap, ◌∙◌, subst, arith}
use Rattle.std.specs.List.{range_with_len}
use Rattle.std.proofs.lemmas.List.{length-map}
use Rattle.std.proofs.lemmas.List.FromFn.{length-range_with_len}
use Rattle.tile_model.specs.Tessellations.{TileKind, kind_at, IsType, cross as flat_cross, valence as flat_valence, around_times as flat_times}
use Rattle.tile_model.specs.Validity.{IsValid, HasSides as HasFlatSides, HasRepeat as HasFlatRepeat, HasPartner as HasFlatPartner, HasValence as HasFlatValence, IsInvolution as IsFlatInvolution, HasCorner as HasFlatCorner}
use Rattle.handed_kinds.specs.Handed.{HandedKind, handed_at, IsSide, IsHandedType, partner_at, last_residue, hand_across, left, cross, valence, around, around_times}
use Rattle.handed_kinds.specs.HandedValidity.{HasSides, HasRepeat, HasPartner, HasValence, IsInvolution, IsClosed, IsHandedValid}
use Rattle.handed_kinds.specs.Expansion.{number, flat, seen, expanded}
use Rattle.handed_kinds.proofs.Residues.{across_twice, same_mark, last_below}
use Rattle.handed_kinds.proofs.Numbers.{expanded_length, seen_at, kind_is, number_there}
use Rattle.handed_kinds.proofs.Flat.{handed_of, flat_onto, flat_one, type_there, type_back, handed_cross_is, left_type, HasLists, cross_flat, valence_flat, around_flat, times_flat}

pub list_length : {X : Type 0} (f : ℕ → X) (n : ℕ) → length (map f (range_with_len 0 n)) ≡ n
list_length f n = length-map (range_with_len 0 n) f ∙ length-range_with_len 0 n

module _ (hs : List HandedKind) where
  -- what holds of each kind as it is seen with each hand holds of the expansion
  by_number : (P : TileKind → Type 0) → ((k : ℕ) (hand : Bool) → k < length hs → P (seen hs k hand)) → (n : ℕ) → n < length (expanded hs) → P (kind_at (expanded hs) n)
  by_number P here n lt = subst P (sym (seen_at hs n (omega (arith, lt, expanded_length hs)))) (here (n / 2) (n % 2 == 1) (omega (arith, lt, expanded_length hs)))

  -- and what holds of flat of each handed type
  by_flat : (P : ℕ × ℕ → Type 0) → ((t : ℕ × ℕ × Bool) → IsHandedType hs t → P (flat hs t)) → (d : ℕ × ℕ) → IsType (expanded hs) d → P d
  by_flat P here d h = subst P (flat_onto hs d) (here (handed_of hs d) (type_back hs (handed_of hs d) (subst (IsType (expanded hs)) (sym (flat_onto hs d)) h)))

  -- the side whose corner a handed type has
  abbrev corner_side : ℕ × ℕ × Bool → ℕ × ℕ
  corner_side t = (t.0, cond t.2 (last_residue (handed_at hs t.0).repeat t.1) t.1)

  corner_is_side : (t : ℕ × ℕ × Bool) → IsHandedType hs t → IsSide hs (corner_side t)
  corner_is_side t h = (h.0, go t.2)
    where
      go : (hand : Bool) → cond hand (last_residue (handed_at hs t.0).repeat t.1) t.1 < (handed_at hs t.0).repeat
      go true = last_below (handed_at hs t.0).repeat t.1 h.1
      go false = h.1

  pub valid_lists : ((k : ℕ) → k < length hs → HasRepeat (handed_at hs k)) → HasLists hs
  valid_lists repeat = record { partners = λ k lt. (repeat k lt).partners; valences = λ k lt. (repeat k lt).valences }

  pub cross_type : ((d : ℕ × ℕ) → IsSide hs d → HasPartner hs d) → (t : ℕ × ℕ × Bool) → IsHandedType hs t → IsHandedType hs (cross hs t)
  cross_type partner t h = subst (λ u. IsHandedType hs u) (sym (handed_cross_is hs t h)) (partner (t.0, t.1) h)

  pub around_type : ((d : ℕ × ℕ) → IsSide hs d → HasPartner hs d) → (t : ℕ × ℕ × Bool) → IsHandedType hs t → IsHandedType hs (around hs t)
  around_type partner t h = cross_type partner (left hs t) (left_type hs t h)

  module _ (valid : IsHandedValid hs) where
    lists : HasLists hs
    lists = valid_lists valid.repeat

    pub cross_twice : (t : ℕ × ℕ × Bool) → IsHandedType hs t → cross hs (cross hs t) ≡ t
    cross_twice t h =
        let q = partner_at hs (t.0, t.1) in
        let across : ℕ × ℕ × Bool = (q.0, q.1, hand_across q.2 t.2) in
        ap (λ u. cross hs u) (handed_cross_is hs t h)
        ∙ handed_cross_is hs across (valid.partner (t.0, t.1) h)
        ∙ ap (λ (x : ℕ × ℕ × Bool). (x.0, x.1, hand_across x.2 (hand_across q.2 t.2))) (valid.involution (t.0, t.1) h)
        ∙ ap (λ (b : Bool). (t.0, t.1, b)) (across_twice q.2 t.2)

    pub closed : (t : ℕ × ℕ × Bool) → IsHandedType hs t → IsClosed hs t
    closed t h = go t.2
      where
        go : (hand : Bool) → IsClosed hs (t.0, t.1, hand)
        go true = (valid.corner (t.0, t.1) h).mirrored
        go false = (valid.corner (t.0, t.1) h).plain

    flat_partner : (t : ℕ × ℕ × Bool) → IsHandedType hs t → HasFlatPartner (expanded hs) (flat hs t)
    flat_partner t h = subst (IsType (expanded hs)) (cross_flat hs lists t) (type_there hs (cross hs t) (cross_type valid.partner t h))

    flat_valences : (t : ℕ × ℕ × Bool) → IsHandedType hs t → HasFlatValence (expanded hs) (flat hs t)
    flat_valences t h =
        let is = valence_flat hs lists t h in
        let has = valid.valence (corner_side t) (corner_is_side t h) in
        subst (λ (v : ℕ). (3 ≤ v) × (v ≤ 64)) is has

    flat_involution : (t : ℕ × ℕ × Bool) → IsHandedType hs t → IsFlatInvolution (expanded hs) (flat hs t)
    flat_involution t h =
        ap (λ d. flat_cross (expanded hs) d) (sym (cross_flat hs lists t)) ∙ sym (cross_flat hs lists (cross hs t))
        ∙ ap (λ u. flat hs u) (cross_twice t h)

    flat_corner : (t : ℕ × ℕ × Bool) → IsHandedType hs t → HasFlatCorner (expanded hs) (flat hs t)
    flat_corner t h = record {
      one_valence =
          ap (λ d. flat_valence (expanded hs) d) (sym (around_flat hs lists t))
          ∙ sym (valence_flat hs lists (around hs t) (around_type valid.partner t h))
          ∙ (closed t h).one_valence ∙ valence_flat hs lists t h;
      closes =
          ap (λ (n : ℕ). flat_times (expanded hs) n (flat hs t)) (sym (valence_flat hs lists t h))
          ∙ sym (times_flat hs lists (valence hs t) t) ∙ ap (λ u. flat hs u) (closed t h).closes;
    }

    pub expanded_valid : IsValid (expanded hs)
    expanded_valid = record {
      count = (omega (arith, expanded_length hs, valid.count.0), omega (arith, expanded_length hs, valid.count.1));
      sides = by_number HasFlatSides (λ k hand lt. valid.sides k lt);
      repeat = by_number HasFlatRepeat (λ k hand lt.
          let has = valid.repeat k lt in
          record {
            positive = has.positive;
            divides = has.divides;
            partners = list_length _ (length (handed_at hs k).partner) ∙ has.partners;
            valences = list_length _ (length (handed_at hs k).valence) ∙ has.valences;
          });
      partner = by_flat (HasFlatPartner (expanded hs)) flat_partner;
      valence = by_flat (HasFlatValence (expanded hs)) flat_valences;
      involution = by_flat (IsFlatInvolution (expanded hs)) flat_involution;
      corner = by_flat (HasFlatCorner (expanded hs)) flat_corner;
    }

  module _ (valid : IsValid (expanded hs)) where
    back_sides : (k : ℕ) → k < length hs → HasSides (handed_at hs k)
    back_sides k lt = subst HasFlatSides (kind_is hs k false lt) (valid.sides (number k false) (number_there hs k false lt))

    back_repeat : (k : ℕ) → k < length hs → HasRepeat (handed_at hs k)
    back_repeat k lt =
        let has = subst HasFlatRepeat (kind_is hs k false lt) (valid.repeat (number k false) (number_there hs k false lt)) in
        record {
          positive = has.positive;
          divides = has.divides;
          partners = sym (list_length _ (length (handed_at hs k).partner)) ∙ has.partners;
          valences = sym (list_length _ (length (handed_at hs k).valence)) ∙ has.valences;
        }

    back_lists : HasLists hs
    back_lists = valid_lists back_repeat

    back_cross_type : (t : ℕ × ℕ × Bool) → IsHandedType hs t → IsHandedType hs (cross hs t)
    back_cross_type t h = type_back hs (cross hs t) (subst (IsType (expanded hs)) (sym (cross_flat hs back_lists t)) (valid.partner (flat hs t) (type_there hs t h)))

    back_partner : (d : ℕ × ℕ) → IsSide hs d → HasPartner hs d
    back_partner d h = subst (λ u. IsHandedType hs u) (handed_cross_is hs (d.0, d.1, false) h) (back_cross_type (d.0, d.1, false) h)

    back_valence : (d : ℕ × ℕ) → IsSide hs d → HasValence hs d
    back_valence d h = subst (λ (v : ℕ). (3 ≤ v) × (v ≤ 64)) (sym (valence_flat hs back_lists (d.0, d.1, false) h)) (valid.valence (flat hs (d.0, d.1, false)) (type_there hs (d.0, d.1, false) h))

    back_twice : (t : ℕ × ℕ × Bool) → IsHandedType hs t → cross hs (cross hs t) ≡ t
    back_twice t h =
        flat_one hs (cross hs (cross hs t)) t
        (cross_flat hs back_lists (cross hs t) ∙ ap (λ d. flat_cross (expanded hs) d) (cross_flat hs back_lists t) ∙ valid.involution (flat hs t) (type_there hs t h))

    back_involution : (d : ℕ × ℕ) → IsSide hs d → IsInvolution hs d
    back_involution d h =
        let q = partner_at hs d in
        let r = partner_at hs (q.0, q.1) in
        let across : ℕ × ℕ × Bool = (q.0, q.1, hand_across q.2 false) in
        let twice : (r.0, r.1, hand_across r.2 (hand_across q.2 false)) ≡ (d.0, d.1, false) =
        sym (ap (λ u. cross hs u) (handed_cross_is hs (d.0, d.1, false) h) ∙ handed_cross_is hs across (back_partner d h)) ∙ back_twice (d.0, d.1, false) h in
        let mark : r.2 ≡ q.2 = same_mark q.2 r.2 (ap (λ (u : ℕ × ℕ × Bool). u.2) twice) in
        λ i. ((twice i).0, (twice i).1, mark i)

    back_closed : (t : ℕ × ℕ × Bool) → IsHandedType hs t → IsClosed hs t
    back_closed t h =
        let corner = valid.corner (flat hs t) (type_there hs t h) in
        record {
          one_valence =
              valence_flat hs back_lists (around hs t) (around_type back_partner t h)
              ∙ ap (λ d. flat_valence (expanded hs) d) (around_flat hs back_lists t)
              ∙ corner.one_valence ∙ sym (valence_flat hs back_lists t h);
          closes =
              flat_one hs (around_times hs (valence hs t) t) t
              (times_flat hs back_lists (valence hs t) t
              ∙ ap (λ (n : ℕ). flat_times (expanded hs) n (flat hs t)) (valence_flat hs back_lists t h) ∙ corner.closes);
        }

    pub handed_valid : IsHandedValid hs
    handed_valid = record {
      count = (omega (arith, expanded_length hs, valid.count.0), omega (arith, expanded_length hs, valid.count.1));
      sides = back_sides;
      repeat = back_repeat;
      partner = back_partner;
      valence = back_valence;
      involution = back_involution;
      corner = λ d h. record { plain = back_closed (d.0, d.1, false) h; mirrored = back_closed (d.0, d.1, true) h };
    }

-- the valence of a handed type is that of some side
pub valence_bounds : (hs : List HandedKind) → IsHandedValid hs → (t : ℕ × ℕ × Bool) → IsHandedType hs t → (3 ≤ valence hs t) × (valence hs t ≤ 64)
valence_bounds hs valid t h = valid.valence (corner_side hs t) (corner_is_side hs t h)
