-- A list of handed kinds has at most one fault: the checks are numbered, so two faults are of one check, and then at one place.
use Rattle.std.proofs.Common.{◌≡◌, ℕ, zero, suc, ◌<◌, ◌≤◌, List, refl, ap₂, sym, ◌∙◌, subst, inl, inr, arith}
use Rattle.std.proofs.lemmas.Bool.{cases_lt}
use Rattle.std.proofs.Math.Nat.{eq-or-lt_of_le}
use Rattle.handed_kinds.specs.Handed.{HandedKind}
use Rattle.handed_kinds.specs.HandedValidity.{HasCount, HasSides, HasRepeat, HasPartner, HasValence, IsInvolution, HasCorner}
use Rattle.tile_model.specs.declared.fault.KindFault.{KindFault}
use Rattle.tile_model.specs.declared.fault.KindFault.TheVariants.{Count, Sides, Repeat, Partner, Valence, Involution, Corner}
use Rattle.handed_kinds.specs.HandedFaults.{AllKinds, AllSides, IsFirstKind, IsFirstSide, IsHandedFault}

-- the number of a fault's check
abbrev check_of : KindFault → ℕ
check_of Count = 0
check_of (Sides k s) = 1
check_of (Repeat k s) = 2
check_of (Partner k s) = 3
check_of (Valence k s) = 4
check_of (Involution k s) = 5
check_of (Corner k s) = 6

abbrev place_of : KindFault → ℕ × ℕ
place_of Count = (0, 0)
place_of (Sides k s) = (k, s)
place_of (Repeat k s) = (k, s)
place_of (Partner k s) = (k, s)
place_of (Valence k s) = (k, s)
place_of (Involution k s) = (k, s)
place_of (Corner k s) = (k, s)

abbrev fault_at : ℕ → ℕ × ℕ → KindFault
fault_at zero d = Count
fault_at (suc zero) d = Sides d.0 d.1
fault_at (suc (suc zero)) d = Repeat d.0 d.1
fault_at (suc (suc (suc zero))) d = Partner d.0 d.1
fault_at (suc (suc (suc (suc zero)))) d = Valence d.0 d.1
fault_at (suc (suc (suc (suc (suc zero))))) d = Involution d.0 d.1
fault_at (suc (suc (suc (suc (suc (suc n)))))) d = Corner d.0 d.1

is_at : (fault : KindFault) → fault_at (check_of fault) (place_of fault) ≡ fault
is_at Count = refl
is_at (Sides k s) = refl
is_at (Repeat k s) = refl
is_at (Partner k s) = refl
is_at (Valence k s) = refl
is_at (Involution k s) = refl
is_at (Corner k s) = refl

-- the check of a number holds everywhere
abbrev Holds : List HandedKind → ℕ → Type 0
Holds hs zero = HasCount hs
Holds hs (suc zero) = AllKinds HasSides hs
Holds hs (suc (suc zero)) = AllKinds HasRepeat hs
Holds hs (suc (suc (suc zero))) = AllSides HasPartner hs
Holds hs (suc (suc (suc (suc zero)))) = AllSides HasValence hs
Holds hs (suc (suc (suc (suc (suc zero))))) = AllSides IsInvolution hs
Holds hs (suc (suc (suc (suc (suc (suc n)))))) = AllSides HasCorner hs

-- the place is the least at which the check of a number fails
abbrev IsLeast : List HandedKind → ℕ → ℕ × ℕ → Type 0
IsLeast hs zero d = d ≡ (0, 0)
IsLeast hs (suc zero) d = (d.1 ≡ 0) × IsFirstKind hs HasSides d.0
IsLeast hs (suc (suc zero)) d = (d.1 ≡ 0) × IsFirstKind hs HasRepeat d.0
IsLeast hs (suc (suc (suc zero))) d = IsFirstSide hs HasPartner d
IsLeast hs (suc (suc (suc (suc zero)))) d = IsFirstSide hs HasValence d
IsLeast hs (suc (suc (suc (suc (suc zero))))) d = IsFirstSide hs IsInvolution d
IsLeast hs (suc (suc (suc (suc (suc (suc n)))))) d = IsFirstSide hs HasCorner d

abbrev HoldBelow : List HandedKind → ℕ → Type 0
HoldBelow hs n = (i : ℕ) → i < n → Holds hs i

more : (hs : List HandedKind) (n : ℕ) → HoldBelow hs n → Holds hs n → HoldBelow hs (suc n)
more hs n below here i lt =
    let le : i ≤ n = omega arith in
    elim (eq-or-lt_of_le le) [
      | inl same ↦ subst (λ j. Holds hs j) (sym same) here
      | inr lower ↦ below i lower
    ]

none : (hs : List HandedKind) → HoldBelow hs 0
none hs i lt = absurd (omega arith)

record IsOf (hs : List HandedKind) (fault : KindFault) : Type 0 where
  earlier : HoldBelow hs (check_of fault)
  fails : ¬ (Holds hs (check_of fault))
  least : IsLeast hs (check_of fault) (place_of fault)

is_of : (hs : List HandedKind) (fault : KindFault) → IsHandedFault hs fault → IsOf hs fault
is_of hs Count h = record { earlier = none hs; fails = h; least = refl }
is_of hs (Sides k s) h =
    let one = more hs 0 (none hs) h.0 in
    record { earlier = one; fails = λ all. h.2.fails (all k h.2.is_kind); least = (h.1, h.2) }
is_of hs (Repeat k s) h =
    let two = more hs 1 (more hs 0 (none hs) h.0) h.1 in
    record { earlier = two; fails = λ all. h.3.fails (all k h.3.is_kind); least = (h.2, h.3) }
is_of hs (Partner k s) h =
    let three = more hs 2 (more hs 1 (more hs 0 (none hs) h.0.count) h.0.sides) h.0.repeat in
    record { earlier = three; fails = λ all. h.1.fails (all (k, s) h.1.is_side); least = h.1 }
is_of hs (Valence k s) h =
    let three = more hs 2 (more hs 1 (more hs 0 (none hs) h.0.count) h.0.sides) h.0.repeat in
    record { earlier = more hs 3 three h.1; fails = λ all. h.2.fails (all (k, s) h.2.is_side); least = h.2 }
is_of hs (Involution k s) h =
    let three = more hs 2 (more hs 1 (more hs 0 (none hs) h.0.count) h.0.sides) h.0.repeat in
    record { earlier = more hs 4 (more hs 3 three h.1) h.2; fails = λ all. h.3.fails (all (k, s) h.3.is_side); least = h.3 }
is_of hs (Corner k s) h =
    let three = more hs 2 (more hs 1 (more hs 0 (none hs) h.0.count) h.0.sides) h.0.repeat in
    record { earlier = more hs 5 (more hs 4 (more hs 3 three h.1) h.2) h.3; fails = λ all. h.4.fails (all (k, s) h.4.is_side); least = h.4 }

same_number : (j k : ℕ) → ¬ (j < k) → ¬ (k < j) → j ≡ k
same_number j k not_less not_more = elim (cases_lt j k) [
  | inl less ↦ absurd (not_less less)
  | inr at_most ↦ elim (eq-or-lt_of_le at_most) [
    | inl same ↦ sym same
    | inr more ↦ absurd (not_more more)
  ]
]

one_kind : {Has : HandedKind → Type 0} (hs : List HandedKind) (j k : ℕ) → IsFirstKind hs Has j → IsFirstKind hs Has k → j ≡ k
one_kind hs j k at_j at_k = same_number j k (λ less. at_j.fails (at_k.lower j less)) (λ less. at_k.fails (at_j.lower k less))

one_side : {Has : List HandedKind → ℕ × ℕ → Type 0} (hs : List HandedKind) (d e : ℕ × ℕ) → IsFirstSide hs Has d → IsFirstSide hs Has e → d ≡ e
one_side {Has} hs d e at_d at_e =
    let kinds_same = same_number d.0 e.0 (λ less. at_d.fails (at_e.lower_kinds d at_d.is_side less)) (λ less. at_e.fails (at_d.lower_kinds e at_e.is_side less)) in
    let residues_same = same_number d.1 e.1
    (λ less. at_d.fails (subst (λ k. Has hs (k, d.1)) (sym kinds_same) (at_e.lower_residues d.1 less)))
    (λ less. at_e.fails (subst (λ k. Has hs (k, e.1)) kinds_same (at_d.lower_residues e.1 less))) in
    ap₂ (λ k s. (k, s)) kinds_same residues_same

one_place : (hs : List HandedKind) (n : ℕ) (d e : ℕ × ℕ) → IsLeast hs n d → IsLeast hs n e → d ≡ e
one_place hs zero d e at_d at_e = at_d ∙ sym at_e
one_place hs (suc zero) d e at_d at_e = ap₂ (λ k s. (k, s)) (one_kind hs d.0 e.0 at_d.1 at_e.1) (at_d.0 ∙ sym at_e.0)
one_place hs (suc (suc zero)) d e at_d at_e = ap₂ (λ k s. (k, s)) (one_kind hs d.0 e.0 at_d.1 at_e.1) (at_d.0 ∙ sym at_e.0)
one_place hs (suc (suc (suc zero))) d e at_d at_e = one_side hs d e at_d at_e
one_place hs (suc (suc (suc (suc zero)))) d e at_d at_e = one_side hs d e at_d at_e
one_place hs (suc (suc (suc (suc (suc zero))))) d e at_d at_e = one_side hs d e at_d at_e
one_place hs (suc (suc (suc (suc (suc (suc n)))))) d e at_d at_e = one_side hs d e at_d at_e

pub one_fault : (hs : List HandedKind) (f g : KindFault) → IsHandedFault hs f → IsHandedFault hs g → f ≡ g
one_fault hs f g has_f has_g =
    let of_f = is_of hs f has_f in
    let of_g = is_of hs g has_g in
    let checks_same = same_number (check_of f) (check_of g) (λ less. of_f.fails (of_g.earlier _ less)) (λ less. of_g.fails (of_f.earlier _ less)) in
    let places_same = one_place hs (check_of g) (place_of f) (place_of g) (subst (λ n. IsLeast hs n (place_of f)) checks_same of_f.least) of_g.least in
    sym (is_at f) ∙ ap₂ fault_at checks_same places_same ∙ is_at g
