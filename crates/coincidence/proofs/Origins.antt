-- The walks to cells, and their types, where one more cell is made.
use Rattle.std.proofs.Common.{◌≡◌, ℕ, zero, suc, ◌+◌, ◌-◌, ◌/◌, ◌%◌, ◌<◌, ◌≤◌, Bool, true, false, cond, nat_lt, ◌&&◌, List, [], ◌∷◌, ◌++◌, length, replicate, refl, sym, ap, ap₂, ◌∙◌, subst, inl, inr, arith, mod-eq_of_lt, mod-lt}
use Rattle.std.proofs.lemmas.Bool.{cases_lt, lt-ltb, le-ltb}
use Rattle.std.proofs.lemmas.List.{get_or_append_left, get_or_push, length_push, append-nil, replicate_more}
use Rattle.std.proofs.Math.Nat.{add-mod_right}
use Rattle.tile_model.specs.declared.Letter.{Letter}
use Rattle.tile_model.specs.declared.Letter.TheVariants.{L, R, X}
use Rattle.tile_model.specs.Tessellations.{TileKind, kind_at, IsType, right, cross}
use Rattle.tile_model.specs.Validity.{IsValid}
use Rattle.tile_model.specs.Walks.{type_of, inverse}
use Rattle.tile_model.specs.Relation.{AreRelated}
use Rattle.tile_model.proofs.Types.{type_append, type_lefts, right_is, cross_type}
use Rattle.tile_model.proofs.Relations.{related_equal, related_on, related_before}
use Rattle.tile_model.proofs.Inverses.{inverse_cons, inverse_cancels_back}
use Rattle.coincidence.specs.declared.origin.Origin.{Origin}
use Rattle.coincidence.specs.Darts.{unpack}
use Rattle.coincidence.specs.Tables.{no_origin, origin_at, kind_of, walk_within, walk_to, type_in, ComesFrom}
use Rattle.coincidence.proofs.Numbers.{zero_or_more}

-- n letters R and as many L lead nowhere
inverse_lefts : (n : ℕ) → inverse (replicate n L) ≡ replicate n R
inverse_lefts zero = refl
inverse_lefts (suc n) =
    let more : n + 1 ≡ suc n = omega arith in
    inverse_cons L (replicate n L) ∙ (ap (λ (v : List Letter). v ++ R ∷ []) (inverse_lefts n) ∙ (replicate_more n R ∙ ap (λ m. replicate m R) more))

pub there_and_left : (kinds : List TileKind) (d : ℕ × ℕ) (u : List Letter) (n : ℕ) → AreRelated kinds d (u ++ (replicate n R ++ replicate n L)) u
there_and_left kinds d u n =
    let back : AreRelated kinds (type_of kinds d u) (replicate n R ++ replicate n L) [] = subst (λ v. AreRelated kinds (type_of kinds d u) (v ++ replicate n L) []) (inverse_lefts n) (inverse_cancels_back kinds (type_of kinds d u) (replicate n L)) in
    related_on kinds (related_before kinds u back) (related_equal kinds (append-nil u))

-- turning right to side 0
pub type_rights : (kinds : List TileKind) (k n : ℕ) → IsType kinds (k, n) → type_of kinds (k, n) (replicate n R) ≡ (k, 0)
type_rights kinds k zero is_type = refl
type_rights kinds k (suc n) is_type =
    let p = (kind_at kinds k).repeat in
    let below = is_type.1 in
    let e : suc n + (p - 1) ≡ n + p = omega (arith, below) in
    let turned : right kinds (k, suc n) ≡ (k, n) = right_is kinds (k, suc n) is_type ∙ ap (λ s. (k, s)) (ap (λ m. m % p) e ∙ (add-mod_right n p ∙ mod-eq_of_lt (omega (arith, below)))) in
    ap (λ d. type_of kinds d (replicate n R)) turned ∙ type_rights kinds k n (is_type.0, omega (arith, below))

-- the walk across a dart whose cell has a walk
abbrev pub walk_on : List Letter → Origin → List Letter
walk_on u o = (u ++ replicate (o.across % 64) L) ++ X ∷ replicate o.own R

-- each cell comes from an earlier one
abbrev pub AreEarlier : List Origin → Type 0
AreEarlier origins = (c : ℕ) → 0 < c → c < length origins → (origin_at origins c).across / 64 < c

module _ (origins : List Origin) where
  no_and : (b : Bool) → (b && false) ≡ false
  no_and true = refl
  no_and false = refl

  within_made : (n c : ℕ) → 0 < c → c < length origins → walk_within (suc n) origins c ≡ walk_on (walk_within n origins ((origin_at origins c).across / 64)) (origin_at origins c)
  within_made n c some made =
      let test : (nat_lt 0 c && nat_lt c (length origins)) ≡ true = ap₂ (λ a b. a && b) (lt-ltb 0 c some) (lt-ltb c (length origins) made) in
      ap (λ b. cond b (walk_on (walk_within n origins ((origin_at origins c).across / 64)) (origin_at origins c)) []) test

  within_past : (n c : ℕ) → length origins ≤ c → walk_within n origins c ≡ []
  within_past zero c past = refl
  within_past (suc n) c past =
      let test : (nat_lt 0 c && nat_lt c (length origins)) ≡ false = ap (λ b. nat_lt 0 c && b) (le-ltb c (length origins) past) ∙ no_and (nat_lt 0 c) in
      ap (λ b. cond b (walk_on (walk_within n origins ((origin_at origins c).across / 64)) (origin_at origins c)) []) test

  within_zero : (n : ℕ) → walk_within n origins 0 ≡ []
  within_zero zero = refl
  within_zero (suc n) = refl

  module _ (earlier : AreEarlier origins) where
    within_same : (m n c : ℕ) → c ≤ m → c ≤ n → walk_within m origins c ≡ walk_within n origins c
    within_same zero n c h k = let e : c ≡ 0 = omega (arith, h) in sym (ap (walk_within n origins) e ∙ within_zero n)
    within_same (suc m) zero c h k = let e : c ≡ 0 = omega (arith, k) in ap (walk_within (suc m) origins) e ∙ within_zero (suc m)
    within_same (suc m) (suc n) c h k = elim (cases_lt c (length origins)) [
      | inr past ↦ within_past (suc m) c past ∙ sym (within_past (suc n) c past)
      | inl made ↦ elim (zero_or_more c) [
        | inl e ↦ ap (walk_within (suc m) origins) e ∙ (within_zero (suc m) ∙ sym (ap (walk_within (suc n) origins) e ∙ within_zero (suc n)))
        | inr some ↦
            let before = earlier c some made in
            within_made m c some made ∙ (ap (λ u. walk_on u (origin_at origins c)) (within_same m n ((origin_at origins c).across / 64) (omega (arith, before, h)) (omega (arith, before, k))) ∙ sym (within_made n c some made))
      ]
    ]

    pub walk_made : (c : ℕ) → 0 < c → c < length origins → walk_to origins c ≡ walk_on (walk_to origins ((origin_at origins c).across / 64)) (origin_at origins c)
    unfolding walk_to
    walk_made c some made =
        let k = c - 1 in
        let e : c ≡ suc k = omega (arith, some) in
        let b = (origin_at origins c).across / 64 in
        let before = earlier c some made in
        ap (λ m. walk_within m origins c) e ∙ (within_made k c some made ∙ ap (λ u. walk_on u (origin_at origins c)) (within_same k b b (omega (arith, before)) (omega arith)))

  pub walk_past : (c : ℕ) → length origins ≤ c → walk_to origins c ≡ []
  unfolding walk_to
  walk_past c past = within_past c c past

  pub walk_first : walk_to origins 0 ≡ []
  unfolding walk_to
  walk_first = refl

-- one more cell changes nothing of those before
module _ (origins : List Origin) (o : Origin) where
  abbrev pub more : List Origin
  more = origins ++ o ∷ []

  pub origin_old : (c : ℕ) → c < length origins → origin_at more c ≡ origin_at origins c
  origin_old c made = get_or_append_left origins (o ∷ []) no_origin c made

  pub origin_new : origin_at more (length origins) ≡ o
  origin_new = get_or_push origins o no_origin (length origins) refl

  pub more_length : length more ≡ length origins + 1
  more_length = length_push origins o

  pub walk_old : AreEarlier origins → AreEarlier more → (c : ℕ) → c < length origins → walk_to more c ≡ walk_to origins c
  walk_old earlier earlier' c made = go (suc c) c (omega arith) made
    where
      go : (bound c : ℕ) → c < bound → c < length origins → walk_to more c ≡ walk_to origins c
      go zero c h made = absurd (omega (arith, h))
      go (suc bound) c h made = elim (zero_or_more c) [
        | inl e ↦ ap (walk_to more) e ∙ (walk_first more ∙ sym (ap (walk_to origins) e ∙ walk_first origins))
        | inr some ↦
            let same = origin_old c made in
            let before = earlier c some made in
            let long = more_length in
            let rest = go bound ((origin_at origins c).across / 64) (omega (arith, before, h)) (omega (arith, before, made)) in
            walk_made more earlier' c some (omega (arith, long, made)) ∙ (ap (λ x. walk_on (walk_to more (x.across / 64)) x) same ∙ (ap (λ u. walk_on u (origin_at origins c)) rest ∙ sym (walk_made origins earlier c some made)))
      ]

-- each walk leads to side 0 of a tile of its cell's kind
module _ (kinds : List TileKind) (valid : IsValid kinds) (origins : List Origin) (there : (c : ℕ) → c < length origins → kind_of origins c < length kinds) (come : (c : ℕ) → 0 < c → c < length origins → ComesFrom kinds origins c) where
  pub come_earlier : AreEarlier origins
  come_earlier c some made = (come c some made).earlier

  pub side_type : (c i : ℕ) → c < length origins → IsType kinds (type_in kinds origins (c, i))
  side_type c i made = let k = there c made in (k, mod-lt i (omega (arith, (valid.repeat (kind_of origins c) k).positive)))

  pub first_type : (c : ℕ) → c < length origins → IsType kinds (kind_of origins c, 0)
  first_type c made = let k = there c made in let repeat = (valid.repeat (kind_of origins c) k).positive in (k, omega (arith, repeat))

  pub walk_types : (c : ℕ) → c < length origins → type_of kinds (kind_of origins 0, 0) (walk_to origins c) ≡ (kind_of origins c, 0)
  walk_types c made = go (suc c) c (omega arith) made
    where
      on : (b i own : ℕ) (u : List Letter) → type_of kinds (kind_of origins 0, 0) u ≡ (kind_of origins b, 0) → IsType kinds (kind_of origins b, 0) → type_of kinds (kind_of origins 0, 0) ((u ++ replicate i L) ++ X ∷ replicate own R) ≡ type_of kinds (cross kinds (type_in kinds origins (b, i))) (replicate own R)
      on b i own u at is_type =
          let start : ℕ × ℕ = (kind_of origins 0, 0) in
          let none : 0 + i ≡ i = omega arith in
          let turned : type_of kinds (kind_of origins b, 0) (replicate i L) ≡ type_in kinds origins (b, i) = type_lefts kinds valid i (kind_of origins b, 0) is_type ∙ ap (λ n. (kind_of origins b, n % (kind_at kinds (kind_of origins b)).repeat)) none in
          let side : type_of kinds start (u ++ replicate i L) ≡ type_in kinds origins (b, i) = type_append kinds start u (replicate i L) ∙ (ap (λ d. type_of kinds d (replicate i L)) at ∙ turned) in
          type_append kinds start (u ++ replicate i L) (X ∷ replicate own R) ∙ ap (λ d. type_of kinds (cross kinds d) (replicate own R)) side

      go : (bound c : ℕ) → c < bound → c < length origins → type_of kinds (kind_of origins 0, 0) (walk_to origins c) ≡ (kind_of origins c, 0)
      go zero c h made = absurd (omega (arith, h))
      go (suc bound) c h made = elim (zero_or_more c) [
        | inl e ↦ ap (λ x. type_of kinds (kind_of origins 0, 0) (walk_to origins x)) e ∙ (ap (type_of kinds (kind_of origins 0, 0)) (walk_first origins) ∙ ap (λ x. (kind_of origins x, 0)) (sym e))
        | inr some ↦
            let from = come c some made in
            let o = origin_at origins c in
            let b = o.across / 64 in
            let before = from.earlier in
            let made_b : b < length origins = omega (arith, before, made) in
            let rest = go bound b (omega (arith, before, h)) made_b in
            let is_type : IsType kinds (kind_of origins c, o.own) = subst (IsType kinds) (sym from.across) (cross_type kinds valid (type_in kinds origins (unpack o.across)) (side_type b (o.across % 64) made_b)) in
            ap (type_of kinds (kind_of origins 0, 0)) (walk_made origins come_earlier c some made) ∙ (on b (o.across % 64) o.own (walk_to origins b) rest (first_type b made_b) ∙ (ap (λ d. type_of kinds d (replicate o.own R)) (sym from.across) ∙ type_rights kinds (kind_of origins c) o.own is_type))
      ]

  -- the walk of a dart leads to its type
  pub dart_type : (c i : ℕ) → c < length origins → type_of kinds (kind_of origins 0, 0) (walk_to origins c ++ replicate i L) ≡ type_in kinds origins (c, i)
  dart_type c i made =
      let none : 0 + i ≡ i = omega arith in
      type_append kinds (kind_of origins 0, 0) (walk_to origins c) (replicate i L) ∙ (ap (λ d. type_of kinds d (replicate i L)) (walk_types c made) ∙ (type_lefts kinds valid i (kind_of origins c, 0) (first_type c made) ∙ ap (λ n. (kind_of origins c, n % (kind_at kinds (kind_of origins c)).repeat)) none))
