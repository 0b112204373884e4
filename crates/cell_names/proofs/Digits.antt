-- The decimal text of a side, in front of other bytes.
use Rattle.std.proofs.Common.{◌≡◌, ℕ, ◌+◌, ◌*◌, ◌/◌, ◌%◌, ◌<◌, ◌≤◌, ◌^◌, inl, inr, List, [], ◌∷◌, ◌++◌, sym, ◌∙◌, ap, arith, decimal}
use Rattle.std.proofs.lemmas.Bool.{cases_lt}
use Rattle.std.proofs.lemmas.Fmt.{decimal_digit, decimal_step}
use Rattle.cell_names.specs.Text.{NoDigit}

pub decimal-one : (digit : ℕ) (tail : List ℕ) → digit < 10 → decimal digit ++ tail ≡ (48 + digit) ∷ tail
decimal-one digit tail small = ap (λ (l : List ℕ). l ++ tail) (decimal_digit digit small)

pub decimal-pair : (side tens units : ℕ) → side ≡ 10 * tens + units → 0 < tens → tens < 10 → units < 10 → decimal side ≡ (48 + tens) ∷ (48 + units) ∷ []
decimal-pair side tens units is some ten unit =
    let wide : side < 2 ^ 64 = omega arith in
    let long : 10 ≤ side = omega arith in
    let first : side / 10 ≡ tens = omega arith in
    let last : side % 10 ≡ units = omega arith in
    decimal_step side long wide
    ∙ ap (λ (n : ℕ). decimal (side / 10) ++ (48 + n) ∷ []) last
    ∙ ap (λ (n : ℕ). decimal n ++ (48 + units) ∷ []) first
    ∙ decimal-one tens ((48 + units) ∷ []) ten

pub decimal-two : (tens units : ℕ) (tail : List ℕ) → 0 < tens → tens < 10 → units < 10 → decimal (10 * tens + units) ++ tail ≡ (48 + tens) ∷ (48 + units) ∷ tail
decimal-two tens units tail some ten unit =
    ap (λ (l : List ℕ). l ++ tail) (decimal-pair (10 * tens + units) tens units (omega arith) some ten unit)

-- a side of two digits, in front of a tail
record IsPair (side : ℕ) (tail : List ℕ) : Type 0 where
  pub tens : ℕ
  pub units : ℕ
  pub is : side ≡ 10 * tens + units
  pub some : 0 < tens
  pub ten : tens < 10
  pub unit : units < 10
  pub text : decimal side ++ tail ≡ (48 + tens) ∷ (48 + units) ∷ tail

pair_of : (side : ℕ) (tail : List ℕ) → 10 ≤ side → side < 64 → IsPair side tail
pair_of side tail long small =
    let is : side ≡ 10 * (side / 10) + side % 10 = omega arith in
    let some : 0 < side / 10 = omega arith in
    let ten : side / 10 < 10 = omega arith in
    let unit : side % 10 < 10 = omega arith in
    record {
      tens = side / 10;
      units = side % 10;
      is = is;
      some = some;
      ten = ten;
      unit = unit;
      text = ap (λ (l : List ℕ). l ++ tail) (decimal-pair side (side / 10) (side % 10) is some ten unit);
    }

-- bytes with no digit in front do not begin with a side
pub no_side : (bytes : List ℕ) (side : ℕ) (tail : List ℕ) → NoDigit bytes → side < 64 → bytes ≡ decimal side ++ tail → ⊥
no_side bytes side tail none small is = elim (cases_lt side 10) [
  | inl one ↦ none side tail one (is ∙ decimal-one side tail one)
  | inr two ↦
      let pair = pair_of side tail two small in
      none pair.tens ((48 + pair.units) ∷ tail) pair.ten (is ∙ pair.text)
]

-- one digit, with no other behind it, is that side
pub lone_digit : (digit : ℕ) (rest : List ℕ) (side : ℕ) (tail : List ℕ) → digit < 10 → NoDigit rest → side < 64 → (48 + digit) ∷ rest ≡ decimal side ++ tail → (digit ≡ side) × (rest ≡ tail)
lone_digit digit rest side tail ten none small is = elim (cases_lt side 10) [
  | inl one ↦
      let same : (48 + digit) ∷ rest ≡ (48 + side) ∷ tail = is ∙ decimal-one side tail one in
      let head : 48 + digit ≡ 48 + side = cc in
      (omega arith, cc)
  | inr two ↦
      let pair = pair_of side tail two small in
      let same : (48 + digit) ∷ rest ≡ (48 + pair.tens) ∷ (48 + pair.units) ∷ tail = is ∙ pair.text in
      absurd (none pair.units tail pair.unit cc)
]

-- a 0 in front is the side 0
pub zero_digit : (rest : List ℕ) (side : ℕ) (tail : List ℕ) → side < 64 → 48 ∷ rest ≡ decimal side ++ tail → (0 ≡ side) × (rest ≡ tail)
zero_digit rest side tail small is = elim (cases_lt side 10) [
  | inl one ↦
      let same : 48 ∷ rest ≡ (48 + side) ∷ tail = is ∙ decimal-one side tail one in
      let head : 48 ≡ 48 + side = cc in
      (omega arith, cc)
  | inr two ↦
      let pair = pair_of side tail two small in
      let same : 48 ∷ rest ≡ (48 + pair.tens) ∷ (48 + pair.units) ∷ tail = is ∙ pair.text in
      let head : 48 ≡ 48 + pair.tens = cc in
      absurd (omega (arith, pair.some))
]

-- two digits, the first not 0, are that side
pub two_digits : (tens units : ℕ) (rest : List ℕ) (side : ℕ) (tail : List ℕ) → tens < 10 → units < 10 → NoDigit tail → side < 64 → (48 + tens) ∷ (48 + units) ∷ rest ≡ decimal side ++ tail → (10 * tens + units ≡ side) × (rest ≡ tail)
two_digits tens units rest side tail ten unit none small is = elim (cases_lt side 10) [
  | inl one ↦
      let same : (48 + tens) ∷ (48 + units) ∷ rest ≡ (48 + side) ∷ tail = is ∙ decimal-one side tail one in
      absurd (none units rest unit cc)
  | inr two ↦
      let pair = pair_of side tail two small in
      let same : (48 + tens) ∷ (48 + units) ∷ rest ≡ (48 + pair.tens) ∷ (48 + pair.units) ∷ tail = is ∙ pair.text in
      let first : 48 + tens ≡ 48 + pair.tens = cc in
      let second : 48 + units ≡ 48 + pair.units = cc in
      (omega (arith, pair.is), cc)
]

-- a side in front of bytes that begin with no digit can be told in one way
pub side_unique : (side other : ℕ) (tail rest : List ℕ) → side < 64 → other < 64 → NoDigit tail → NoDigit rest → decimal side ++ tail ≡ decimal other ++ rest → (side ≡ other) × (tail ≡ rest)
side_unique side other tail rest small small' none none' is = elim (cases_lt side 10) [
  | inl one ↦ lone_digit side tail other rest one none small' (sym (decimal-one side tail one) ∙ is)
  | inr two ↦
      let pair = pair_of side tail two small in
      let same = two_digits pair.tens pair.units tail other rest pair.ten pair.unit none' small' (sym pair.text ∙ is) in
      (pair.is ∙ same.0, same.1)
]
