-- Numbers in order of first sight.
use Rattle.std.specs.Prelude.{◌≡◌, ℕ, ◌<◌, ◌↔◌, List, length, slice_index_or, Option, None, Some}

-- entry i of a list of what may be there
abbrev pub entry : {A : Type 0} → List (Option A) → ℕ → Option A
entry xs i = slice_index_or xs i None

-- Of what is met the numbers are one exactly where it is the same, numbered 0, 1, 2 and so on as it
-- is first met; `count` numbers are given in all.
pub record AreNumbers {A : Type 0} (met : List (Option A)) (numbers : List (Option ℕ)) (count : ℕ) :
    Type 0 where
  pub long : length numbers ≡ length met
  pub nothing : (i : ℕ) → (entry numbers i ≡ None) ↔ (entry met i ≡ None)
  pub one : (i j m n : ℕ) (x y : A)
      → entry met i ≡ Some x → entry met j ≡ Some y
      → entry numbers i ≡ Some m → entry numbers j ≡ Some n
      → (m ≡ n) ↔ (x ≡ y)
  pub first : (i m k : ℕ) → entry numbers i ≡ Some m → k < m
      → (j : ℕ) × (j < i) × (entry numbers j ≡ Some k)
  pub counted : (k : ℕ) → (k < count) ↔ ((i : ℕ) × (entry numbers i ≡ Some k))
