-- What a read gives, cut where the limit of the stream cuts it.
use Rattle.std.proofs.Common.{◌≡◌, ◌≢◌, ℕ, ◌+◌, ◌-◌, ◌≤◌, ◌<◌, List, [], ◌++◌, length, take, drop, sym, ap, ◌∙◌, arith}
use Rattle.std.specs.Prelude.{min}
use Rattle.std.proofs.Math.Seq.{take-add}
use Rattle.std.proofs.lemmas.List.{append_assoc, length-take, length-drop}

-- the bytes read, and which of them are within the limit
module _ (read : List ℕ) (count fresh : ℕ) (few : fresh ≤ count) (within : count ≤ length read) where
  -- the bytes past the limit
  abbrev pub more : List ℕ
  more = take (count - fresh) (drop fresh read)

  pub cuts :
      (left rest : List ℕ) → left ≡ take count read ++ rest
      → left ≡ take fresh read ++ (more ++ rest)
  cuts left rest e =
      let all : count ≡ fresh + (count - fresh) = omega (arith, few) in
      e
      ∙ ap (λ n. take n read ++ rest) all
      ∙ ap (λ l. l ++ rest) (take-add fresh (count - fresh) read)
      ∙ append_assoc (take fresh read) more rest

  pub fresh_length : length (take fresh read) ≡ fresh
  fresh_length = length-take fresh read ∙ omega (arith, few, within)

  pub some_more : fresh < count → more ≢ []
  some_more less e =
      let none : length more ≡ 0 = ap length e in
      let size : length more ≡ min (count - fresh) (length read - fresh) =
      length-take (count - fresh) (drop fresh read)
      ∙ ap (min (count - fresh)) (length-drop fresh read) in
      absurd (omega (arith, none, size, less, within))

-- a read that gives no bytes leaves none
pub ends_empty :
    (read : List ℕ) (count : ℕ) (left rest : List ℕ) → count ≡ 0 → left ≡ take count read ++ rest
    → left ≡ [] → rest ≡ []
ends_empty read count left rest none e empty =
    ap (λ n. take n read ++ rest) (sym none) ∙ sym e ∙ empty
