-- Cutting the first line off a file, and the first word off a line.
use Rattle.std.proofs.Common.{◌≡◌, ℕ, suc, ◌+◌, ◌<◌, ◌≤◌, Bool, true, false, not, List, [], ◌∷◌, length, take, drop, length-take, inl, inr, refl, ◌∙◌, ap, arith, cond}
use Rattle.std.specs.Prelude.{◌==◌, filter}
use Rattle.std.specs.List.{position_or_len, slice_split, onto_first}
use Rattle.std.proofs.lemmas.List.Splits.{slice_split_first}
use Rattle.std.proofs.lemmas.Bool.{cases_lt}
use Rattle.std.proofs.lemmas.List.{drop_all, take_all}
use Rattle.tess_text.specs.FileLines.{lines, is_nonempty, is_separator, words}

-- the place of the first line feed
abbrev end : List ℕ → ℕ
end bytes = position_or_len (λ b. b == 10) bytes

-- a text that is not empty: its first line ends before the first line feed
pub lines_cut : (bytes : List ℕ) → 0 < length bytes → lines bytes ≡ take (end bytes) bytes ∷ lines (drop (end bytes + 1) bytes)
lines_cut [] some = absurd (omega arith)
lines_cut (b ∷ []) some = elim (b == 10) as (λ r. cond r ([] ∷ []) ((b ∷ []) ∷ []) ≡ take (cond (not r) (1 + 0) 0) (b ∷ []) ∷ lines (drop (cond (not r) (1 + 0) 0 + 1) (b ∷ []))) [ true ↦ refl | false ↦ refl ]
lines_cut (b ∷ c ∷ bytes) some =
    let m = end (c ∷ bytes) in
    let e : 1 + m ≡ suc m = omega arith in
    let f : suc m + 1 ≡ suc (m + 1) = omega arith in
    let rest = lines_cut (c ∷ bytes) (omega arith) in
    elim (b == 10) as (λ r. cond r ([] ∷ lines (c ∷ bytes)) (onto_first b (lines (c ∷ bytes))) ≡ take (cond (not r) (1 + m) 0) (b ∷ c ∷ bytes) ∷ lines (drop (cond (not r) (1 + m) 0 + 1) (b ∷ c ∷ bytes))) [
      | true ↦ refl
      | false ↦ rw (e, f) (ap (λ (l : List (List ℕ)). onto_first b l) rest)
    ]

-- where no separator stands, there is one part
whole_step : (x : ℕ) (xs : List ℕ) (r : Bool) → length (x ∷ xs) ≤ cond (not r) (1 + position_or_len is_separator xs) 0 → (length xs ≤ position_or_len is_separator xs → slice_split is_separator xs ≡ xs ∷ []) → cond r ([] ∷ slice_split is_separator xs) (onto_first x (slice_split is_separator xs)) ≡ (x ∷ xs) ∷ []
whole_step x xs true le rest = absurd (omega arith)
whole_step x xs false le rest = ap (λ (l : List (List ℕ)). onto_first x l) (rest (omega arith))

split_whole : (xs : List ℕ) → length xs ≤ position_or_len is_separator xs → slice_split is_separator xs ≡ xs ∷ []
split_whole [] none = refl
split_whole (x ∷ xs) none = whole_step x xs (is_separator x) none (split_whole xs)

kept : (part : List ℕ) (parts : List (List ℕ)) → 0 < length part → filter is_nonempty (part ∷ parts) ≡ part ∷ filter is_nonempty parts
kept [] parts some = absurd (omega arith)
kept (b ∷ part) parts some = refl

-- the place of the first separator
abbrev word_end : List ℕ → ℕ
word_end text = position_or_len is_separator text

prefix_some : (text : List ℕ) → 0 < word_end text → 0 < length text
prefix_some [] some = some
prefix_some (b ∷ text) some = omega arith

-- a text that begins with a word
pub word_first : (text : List ℕ) → 0 < word_end text → words text ≡ take (word_end text) text ∷ words (drop (word_end text + 1) text)
unfolding words
word_first text some = elim (cases_lt (word_end text) (length text)) [
  | inl lt ↦ ap (λ (l : List (List ℕ)). filter is_nonempty l) (slice_split_first is_separator text 0 lt) ∙ kept (take (word_end text) text) (slice_split is_separator (drop (word_end text + 1) text)) (rw length-take (omega arith))
  | inr ge ↦
      let none : slice_split is_separator (drop (word_end text + 1) text) ≡ [] ∷ [] = ap (λ (l : List ℕ). slice_split is_separator l) (drop_all (word_end text + 1) text (omega arith)) in
      let all : take (word_end text) text ≡ text = take_all (word_end text) text ge in
      ap (λ (l : List (List ℕ)). filter is_nonempty l) (split_whole text ge) ∙ kept text [] (prefix_some text some) ∙ cc
]

-- a text that begins with a separator
pub word_later : (text : List ℕ) → word_end text ≡ 0 → 0 < length text → words text ≡ words (drop (word_end text + 1) text)
unfolding words
word_later text none some =
    ap (λ (l : List (List ℕ)). filter is_nonempty l) (slice_split_first is_separator text 0 (omega arith))
    ∙ ap (λ (n : ℕ). filter is_nonempty (take n text ∷ slice_split is_separator (drop (word_end text + 1) text))) none

-- nothing has no words
pub words_none : (text : List ℕ) → length text ≡ 0 → words text ≡ []
unfolding words
words_none [] none = refl
words_none (b ∷ text) none = absurd (omega arith)
