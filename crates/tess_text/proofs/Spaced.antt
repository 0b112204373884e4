-- The words of a line of the canonical text: each stands behind one space.
use Rattle.std.proofs.Common.{◌≡◌, ℕ, suc, ◌+◌, ◌<◌, ◌≤◌, ◌^◌, Bool, true, false, List, [], ◌∷◌, ◌++◌, length, map, refl, ◌∙◌, ap, arith, append_assoc, codes, decimal, Some}
use Rattle.std.specs.Prelude.{◌==◌, filter}
use Rattle.std.specs.List.{position_or_len, slice_split, onto_first}
use Rattle.std.specs.Char.{digit_value}
use Rattle.std.specs.Str.{all_ascii_digits}
use Rattle.std.specs.Str.Parse.{AllDigits, digits_value}
use Rattle.std.proofs.lemmas.Fmt.{decimal_is_IsNumeral, decimal_nonempty, length-decimal-le, digits_decimal, digits_value-decimal}
use Rattle.std.proofs.lemmas.Str.Parse.{numerals_by_value, tells_all_ascii_digits}
use Rattle.std.proofs.lemmas.List.{append-nil}
use Rattle.std.proofs.lemmas.Bool.Decides.{nat_tests}
use Rattle.tess_text.specs.declared.entry.Entry.{Entry}
use Rattle.tess_text.specs.declared.entry.Entry.TheVariants.{Kind, Join, Corner}
use Rattle.tess_text.specs.FileLines.{lines, content, is_separator, is_nonempty, words, word_lines}
use Rattle.tess_text.specs.declared.version.Version.TheVariants.{One}
use Rattle.tess_text.specs.Grammar.{small_number, entry, IsAllowed}
use Rattle.tess_text.specs.Text.{join_word, numbers_text, entry_text, entries_text}
use Rattle.tess_text.proofs.Numbers.{number_some, word_some}

-- letters and digits: all stand above # among the bytes
abbrev pub IsPlain : List ℕ → Type 0
IsPlain [] = Unit {0}
IsPlain (b ∷ bytes) = (35 < b) × IsPlain bytes

abbrev pub IsWord : List ℕ → Type 0
IsWord word = (0 < length word) × IsPlain word

abbrev pub AllWords : List (List ℕ) → Type 0
AllWords [] = Unit {0}
AllWords (word ∷ more) = IsWord word × AllWords more

-- words, each behind a space, and then the tail
abbrev pub spaced : List (List ℕ) → List ℕ → List ℕ
spaced [] tail = tail
spaced (word ∷ more) tail = 32 ∷ (word ++ spaced more tail)

-- a plain byte is no line feed, no # and no separator
plain_feed : (b : ℕ) → 35 < b → (b == 10) ≡ false
plain_feed b plain = grind (arith, nat_tests)

plain_hash : (b : ℕ) → 35 < b → (b == 35) ≡ false
plain_hash b plain = grind (arith, nat_tests)

plain_part : (b : ℕ) → 35 < b → is_separator b ≡ false
plain_part b plain = grind (arith, nat_tests)

-- the first line of what begins with a word
lines_through : (word rest line : List ℕ) (more : List (List ℕ)) → IsPlain word → lines rest ≡ line ∷ more → lines (word ++ rest) ≡ (word ++ line) ∷ more
lines_through [] rest line more plain is = is
lines_through (b ∷ word) rest line more plain is = rw (plain_feed b plain.0) (ap (λ (l : List (List ℕ)). onto_first b l) (lines_through word rest line more plain.1 is))

lines_spaced : (ws : List (List ℕ)) (tail : List ℕ) → AllWords ws → lines (spaced ws (10 ∷ tail)) ≡ spaced ws [] ∷ lines tail
lines_spaced [] tail all = refl
lines_spaced (w ∷ ws) tail all = ap (λ (l : List (List ℕ)). onto_first 32 l) (lines_through w (spaced ws (10 ∷ tail)) (spaced ws []) (lines tail) all.0.1 (lines_spaced ws tail all.1))

-- its words
split_through : (word rest part : List ℕ) (more : List (List ℕ)) → IsPlain word → slice_split is_separator rest ≡ part ∷ more → slice_split is_separator (word ++ rest) ≡ (word ++ part) ∷ more
split_through [] rest part more plain is = is
split_through (b ∷ word) rest part more plain is = rw (plain_part b plain.0) (ap (λ (l : List (List ℕ)). onto_first b l) (split_through word rest part more plain.1 is))

split_spaced : (ws : List (List ℕ)) → AllWords ws → slice_split is_separator (spaced ws []) ≡ [] ∷ ws
split_spaced [] all = refl
split_spaced (w ∷ ws) all =
    ap (λ (l : List (List ℕ)). [] ∷ l) (split_through w (spaced ws []) [] ws all.0.1 (split_spaced ws all.1) ∙ ap (λ (l : List ℕ). l ∷ ws) (append-nil w))

all_kept : (ws : List (List ℕ)) → AllWords ws → filter is_nonempty ws ≡ ws
all_kept [] all = refl
all_kept ([] ∷ ws) all = absurd (omega (arith, all.0.0))
all_kept ((b ∷ w) ∷ ws) all = ap (λ (l : List (List ℕ)). (b ∷ w) ∷ l) (all_kept ws all.1)

words_spaced : (w : List ℕ) (ws : List (List ℕ)) → IsWord w → AllWords ws → words (w ++ spaced ws []) ≡ w ∷ ws
unfolding words
words_spaced w ws word all =
    ap (λ (l : List (List ℕ)). filter is_nonempty l) (split_through w (spaced ws []) [] ws word.1 (split_spaced ws all) ∙ ap (λ (l : List ℕ). l ∷ ws) (append-nil w))
    ∙ all_kept (w ∷ ws) (word, all)

-- it has no comment
content_cons : (b : ℕ) (line : List ℕ) → (b == 35) ≡ false → content (b ∷ line) ≡ b ∷ content line
content_cons b line other = rw other (rw e refl)
  where
    e : 1 + position_or_len (λ x. x == 35) line ≡ suc (position_or_len (λ x. x == 35) line)
    e = omega arith

content_through : (word rest : List ℕ) → IsPlain word → content rest ≡ rest → content (word ++ rest) ≡ word ++ rest
content_through [] rest plain is = is
content_through (b ∷ word) rest plain is = content_cons b (word ++ rest) (plain_hash b plain.0) ∙ ap (λ (l : List ℕ). b ∷ l) (content_through word rest plain.1 is)

content_spaced : (ws : List (List ℕ)) → AllWords ws → content (spaced ws []) ≡ spaced ws []
content_spaced [] all = refl
content_spaced (w ∷ ws) all = content_cons 32 (w ++ spaced ws []) refl ∙ ap (λ (l : List ℕ). 32 ∷ l) (content_through w (spaced ws []) all.0.1 (content_spaced ws all.1))

-- so that a line of words, and what stands behind it, are these words
pub word_line : (w : List ℕ) (ws : List (List ℕ)) (tail : List ℕ) → IsWord w → AllWords ws → word_lines (w ++ spaced ws (10 ∷ tail)) ≡ (w ∷ ws) ∷ word_lines tail
word_line w ws tail word all =
    ap (λ (l : List (List ℕ)). map (λ x. words (content x)) l) (lines_through w (spaced ws (10 ∷ tail)) (spaced ws []) (lines tail) word.1 (lines_spaced ws tail all))
    ∙ ap (λ (l : List ℕ). words l ∷ word_lines tail) (content_through w (spaced ws []) word.1 (content_spaced ws all))
    ∙ ap (λ (l : List (List ℕ)). l ∷ word_lines tail) (words_spaced w ws word all)

-- numbers as words
plain_digits : (ds : List ℕ) → AllDigits 10 ds → IsPlain ds
plain_digits [] all = tt
plain_digits (c ∷ cs) all = (plain_digit c all.0, plain_digits cs all.1)
  where
    plain_digit : (b : ℕ) → digit_value b < 10 → 35 < b
    plain_digit b digit = grind (arith, nat_tests)

pub decimal_word : (n : ℕ) → n < 2 ^ 8 → IsWord (decimal n)
decimal_word n small =
    let wide : n < 2 ^ 64 = omega arith in
    (decimal_nonempty n wide, plain_digits (decimal n) (decimal_is_IsNumeral n wide).0.1)

pub number-decimal : (n : ℕ) → n < 2 ^ 8 → small_number (decimal n) ≡ Some n
number-decimal n small =
    let wide : n < 2 ^ 64 = omega arith in
    let short : length (decimal n) ≤ 3 = length-decimal-le 3 n (omega arith) (omega arith) wide in
    let by_test = numerals_by_value _ tells_all_ascii_digits in
    let digits : all_ascii_digits (decimal n) ≡ true = digits_decimal by_test n wide in
    let value : digits_value 10 (decimal n) ≡ n = digits_value-decimal by_test n wide in
    let is = number_some (decimal n) n (decimal_nonempty n wide) (omega arith) digits value in
    word_some (decimal n) n is (omega arith)

-- what the canonical text says: each number of the entry is a byte, and no join is mirrored
abbrev pub IsSmall : Entry → Type 0
IsSmall (Kind k sides repeat) = (k < 2 ^ 8) × (sides < 2 ^ 8) × (repeat < 2 ^ 8)
IsSmall (Join k s k2 s2 mark) = (k < 2 ^ 8) × (s < 2 ^ 8) × (k2 < 2 ^ 8) × (s2 < 2 ^ 8) × (mark ≡ false)
IsSmall (Corner k s v) = (k < 2 ^ 8) × (s < 2 ^ 8) × (v < 2 ^ 8)

abbrev pub AllSmall : List Entry → Type 0
AllSmall [] = Unit {0}
AllSmall (e ∷ es) = IsSmall e × AllSmall es

-- version 1 allows it
pub allowed_of : (e : Entry) → IsSmall e → IsAllowed One e
allowed_of (Kind k sides repeat) small = tt
allowed_of (Join k s k2 s2 mark) small = small.4
allowed_of (Corner k s v) small = tt

-- the words of an entry
abbrev pub entry_words : Entry → List (List ℕ)
entry_words (Kind k sides repeat) = codes "kind" ∷ decimal k ∷ decimal sides ∷ decimal repeat ∷ []
entry_words (Join k s k2 s2 mark) = join_word mark ∷ decimal k ∷ decimal s ∷ decimal k2 ∷ decimal s2 ∷ []
entry_words (Corner k s v) = codes "corner" ∷ decimal k ∷ decimal s ∷ decimal v ∷ []

pub entry_of_words : (e : Entry) → IsSmall e → entry (entry_words e) ≡ Some e
entry_of_words (Kind k sides repeat) small = rw (number-decimal k small.0, number-decimal sides small.1, number-decimal repeat small.2) refl
entry_of_words (Join k s k2 s2 false) small = rw (number-decimal k small.0, number-decimal s small.1, number-decimal k2 small.2, number-decimal s2 small.3) refl
entry_of_words (Join k s k2 s2 true) small = absurd (cc small.4)
entry_of_words (Corner k s v) small = rw (number-decimal k small.0, number-decimal s small.1, number-decimal v small.2) refl

numbers_spaced : (ns : List ℕ) (tail : List ℕ) → numbers_text ns ++ tail ≡ spaced (map (λ n. decimal n) ns) (10 ∷ tail)
numbers_spaced [] tail = refl
numbers_spaced (n ∷ ns) tail = ap (λ (l : List ℕ). 32 ∷ l) (append_assoc (decimal n) (numbers_text ns) tail ∙ ap (λ (l : List ℕ). decimal n ++ l) (numbers_spaced ns tail))

kind_word : IsWord (codes "kind")
kind_word = (omega arith, (omega arith, (omega arith, (omega arith, (omega arith, tt)))))

word_of_join : (mark : Bool) → IsWord (join_word mark)
word_of_join false = (omega arith, (omega arith, (omega arith, (omega arith, (omega arith, tt)))))
word_of_join true = (omega arith, (omega arith, (omega arith, (omega arith, (omega arith, (omega arith, (omega arith, tt)))))))

corner_word : IsWord (codes "corner")
corner_word = (omega arith, (omega arith, (omega arith, (omega arith, (omega arith, (omega arith, (omega arith, tt)))))))

-- the line of an entry
pub entry_line : (e : Entry) (tail : List ℕ) → IsSmall e → word_lines (entry_text e ++ tail) ≡ entry_words e ∷ word_lines tail
entry_line (Kind k sides repeat) tail small =
    ap (λ (l : List ℕ). word_lines (codes "kind" ++ l)) (numbers_spaced (k ∷ sides ∷ repeat ∷ []) tail)
    ∙ word_line (codes "kind") (decimal k ∷ decimal sides ∷ decimal repeat ∷ []) tail kind_word (decimal_word k small.0, (decimal_word sides small.1, (decimal_word repeat small.2, tt)))
entry_line (Join k s k2 s2 mark) tail small =
    ap (λ (l : List ℕ). word_lines l) (append_assoc (join_word mark) (numbers_text (k ∷ s ∷ k2 ∷ s2 ∷ [])) tail)
    ∙ ap (λ (l : List ℕ). word_lines (join_word mark ++ l)) (numbers_spaced (k ∷ s ∷ k2 ∷ s2 ∷ []) tail)
    ∙ word_line (join_word mark) (decimal k ∷ decimal s ∷ decimal k2 ∷ decimal s2 ∷ []) tail (word_of_join mark) (decimal_word k small.0, (decimal_word s small.1, (decimal_word k2 small.2, (decimal_word s2 small.3, tt))))
entry_line (Corner k s v) tail small =
    ap (λ (l : List ℕ). word_lines (codes "corner" ++ l)) (numbers_spaced (k ∷ s ∷ v ∷ []) tail)
    ∙ word_line (codes "corner") (decimal k ∷ decimal s ∷ decimal v ∷ []) tail corner_word (decimal_word k small.0, (decimal_word s small.1, (decimal_word v small.2, tt)))

pub entry_lines : (es : List Entry) → AllSmall es → word_lines (entries_text es) ≡ map entry_words es
entry_lines [] small = refl
entry_lines (e ∷ es) small = entry_line e (entries_text es) small.0 ∙ ap (λ (l : List (List (List ℕ))). entry_words e ∷ l) (entry_lines es small.1)
