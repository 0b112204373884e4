-- The text of a log is that of no other log, and one line of a text is the first that is bad.
use Rattle.std.proofs.Common.{◌≡◌, ◌≢◌, ℕ, zero, suc, ◌+◌, ◌<◌, ◌≤◌, ◌^◌, Bool, true, false, List, [], ◌∷◌, ◌++◌, length, refl, sym, ap, ap₂, ◌∙◌, subst, arith, length-append, append_assoc}
use Rattle.std.specs.Prelude.{All, codes, decimal}
use Rattle.std.specs.Str.Parse.{AllDigits}
use Rattle.std.proofs.lemmas.Str.Parse.{digit_from_value}
use Rattle.std.proofs.lemmas.Fmt.{decimal_is_IsNumeral, decimal_injective}
use Rattle.std.proofs.lemmas.List.Elements.{All-nil, All-append}
use Rattle.tile_model.specs.Relation.{Change}
use Rattle.log_model.specs.LogTexts.{HasText, change_word, change_text, log_text, IsOneLine, StartsBad, not_ended, no_change, IsFirstBadLine}

-- no byte is a line feed
abbrev NoFeed : ℕ → Type 0
NoFeed b = b ≢ 10

all_head : {X : Type 0} (P : X → Type 0) (x : X) (xs : List X) → All P (x ∷ xs) → P x
all_head P x xs h = h 0 x (omega arith)

all_tail : {X : Type 0} (P : X → Type 0) (x : X) (xs : List X) → All P (x ∷ xs) → All P xs
all_tail P x xs h = λ k d l. h (suc k) d (omega (arith, l))

all_cons : {X : Type 0} (P : X → Type 0) (x : X) (xs : List X) → P x → All P xs → All P (x ∷ xs)
all_cons P x xs p h zero d l = p
all_cons P x xs p h (suc k) d l = h k d (omega (arith, l))

-- a line ends at its first line feed
pub lines_agree : (a b s t : List ℕ) → IsOneLine a → IsOneLine b → a ++ (10 ∷ s) ≡ b ++ (10 ∷ t) → (a ≡ b) × (s ≡ t)
lines_agree [] [] s t p q e = (refl, cc (e))
lines_agree [] (y ∷ b) s t p q e = let first : y ≡ 10 = cc (e) in absurd (all_head NoFeed y b q first)
lines_agree (x ∷ a) [] s t p q e = let first : x ≡ 10 = cc (e) in absurd (all_head NoFeed x a p first)
lines_agree (x ∷ a) (y ∷ b) s t p q e =
    let f = lines_agree a b s t (all_tail NoFeed x a p) (all_tail NoFeed y b q) (cc (e)) in
    (ap₂ (λ z m. z ∷ m) (cc (e)) f.0, f.1)

-- two lists of one length that are the beginnings of one list
fronts : (a b s t : List ℕ) → length a ≡ length b → a ++ s ≡ b ++ t → (a ≡ b) × (s ≡ t)
fronts [] [] s t n e = (refl, e)
fronts [] (y ∷ b) s t n e = absurd (omega (arith, n))
fronts (x ∷ a) [] s t n e = absurd (omega (arith, n))
fronts (x ∷ a) (y ∷ b) s t n e =
    let f = fronts a b s t (omega (arith, n)) (cc (e)) in
    (ap₂ (λ z m. z ∷ m) (cc (e)) f.0, f.1)

digits_one_line : (ds : List ℕ) → AllDigits 10 ds → IsOneLine ds
digits_one_line [] a = All-nil NoFeed
digits_one_line (c ∷ ds) a = all_cons NoFeed c ds (λ e. omega (arith, digit_from_value c a.0, e)) (digits_one_line ds a.1)

four_one_line : (a b c e : ℕ) → NoFeed a → NoFeed b → NoFeed c → NoFeed e → IsOneLine (a ∷ b ∷ c ∷ e ∷ [])
four_one_line a b c e p q r s =
    all_cons NoFeed a (b ∷ c ∷ e ∷ []) p (all_cons NoFeed b (c ∷ e ∷ []) q (all_cons NoFeed c (e ∷ []) r (all_cons NoFeed e [] s (All-nil NoFeed))))

word_one_line : (b : Bool) → IsOneLine (change_word b)
word_one_line true = four_one_line 105 110 115 32 (λ e. omega (arith, e)) (λ e. omega (arith, e)) (λ e. omega (arith, e)) (λ e. omega (arith, e))
word_one_line false = four_one_line 100 101 108 32 (λ e. omega (arith, e)) (λ e. omega (arith, e)) (λ e. omega (arith, e)) (λ e. omega (arith, e))

-- the text of a change is one line
pub change_one_line : (c : Change) → HasText c → IsOneLine (change_text c)
change_one_line c h =
    All-append NoFeed (change_word c.insert) (decimal c.at ++ (32 ∷ (48 + c.loop) ∷ [])) (word_one_line c.insert)
    (All-append NoFeed (decimal c.at) (32 ∷ (48 + c.loop) ∷ []) (digits_one_line (decimal c.at) (decimal_is_IsNumeral c.at h.place).0.1)
    (all_cons NoFeed 32 ((48 + c.loop) ∷ []) (λ e. omega (arith, e)) (all_cons NoFeed (48 + c.loop) [] (λ e. omega (arith, e)) (All-nil NoFeed))))

-- behind the word, the place and the loop are told
numbers_agree : (m n p q : ℕ) → m < 2 ^ 64 → n < 2 ^ 64 → decimal m ++ (32 ∷ (48 + p) ∷ []) ≡ decimal n ++ (32 ∷ (48 + q) ∷ []) → (m ≡ n) × (p ≡ q)
numbers_agree m n p q lm ln e =
    let sizes : length (decimal m) ≡ length (decimal n) = omega (arith, ap length e, length-append (decimal m) (32 ∷ (48 + p) ∷ []), length-append (decimal n) (32 ∷ (48 + q) ∷ [])) in
    let f = fronts (decimal m) (decimal n) (32 ∷ (48 + p) ∷ []) (32 ∷ (48 + q) ∷ []) sizes e in
    let last : 48 + p ≡ 48 + q = cc (f.1) in
    (decimal_injective m n lm ln f.0, omega (arith, last))

words_agree : (b c : Bool) (s t : List ℕ) → change_word b ++ s ≡ change_word c ++ t → (b ≡ c) × (s ≡ t)
words_agree true true s t e = (refl, cc (e))
words_agree false false s t e = (refl, cc (e))
words_agree true false s t e = let first : ◌≡◌ {A = ℕ} 105 100 = cc (e) in absurd (omega (arith, first))
words_agree false true s t e = let first : ◌≡◌ {A = ℕ} 100 105 = cc (e) in absurd (omega (arith, first))

-- a line is the text of one change
pub change_texts_agree : (c e : Change) → HasText c → HasText e → change_text c ≡ change_text e → c ≡ e
change_texts_agree c e h k same =
    let w = words_agree c.insert e.insert (decimal c.at ++ (32 ∷ (48 + c.loop) ∷ [])) (decimal e.at ++ (32 ∷ (48 + e.loop) ∷ [])) same in
    let n = numbers_agree c.at e.at c.loop e.loop h.place k.place w.1 in
    λ i. record { at = n.0 i; loop = n.1 i; insert = w.0 i }

-- the changes of the first lines are the same, and so is what follows
first_agrees : (c e : Change) (s t : List ℕ) → HasText c → HasText e → change_text c ++ (10 ∷ s) ≡ change_text e ++ (10 ∷ t) → (c ≡ e) × (s ≡ t)
first_agrees c e s t h k same =
    let f = lines_agree (change_text c) (change_text e) s t (change_one_line c h) (change_one_line e k) same in
    (change_texts_agree c e h k f.0, f.1)

not_empty : (c : Change) (s : List ℕ) → change_text c ++ (10 ∷ s) ≢ []
not_empty c s e = omega (arith, ap length e, length-append (change_text c) (10 ∷ s))

pub one_log : (log other : List Change) → All HasText log → All HasText other → log_text log ≡ log_text other → log ≡ other
one_log [] [] h k e = refl
one_log [] (c ∷ other) h k e = absurd (not_empty c (log_text other) (sym e))
one_log (c ∷ log) [] h k e = absurd (not_empty c (log_text log) e)
one_log (c ∷ log) (b ∷ other) h k e =
    let f = first_agrees c b (log_text log) (log_text other) (all_head HasText c log h) (all_head HasText b other k) e in
    ap₂ (λ z m. z ∷ m) f.0 (one_log log other (all_tail HasText c log h) (all_tail HasText b other k) f.1)

feed_not_in : (a s : List ℕ) → ¬ (IsOneLine (a ++ (10 ∷ s)))
feed_not_in [] s h = all_head NoFeed 10 s h refl
feed_not_in (x ∷ a) s h = feed_not_in a s (all_tail NoFeed x (a ++ (10 ∷ s)) h)

-- what begins with the line of a change does not begin with a bad line
pub not_bad : (c : Change) (s bytes : List ℕ) → HasText c → bytes ≡ change_text c ++ (10 ∷ s) → ¬ (StartsBad bytes)
not_bad c s bytes h e (not_ended some one) = feed_not_in (change_text c) s (subst IsOneLine e one)
not_bad c s bytes h e (no_change line behind one split none) =
    none c h (lines_agree (change_text c) line s behind (change_one_line c h) one (sym e ∙ split)).0

empty_not_bad : (bytes : List ℕ) → bytes ≡ [] → ¬ (StartsBad bytes)
empty_not_bad bytes e (not_ended some one) = some e
empty_not_bad bytes e (no_change line behind one split none) = omega (arith, ap length (sym split ∙ e), length-append line (10 ∷ behind))

-- a text that begins with lines of changes
log_on : (c : Change) (log : List Change) (s : List ℕ) → log_text (c ∷ log) ++ s ≡ change_text c ++ (10 ∷ (log_text log ++ s))
log_on c log s = append_assoc (change_text c) (10 ∷ log_text log) s

-- lines of changes before a bad line are no whole log
bad_no_log : (before log : List Change) (rest : List ℕ) → All HasText before → All HasText log → StartsBad rest → log_text log ≢ log_text before ++ rest
bad_no_log [] [] rest h k bad e = empty_not_bad rest (sym e) bad
bad_no_log [] (c ∷ log) rest h k bad e = not_bad c (log_text log) rest (all_head HasText c log k) (sym e) bad
bad_no_log (c ∷ before) [] rest h k bad e = not_empty c (log_text before ++ rest) (sym (e ∙ log_on c before rest))
bad_no_log (c ∷ before) (b ∷ log) rest h k bad e =
    let f = first_agrees b c (log_text log) (log_text before ++ rest) (all_head HasText b log k) (all_head HasText c before h) (e ∙ log_on c before rest) in
    bad_no_log before log rest (all_tail HasText c before h) (all_tail HasText b log k) bad f.1

pub text_of_no_log : (bytes : List ℕ) (n : ℕ) → IsFirstBadLine bytes n → (log : List Change) → All HasText log → log_text log ≢ bytes
text_of_no_log bytes n f log k e = bad_no_log f.before log f.rest f.have_text k f.bad (e ∙ f.split)

-- before two bad lines there are as many lines
as_many : (before other : List Change) (rest more : List ℕ) → All HasText before → All HasText other → StartsBad rest → StartsBad more → log_text before ++ rest ≡ log_text other ++ more → length before ≡ length other
as_many [] [] rest more h k bad worse e = refl
as_many [] (c ∷ other) rest more h k bad worse e = absurd (not_bad c (log_text other ++ more) rest (all_head HasText c other k) (e ∙ log_on c other more) bad)
as_many (c ∷ before) [] rest more h k bad worse e = absurd (not_bad c (log_text before ++ rest) more (all_head HasText c before h) (sym e ∙ log_on c before rest) worse)
as_many (c ∷ before) (b ∷ other) rest more h k bad worse e =
    let f = first_agrees c b (log_text before ++ rest) (log_text other ++ more) (all_head HasText c before h) (all_head HasText b other k) (sym (log_on c before rest) ∙ e ∙ log_on b other more) in
    ap suc (as_many before other rest more (all_tail HasText c before h) (all_tail HasText b other k) bad worse f.1)

pub one_bad_line : (bytes : List ℕ) (m n : ℕ) → IsFirstBadLine bytes m → IsFirstBadLine bytes n → m ≡ n
one_bad_line bytes m n f g =
    f.number ∙ ap suc (as_many f.before g.before f.rest g.rest f.have_text g.have_text f.bad g.bad (sym f.split ∙ g.split)) ∙ sym g.number
