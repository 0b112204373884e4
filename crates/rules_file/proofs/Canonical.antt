-- The canonical text of an automaton is JSON text of its value.
use Rattle.std.proofs.Common.{◌≡◌, ℕ, ◌≤◌, Bool, true, false, cond, ◌&&◌, List, [], ◌∷◌, ◌++◌, Some, option_and_then, IsUtf8, refl, sym, ap, ap₂, ◌∙◌, append_assoc, append-nil}
use Rattle.std.proofs.lemmas.Str.{IsUtf8-append}
use Rattle.json.specs.Token.{Token, begin_object, end_object, begin_array, end_array, key, string, number, boolean, null, bad}
use Rattle.json.specs.Word.{ends_word, word}
use Rattle.json.specs.Lex.{Lexeme, token, comma, colon, string_token, lex, between, fresh, punctuate, tokens}
use Rattle.json.specs.Print.{escape, quoted, token_text, begins, ends, separator, print_from, print, IsPrintable, ArePrintable}
use Rattle.json.specs.Json as json
use Rattle.json.specs.Tree.{json_tokens, HasNumbers, ItemsHaveNumbers}
use Rattle.json.specs.Tree as tree
use Rattle.json.proofs.Printed.Strings.{content-escape, lex-escape}
use Rattle.json.proofs.Printed.Numbers.{lex-number, in_word-ended}
use Rattle.json.proofs.Printed.Tokens.{tokens-print}
use Rattle.json.proofs.Printed.Trees.{value-json_tokens, ArePrintable-json_tokens}
use Rattle.json.proofs.Printed.Utf8.{IsUtf8-are_ascii}
use Rattle.serde_json.specs.Data.{Data}
use Rattle.serde_json.specs.Read.{of_json, max_depth, read}
use Rattle.serde_json.specs.Written.{outline, compact_text}
use Rattle.serde_json.proofs.Texts.{print-outline}

-- ---- a line feed behind what is printed adds no token

front : Token → List Lexeme
front begin_object = token begin_object ∷ []
front end_object = token end_object ∷ []
front begin_array = token begin_array ∷ []
front end_array = token end_array ∷ []
front (key s) = token (string s) ∷ colon ∷ []
front (string s) = token (string s) ∷ []
front (number s) = token (number s) ∷ []
front (boolean b) = token (boolean b) ∷ []
front null = token null ∷ []
front bad = []

lex_quoted : (s r : List ℕ) → lex between (quoted s ++ r) ≡ token (string s) ∷ lex between r
unfolding lex
lex_quoted s r =
    ap (λ l. lex between (34 ∷ l)) (append_assoc (escape s) (34 ∷ []) r)
    ∙ ap₂ (λ o l. token (string_token o) ∷ l) (content-escape s r) (lex-escape s r)

lex_front : (t : Token) (r : List ℕ) → IsPrintable t → (ends t ≡ true → ends_word r ≡ true) → lex between (token_text t ++ r) ≡ front t ++ lex between r
unfolding lex word front
lex_front begin_object r h e = refl
lex_front end_object r h e = refl
lex_front begin_array r h e = refl
lex_front end_array r h e = refl
lex_front (key s) r h e = ap (lex between) (append_assoc (quoted s) (58 ∷ []) r) ∙ lex_quoted s (58 ∷ r)
lex_front (string s) r h e = lex_quoted s r
lex_front (number s) r h e = lex-number s r h (e refl)
lex_front (boolean true) r h e = ap₂ (λ b l. token (cond b (boolean true) bad) ∷ l) (e refl) (in_word-ended r (e refl))
lex_front (boolean false) r h e = ap₂ (λ b l. token (cond b (boolean false) bad) ∷ l) (e refl) (in_word-ended r (e refl))
lex_front null r h e = ap₂ (λ b l. token (cond b null bad) ∷ l) (e refl) (in_word-ended r (e refl))
lex_front bad r h e = absurd h

-- behind a value stands a comma, a closing bracket or the tail
ends_behind : (ts : List Token) (tail : List ℕ) → ends_word tail ≡ true → ends_word (print_from true ts ++ tail) ≡ true
unfolding print_from
ends_behind [] tail e = e
ends_behind (begin_object ∷ ts) tail e = refl
ends_behind (end_object ∷ ts) tail e = refl
ends_behind (begin_array ∷ ts) tail e = refl
ends_behind (end_array ∷ ts) tail e = refl
ends_behind (key s ∷ ts) tail e = refl
ends_behind (string s ∷ ts) tail e = refl
ends_behind (number s ∷ ts) tail e = refl
ends_behind (boolean b ∷ ts) tail e = refl
ends_behind (null ∷ ts) tail e = refl
ends_behind (bad ∷ ts) tail e = refl

fronts : Bool → List Token → List Lexeme
fronts c [] = []
fronts c (t ∷ ts) = cond (c && begins t) (comma ∷ []) [] ++ (front t ++ fronts (ends t) ts)

lex_comma : (b : Bool) (r : List ℕ) → lex between (cond b (44 ∷ []) [] ++ r) ≡ cond b (comma ∷ []) [] ++ lex between r
unfolding lex
lex_comma true r = refl
lex_comma false r = refl

lex_printed : (c : Bool) (ts : List Token) (tail : List ℕ) → ArePrintable ts → ends_word tail ≡ true → lex between (print_from c ts ++ tail) ≡ fronts c ts ++ lex between tail
unfolding print_from ArePrintable fronts
lex_printed c [] tail h e = refl
lex_printed c (t ∷ ts) tail h e =
    let rest = print_from (ends t) ts in
    let first = cond (c && begins t) (comma ∷ []) [] in
    ap (lex between) (append_assoc (separator c t) (token_text t ++ rest) tail ∙ ap (λ l. separator c t ++ l) (append_assoc (token_text t) rest tail))
    ∙ lex_comma (c && begins t) _
    ∙ ap (λ l. first ++ l)
    (lex_front t (rest ++ tail) h.0 (λ ended. ap (λ b. ends_word (print_from b ts ++ tail)) ended ∙ ends_behind ts tail e)
    ∙ ap (λ l. front t ++ l) (lex_printed (ends t) ts tail h.1 e) ∙ sym (append_assoc (front t) (fronts (ends t) ts) (lex between tail)))
    ∙ sym (append_assoc first (front t ++ fronts (ends t) ts) (lex between tail))

lex_line : (ts : List Token) → ArePrintable ts → lex between (print ts ++ 10 ∷ []) ≡ lex between (print ts)
unfolding lex
lex_line ts h = lex_printed false ts (10 ∷ []) h refl ∙ sym (lex_printed false ts [] h refl) ∙ ap (lex between) (append-nil (print ts))

tokens_line : (ts : List Token) → ArePrintable ts → tokens (print ts ++ 10 ∷ []) ≡ ts
tokens_line ts h = ap (punctuate fresh) (lex_line ts h) ∙ tokens-print ts h

-- ---- what is written and read back

-- d is written as UTF-8, nests no deeper than n, and is read back
pub record IsWritable (n : ℕ) (d : Data) : Type 0 where
  pub numbers : HasNumbers (outline d)
  pub shallow : tree.depth (outline d) ≤ n
  pub back : of_json (outline d) ≡ Some d
  pub utf8 : IsUtf8 (compact_text d)

pub line_reads : (d : Data) → IsWritable max_depth d → read (compact_text d ++ 10 ∷ []) ≡ Some d
line_reads d w =
    let ts = json_tokens (outline d) in
    let same : tokens (compact_text d ++ 10 ∷ []) ≡ ts ++ [] =
    ap (λ s. tokens (s ++ 10 ∷ [])) (sym (print-outline d)) ∙ tokens_line ts (ArePrintable-json_tokens (outline d) w.numbers) ∙ sym (append-nil ts) in
    ap (λ o. option_and_then of_json (option_and_then (λ p. json.if_last p.0 p.1) o)) (ap (json.value max_depth) same ∙ value-json_tokens (outline d) max_depth [] w.shallow) ∙ w.back

pub line_utf8 : (n : ℕ) (d : Data) → IsWritable n d → IsUtf8 (compact_text d ++ 10 ∷ [])
line_utf8 n d w = IsUtf8-append (compact_text d) (10 ∷ []) w.utf8 (IsUtf8-are_ascii (10 ∷ []) refl)
