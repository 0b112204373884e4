-- A list of words, from its items.
use Rattle.std.proofs.Common.{◌≡◌, ℕ, ◌-◌, ◌<◌, ◌≤◌, List, [], ◌∷◌, map, take, drop, length, get_or, ap, arith}
use Rattle.std.proofs.lemmas.List.{take_all}

pub three_words : {S : Type 0} (f : S → List ℕ) (ws : List S) (a b c : S) → 3 ≤ length ws → length ws < 4 → a ≡ get_or ws 0 a → b ≡ get_or ws 1 b → c ≡ get_or ws 2 c → map f ws ≡ f a ∷ f b ∷ f c ∷ []
three_words f [] a b c least below ea eb ec = absurd (omega arith)
three_words f (v ∷ []) a b c least below ea eb ec = absurd (omega arith)
three_words f (v ∷ w ∷ []) a b c least below ea eb ec = absurd (omega arith)
three_words f (v ∷ w ∷ x ∷ []) a b c least below ea eb ec = cc
three_words f (v ∷ w ∷ x ∷ y ∷ ws) a b c least below ea eb ec = absurd (omega arith)

pub four_words : {S : Type 0} (f : S → List ℕ) (ws : List S) (a b c d : S) → 4 ≤ length ws → length ws < 5 → a ≡ get_or ws 0 a → b ≡ get_or ws 1 b → c ≡ get_or ws 2 c → d ≡ get_or ws 3 d → map f ws ≡ f a ∷ f b ∷ f c ∷ f d ∷ []
four_words f [] a b c d least below ea eb ec ed = absurd (omega arith)
four_words f (v ∷ []) a b c d least below ea eb ec ed = absurd (omega arith)
four_words f (v ∷ w ∷ []) a b c d least below ea eb ec ed = absurd (omega arith)
four_words f (v ∷ w ∷ x ∷ []) a b c d least below ea eb ec ed = absurd (omega arith)
four_words f (v ∷ w ∷ x ∷ y ∷ []) a b c d least below ea eb ec ed = cc
four_words f (v ∷ w ∷ x ∷ y ∷ z ∷ ws) a b c d least below ea eb ec ed = absurd (omega arith)

pub six_words : {S : Type 0} (f : S → List ℕ) (ws : List S) (a b c d e g : S) → 6 ≤ length ws → length ws < 7 → a ≡ get_or ws 0 a → b ≡ get_or ws 1 b → c ≡ get_or ws 2 c → d ≡ get_or ws 3 d → e ≡ get_or ws 4 e → g ≡ get_or ws 5 g → map f ws ≡ f a ∷ f b ∷ f c ∷ f d ∷ f e ∷ f g ∷ []
six_words f [] a b c d e g least below ea eb ec ed ee eg = absurd (omega arith)
six_words f (v ∷ []) a b c d e g least below ea eb ec ed ee eg = absurd (omega arith)
six_words f (v ∷ w ∷ []) a b c d e g least below ea eb ec ed ee eg = absurd (omega arith)
six_words f (v ∷ w ∷ x ∷ []) a b c d e g least below ea eb ec ed ee eg = absurd (omega arith)
six_words f (v ∷ w ∷ x ∷ y ∷ []) a b c d e g least below ea eb ec ed ee eg = absurd (omega arith)
six_words f (v ∷ w ∷ x ∷ y ∷ z ∷ []) a b c d e g least below ea eb ec ed ee eg = absurd (omega arith)
six_words f (v ∷ w ∷ x ∷ y ∷ z ∷ t ∷ []) a b c d e g least below ea eb ec ed ee eg = cc
six_words f (v ∷ w ∷ x ∷ y ∷ z ∷ t ∷ s ∷ ws) a b c d e g least below ea eb ec ed ee eg = absurd (omega arith)

-- the first two or three words, and the others
pub two_front : {S : Type 0} (f : S → List ℕ) (ws : List S) (a b : S) → 2 ≤ length ws → a ≡ get_or ws 0 a → b ≡ get_or ws 1 b → map f ws ≡ f a ∷ f b ∷ map f (take (length ws - 2) (drop 2 ws))
two_front f [] a b least ea eb = absurd (omega arith)
two_front f (v ∷ []) a b least ea eb = absurd (omega arith)
two_front {S} f (v ∷ w ∷ ws) a b least ea eb =
    let whole : take (length (v ∷ w ∷ ws) - 2) ws ≡ ws = take_all (length (v ∷ w ∷ ws) - 2) ws (omega arith) in
    let rest : map f (take (length (v ∷ w ∷ ws) - 2) ws) ≡ map f ws = ap (λ (l : List S). map f l) whole in
    cc (rest, ea, eb)

pub three_front : {S : Type 0} (f : S → List ℕ) (ws : List S) (a b c : S) → 3 ≤ length ws → a ≡ get_or ws 0 a → b ≡ get_or ws 1 b → c ≡ get_or ws 2 c → map f ws ≡ f a ∷ f b ∷ f c ∷ map f (take (length ws - 3) (drop 3 ws))
three_front f [] a b c least ea eb ec = absurd (omega arith)
three_front f (v ∷ []) a b c least ea eb ec = absurd (omega arith)
three_front f (v ∷ w ∷ []) a b c least ea eb ec = absurd (omega arith)
three_front {S} f (v ∷ w ∷ x ∷ ws) a b c least ea eb ec =
    let whole : take (length (v ∷ w ∷ x ∷ ws) - 3) ws ≡ ws = take_all (length (v ∷ w ∷ x ∷ ws) - 3) ws (omega arith) in
    let rest : map f (take (length (v ∷ w ∷ x ∷ ws) - 3) ws) ≡ map f ws = ap (λ (l : List S). map f l) whole in
    cc (rest, ea, eb, ec)
