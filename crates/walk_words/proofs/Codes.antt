-- Texts of walks: each byte is the code of a letter.
use Rattle.std.proofs.Common.{◌≡◌, ◌≢◌, ℕ, zero, suc, ◌<◌, List, [], ◌∷◌, map, length, get_or, ◌==◌, true, false, subst, refl, ap, arith, ◌∙◌, sym}
use Rattle.tile_model.specs.declared.Letter.{Letter}
use Rattle.tile_model.specs.WalkTexts.{letter_code, walk_text}

code_at : (walk : List Letter) (i : ℕ) → i < length (map letter_code walk) → (x : Letter) × (letter_code x ≡ get_or (map letter_code walk) i 0)
code_at [] i lt = absurd (omega arith)
code_at (x ∷ walk) zero lt = (x, refl)
code_at (x ∷ walk) (suc i) lt = code_at walk i (omega arith)

-- a text other than a dash with a byte that is no letter is no walk's
pub no_walk : (bytes : List ℕ) (i : ℕ) → i < length bytes → ¬ (bytes ≡ 45 ∷ []) → ((x : Letter) → letter_code x ≢ get_or bytes i 0) → (walk : List Letter) → walk_text walk ≢ bytes
no_walk bytes i lt not_dash none [] is = not_dash (sym is)
no_walk bytes i lt not_dash none (x ∷ walk) is =
    let at = code_at (x ∷ walk) i (omega (arith, ap length is)) in
    none at.0 (at.1 ∙ ap (λ (l : List ℕ). get_or l i 0) is)

-- the codes of the letters of a walk that is not empty are its text
pub text_of_codes : (walk : List Letter) → ¬ (walk ≡ []) → walk_text walk ≡ map letter_code walk
text_of_codes [] not_empty = absurd (not_empty refl)
text_of_codes (x ∷ walk) not_empty = refl

-- bytes, one at least, that are the codes of letters are the text of their walk
pub text_of_bytes : (walk : List Letter) (bytes : List ℕ) → (length bytes == 0) ≡ false → map letter_code walk ≡ bytes → walk_text walk ≡ bytes
text_of_bytes [] bytes some_byte codes =
    let none : true ≡ false = subst (λ (bs : List ℕ). (length bs == 0) ≡ false) (sym codes) some_byte in
    absurd (cc none)
text_of_bytes (x ∷ walk) bytes some_byte codes = codes
