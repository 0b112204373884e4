-- No two walks have one text.
use Rattle.std.proofs.Common.{◌≡◌, ◌≢◌, ℕ, List, [], ◌∷◌, map, get_or, nat_eq, if◌then◌else◌, refl, ap, ap₂, arith, ◌∙◌, sym}
use Rattle.tile_model.specs.declared.Letter.{Letter}
use Rattle.tile_model.specs.declared.Letter.TheVariants.{L, R, X}
use Rattle.tile_model.specs.WalkTexts.{letter_code, walk_text}

-- the letter of a code
abbrev decode : ℕ → Letter
decode n = if nat_eq n 76 then L else (if nat_eq n 82 then R else X)

decode_code : (x : Letter) → decode (letter_code x) ≡ x
decode_code L = refl
decode_code R = refl
decode_code X = refl

decode_codes : (walk : List Letter) → map decode (map letter_code walk) ≡ walk
decode_codes [] = refl
decode_codes (x ∷ walk) = ap₂ (λ y w. y ∷ w) (decode_code x) (decode_codes walk)

not_dash : (x : Letter) → letter_code x ≢ 45
not_dash L same = absurd (omega (arith, same))
not_dash R same = absurd (omega (arith, same))
not_dash X same = absurd (omega (arith, same))

pub one_walk : (u w : List Letter) → walk_text u ≡ walk_text w → u ≡ w
one_walk [] [] same = refl
one_walk [] (x ∷ w) same = absurd (not_dash x (sym (ap (λ (l : List ℕ). get_or l 0 0) same)))
one_walk (x ∷ u) [] same = absurd (not_dash x (ap (λ (l : List ℕ). get_or l 0 0) same))
one_walk (x ∷ u) (y ∷ w) same = sym (decode_codes (x ∷ u)) ∙ ap (map decode) same ∙ decode_codes (y ∷ w)
