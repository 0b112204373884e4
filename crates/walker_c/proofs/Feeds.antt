-- Line feeds in what is handed over as a line.
use Rattle.std.proofs.Common.{◌≡◌, ℕ, ◌<◌, List, [], ◌∷◌, ◌++◌, length, slice_index_or, refl, sym, ap, ◌∙◌, arith}
use Rattle.std.proofs.lemmas.List.{length-append, get_or_append_left}
use Rattle.std.proofs.Math.Seq.{get_or-append_seam}
use Rattle.line_server.specs.Lines.{LacksFeed, feed}
use Rattle.walker_c.specs.Seats.{IsLine, bare, fed}

-- a list of no length
pub empty_of : (xs : List ℕ) → length xs ≡ 0 → xs ≡ []
empty_of [] e = refl
empty_of (x ∷ xs) e = absurd (omega (arith, e))

-- a line feed with something behind it is no line's end, so that the rest is no line
pub feeds_within :
    (front rest bytes line : List ℕ) → bytes ≡ front ++ feed ∷ rest → 0 < length rest
    → IsLine bytes line → LacksFeed line → ⊥
feeds_within front rest bytes line e some bare lacks =
    let size = ap length e ∙ length-append front (feed ∷ rest) in
    lacks (length front) 0 (omega (arith, size))
    (ap (λ l. slice_index_or l (length front) 0) e ∙ get_or-append_seam front feed rest 0)
feeds_within front rest bytes line e some (fed _ f) lacks =
    let size = ap length (sym e ∙ f) in
    let split = length-append front (feed ∷ rest) in
    let whole = length-append line (feed ∷ []) in
    let below : length front < length line = omega (arith, size, split, whole, some) in
    lacks (length front) 0 below
    (sym (get_or_append_left line (feed ∷ []) 0 (length front) below)
    ∙ ap (λ l. slice_index_or l (length front) 0) (sym f ∙ e)
    ∙ get_or-append_seam front feed rest 0)
