-- How many letters the words of names and positions have.
use Rattle.std.proofs.Common.{◌≡◌, ◌≢◌, ℕ, ◌+◌, List, [], ◌∷◌, ◌++◌, length, replicate, refl, ap, ◌∙◌, arith, length-append}
use Rattle.std.proofs.lemmas.List.{length-replicate}
use Rattle.tile_model.specs.declared.Letter.TheVariants.{L, X}
use Rattle.tree_model.specs.Names.{word}
use Rattle.tree_model.specs.Positions.{parent, last_side}
use Rattle.tree_model.proofs.Names.{LastView, empty, last, last_view, parent_push, last_side_push}
use Rattle.tree_laws.proofs.Words.{word_push}

pub word_first : (i : ℕ) (m : List ℕ) → length (word (i ∷ m)) ≡ i + 1 + length (word m)
word_first i m = length-append (replicate i L) (X ∷ word m) ∙ omega (arith, length-replicate i L)

pub word_last : (m : List ℕ) (i : ℕ) → length (word (m ++ i ∷ [])) ≡ length (word m) + i + 1
word_last m i =
    ap length (word_push m i) ∙ length-append (word m) (replicate i L ++ X ∷ [])
    ∙ omega (arith, length-append (replicate i L) (X ∷ []), length-replicate i L)

pub word_end : (m : List ℕ) (i : ℕ) → length (word m ++ replicate i L) ≡ length (word m) + i
word_end m i = length-append (word m) (replicate i L) ∙ omega (arith, length-replicate i L)

-- one side further down
pub word_down : (m : List ℕ) (i : ℕ) → length (word (m ++ i ∷ [])) ≡ length (word m ++ replicate i L) + 1
word_down m i = omega (arith, word_last m i, word_end m i)

-- one side further up
pub word_up : (m : List ℕ) → m ≢ [] → length (word m) ≡ length (word (parent m)) + last_side m + 1
word_up m some = go (last_view m) some
  where
    go : {l : List ℕ} → LastView l → l ≢ [] → length (word l) ≡ length (word (parent l)) + last_side l + 1
    go empty some = absurd (some refl)
    go (last l i) some =
        omega (arith, word_last l i, ap (λ n. length (word n)) (parent_push l i), last_side_push l i)
