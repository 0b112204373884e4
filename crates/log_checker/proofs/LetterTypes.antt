-- Walks of which each letter tells its type: their letters, and what stands at a place.
use Rattle.std.proofs.Common.{◌≡◌, ℕ, zero, suc, ◌<◌, List, [], ◌∷◌, ◌++◌, length, take, drop, slice_index_or, refl, sym, ap, ◌∙◌, arith, append_assoc}
use Rattle.std.proofs.lemmas.List.{map-append, length-map, take_at, drop_at, append_cancel_left}
use Rattle.tile_model.specs.declared.Letter.{Letter}
use Rattle.tile_model.specs.Tessellations.{TileKind}
use Rattle.tile_model.specs.Walks.{step, type_of}
use Rattle.log_checker.specs.Footprints.{TypedLetter, typed, letters, AreTyped}

pub letters_append : (a b : List TypedLetter) → letters (a ++ b) ≡ letters a ++ letters b
letters_append a b = map-append (λ (m : TypedLetter). m.0) a b

pub length_letters : (m : List TypedLetter) → length (letters m) ≡ length m
length_letters m = length-map m (λ (x : TypedLetter). x.0)

-- the letters, round one of them
letters_at : (m : List TypedLetter) (i : ℕ) (x : TypedLetter) → i < length m → x ≡ slice_index_or m i x → letters m ≡ letters (take i m) ++ (x.0 ∷ letters (drop (suc i) m))
letters_at [] i x h e = absurd (omega (arith, h))
letters_at (y ∷ m) zero x h e = ap (λ (z : TypedLetter). z.0 ∷ letters m) (sym e)
letters_at (y ∷ m) (suc i) x h e = ap (λ k. y.0 ∷ k) (letters_at m i x (omega (arith, h)) e)

-- a walk that goes on with another letter does not begin with the letters
pub other_letter : (m : List TypedLetter) (i : ℕ) (x : TypedLetter) (w rest behind r : List Letter) (first : Letter) → i < length m → x ≡ slice_index_or m i x → w ≡ letters (take i m) ++ rest → rest ≡ first ∷ behind → w ≡ letters m ++ r → first ≡ x.0
other_letter m i x w rest behind r first h e so_far goes whole =
    let split : letters m ++ r ≡ letters (take i m) ++ (x.0 ∷ (letters (drop (suc i) m) ++ r)) = ap (λ k. k ++ r) (letters_at m i x h e) ∙ append_assoc (letters (take i m)) (x.0 ∷ letters (drop (suc i) m)) r in
    let same : rest ≡ x.0 ∷ (letters (drop (suc i) m) ++ r) = append_cancel_left (letters (take i m)) rest (x.0 ∷ (letters (drop (suc i) m) ++ r)) (sym so_far ∙ whole ∙ split) in
    cc (goes, same)

module _ (kinds : List TileKind) where
  pub letters_typed : (d : ℕ × ℕ) (v : List Letter) → letters (typed kinds d v) ≡ v
  letters_typed d [] = refl
  letters_typed d (x ∷ v) = ap (λ m. x ∷ m) (letters_typed (step kinds d x) v)

  pub length_typed : (d : ℕ × ℕ) (v : List Letter) → length (typed kinds d v) ≡ length v
  length_typed d [] = refl
  length_typed d (x ∷ v) = ap suc (length_typed (step kinds d x) v)

  pub typed_append : (d : ℕ × ℕ) (u w : List Letter) → typed kinds d (u ++ w) ≡ typed kinds d u ++ typed kinds (type_of kinds d u) w
  typed_append d [] w = refl
  typed_append d (x ∷ u) w = ap (λ m. (x, d) ∷ m) (typed_append (step kinds d x) u w)

  pub is_typed : (d : ℕ × ℕ) (v : List Letter) (m : List TypedLetter) → m ≡ typed kinds d v → AreTyped kinds d m
  is_typed d v m e = e ∙ ap (typed kinds d) (sym (ap letters e ∙ letters_typed d v))

  -- the letter at a place tells the type before it
  pub type_told : (d : ℕ × ℕ) (v : List Letter) (k : ℕ) (m : TypedLetter) → k < length v → m ≡ slice_index_or (typed kinds d v) k m → m.1 ≡ type_of kinds d (take k v)
  type_told d [] k m h e = absurd (omega (arith, h))
  type_told d (x ∷ v) zero m h e = ap (λ (y : TypedLetter). y.1) e
  type_told d (x ∷ v) (suc k) m h e = type_told (step kinds d x) v k m (omega (arith, h)) e

  -- and with it the type behind it
  pub type_behind : (d : ℕ × ℕ) (v : List Letter) (k : ℕ) (m : TypedLetter) → k < length v → m ≡ slice_index_or (typed kinds d v) k m → step kinds m.1 m.0 ≡ type_of kinds d (take (suc k) v)
  type_behind d [] k m h e = absurd (omega (arith, h))
  type_behind d (x ∷ v) zero m h e = ap (λ (y : TypedLetter). step kinds y.1 y.0) e
  type_behind d (x ∷ v) (suc k) m h e = type_behind (step kinds d x) v k m (omega (arith, h)) e

  -- two parts of what is typed
  pub typed_front : (d : ℕ × ℕ) (a b : List TypedLetter) → AreTyped kinds d (a ++ b) → a ≡ typed kinds d (letters a)
  typed_front d a b h =
      let whole : a ++ b ≡ typed kinds d (letters a) ++ typed kinds (type_of kinds d (letters a)) (letters b) = h ∙ ap (typed kinds d) (letters_append a b) ∙ typed_append d (letters a) (letters b) in
      let size : length (typed kinds d (letters a)) ≡ length a = length_typed d (letters a) ∙ length_letters a in
      sym (take_at a b (length a) refl) ∙ ap (take (length a)) whole ∙ take_at (typed kinds d (letters a)) (typed kinds (type_of kinds d (letters a)) (letters b)) (length a) size

  pub typed_behind : (d : ℕ × ℕ) (a b : List TypedLetter) → AreTyped kinds d (a ++ b) → b ≡ typed kinds (type_of kinds d (letters a)) (letters b)
  typed_behind d a b h =
      let whole : a ++ b ≡ typed kinds d (letters a) ++ typed kinds (type_of kinds d (letters a)) (letters b) = h ∙ ap (typed kinds d) (letters_append a b) ∙ typed_append d (letters a) (letters b) in
      let size : length (typed kinds d (letters a)) ≡ length a = length_typed d (letters a) ∙ length_letters a in
      sym (drop_at a b (length a) refl) ∙ ap (drop (length a)) whole ∙ drop_at (typed kinds d (letters a)) (typed kinds (type_of kinds d (letters a)) (letters b)) (length a) size
