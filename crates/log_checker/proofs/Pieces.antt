-- Lists in pieces: where a piece stands in the whole, and what the whole is where pieces change.
use Rattle.std.proofs.Common.{◌≡◌, ℕ, zero, suc, ◌+◌, ◌-◌, ◌<◌, ◌≤◌, ◌⊎◌, inl, inr, List, [], ◌∷◌, ◌++◌, length, take, drop, slice_index_or, slice_set, refl, sym, ap, ap₂, ◌∙◌, subst, arith, append_assoc, length-append, length-drop}
use Rattle.std.specs.List.{insert, remove}
use Rattle.std.proofs.lemmas.List.{append-nil, take_all, take-append-drop, length-take-le, get_or_default, get_or_append_left, get_or-append-add, take-append-le, drop-append-le, take-set, length-set}
use Rattle.std.proofs.lemmas.List.Edits.{length-remove}
use Rattle.std.proofs.Math.Seq.{drop-append-add}
use Rattle.log_checker.specs.Footprints.{TypedLetter}
use Rattle.log_checker.specs.Trails.{joined, piece_at, Begins, Covers, IsWith, KeepsFront}

pub joined_append : (a b : List (List TypedLetter)) → joined (a ++ b) ≡ joined a ++ joined b
joined_append [] b = refl
joined_append (p ∷ a) b = ap (λ m. p ++ m) (joined_append a b) ∙ sym (append_assoc p (joined a) (joined b))

-- the whole, round a piece
pub joined_at : (ps : List (List TypedLetter)) (i : ℕ) → i < length ps → joined ps ≡ joined (take i ps) ++ (piece_at ps i ++ joined (drop (suc i) ps))
joined_at [] i h = absurd (omega (arith, h))
joined_at (p ∷ ps) zero h = refl
joined_at (p ∷ ps) (suc i) h =
    ap (λ m. p ++ m) (joined_at ps i (omega (arith, h))) ∙ sym (append_assoc p (joined (take i ps)) (piece_at ps i ++ joined (drop (suc i) ps)))

-- with q for the piece
pub joined_set : (ps : List (List TypedLetter)) (i : ℕ) (q : List TypedLetter) → i < length ps → joined (slice_set ps i q) ≡ joined (take i ps) ++ (q ++ joined (drop (suc i) ps))
joined_set [] i q h = absurd (omega (arith, h))
joined_set (p ∷ ps) zero q h = refl
joined_set (p ∷ ps) (suc i) q h =
    ap (λ m. p ++ m) (joined_set ps i q (omega (arith, h))) ∙ sym (append_assoc p (joined (take i ps)) (q ++ joined (drop (suc i) ps)))

-- with q and r for the piece
joined_insert : (ps : List (List TypedLetter)) (i : ℕ) (q r : List TypedLetter) → i < length ps → joined (insert (slice_set ps i q) (suc i) r) ≡ joined (take i ps) ++ (q ++ (r ++ joined (drop (suc i) ps)))
joined_insert [] i q r h = absurd (omega (arith, h))
joined_insert (p ∷ ps) zero q r h = refl
joined_insert (p ∷ ps) (suc i) q r h =
    ap (λ m. p ++ m) (joined_insert ps i q r (omega (arith, h))) ∙ sym (append_assoc p (joined (take i ps)) (q ++ (r ++ joined (drop (suc i) ps))))

-- with q for the piece, and the next one taken out
joined_remove : (ps : List (List TypedLetter)) (i : ℕ) (q : List TypedLetter) → suc i < length ps → joined (slice_set (remove ps (suc i)) i q) ≡ joined (take i ps) ++ (q ++ joined (drop (suc (suc i)) ps))
joined_remove [] i q h = absurd (omega (arith, h))
joined_remove (p ∷ []) zero q h = absurd (omega (arith, h))
joined_remove (p ∷ n ∷ ps) zero q h = refl
joined_remove (p ∷ ps) (suc i) q h =
    ap (λ m. p ++ m) (joined_remove ps i q (omega (arith, h))) ∙ sym (append_assoc p (joined (take i ps)) (q ++ joined (drop (suc (suc i)) ps)))

-- the whole, round two pieces
joined_two : (ps : List (List TypedLetter)) (i : ℕ) → suc i < length ps → joined ps ≡ joined (take i ps) ++ (piece_at ps i ++ (piece_at ps (suc i) ++ joined (drop (suc (suc i)) ps)))
joined_two [] i h = absurd (omega (arith, h))
joined_two (p ∷ []) zero h = absurd (omega (arith, h))
joined_two (p ∷ n ∷ ps) zero h = refl
joined_two (p ∷ ps) (suc i) h =
    ap (λ m. p ++ m) (joined_two ps i (omega (arith, h))) ∙ sym (append_assoc p (joined (take i ps)) (piece_at ps i ++ (piece_at ps (suc i) ++ joined (drop (suc (suc i)) ps))))

-- what stands before the piece behind a piece
length_next : (ps : List (List TypedLetter)) (i : ℕ) → i < length ps → length (joined (take (suc i) ps)) ≡ length (joined (take i ps)) + length (piece_at ps i)
length_next [] i h = absurd (omega (arith, h))
length_next (p ∷ ps) zero h = omega (arith, length-append p [])
length_next (p ∷ ps) (suc i) h =
    omega (arith, length_next ps i (omega (arith, h)), length-append p (joined (take (suc i) ps)), length-append p (joined (take i ps)))

pub begins_next : (ps : List (List TypedLetter)) (i b n : ℕ) → Begins ps i b → n ≡ length (piece_at ps i) → i + 1 < length ps → Begins ps (i + 1) (b + n)
begins_next ps i b n g e more =
    let s : suc i ≡ i + 1 = omega arith in
    subst (λ j. Begins ps j (b + n)) s (record { inside = omega (arith, more); counted = omega (arith, g.counted, e, length_next ps i g.inside) })

pub begins_last : (ps : List (List TypedLetter)) (i b : ℕ) → Begins ps i b → i + 1 ≡ length ps → length (joined ps) ≡ b + length (piece_at ps i)
begins_last ps i b g last =
    let all : take (suc i) ps ≡ ps = take_all (suc i) ps (omega (arith, last)) in
    omega (arith, ap (λ qs. length (joined qs)) all, g.counted, length_next ps i g.inside)

-- the piece before a piece
record Precedes (ps : List (List TypedLetter)) (i b n : ℕ) : Type 0 where
  fewer : n ≤ b
  begins : Begins ps (i - 1) (b - n)

before_it : (ps : List (List TypedLetter)) (i b n : ℕ) → Begins ps i b → 0 < b → n ≡ length (piece_at ps (i - 1)) → Precedes ps i b n
before_it ps zero b n g some e = absurd (omega (arith, g.counted, some))
before_it ps (suc i) b n g some e =
    let s : suc i - 1 ≡ i = omega arith in
    let size : n ≡ length (piece_at ps i) = e ∙ ap (λ j. length (piece_at ps j)) s in
    let inside : i < length ps = omega (arith, g.inside) in
    let next = length_next ps i inside in
    record {
      fewer = omega (arith, g.counted, next, size);
      begins = subst (λ j. Begins ps j (b - n)) (sym s) (record { inside = inside; counted = omega (arith, g.counted, next, size) });
    }

pub prior_fewer : (ps : List (List TypedLetter)) (i b n : ℕ) → Begins ps i b → 0 < b → n ≡ length (piece_at ps (i - 1)) → n ≤ b
prior_fewer ps i b n g some e = (before_it ps i b n g some e).fewer

pub prior_begins : (ps : List (List TypedLetter)) (i b n : ℕ) → Begins ps i b → 0 < b → n ≡ length (piece_at ps (i - 1)) → Begins ps (i - 1) (b - n)
prior_begins ps i b n g some e = (before_it ps i b n g some e).begins

-- a piece as an index reads it
pub read_piece : (ps : List (List TypedLetter)) (i : ℕ) (p : List TypedLetter) → i < length ps → p ≡ slice_index_or ps i p → p ≡ piece_at ps i
read_piece ps i p h e = e ∙ get_or_default ps i p [] h

-- a piece cut in two
pub halved : (ps : List (List TypedLetter)) (i k : ℕ) (q r : List TypedLetter) → i < length ps → q ≡ take k (piece_at ps i) → r ≡ drop k (piece_at ps i) → joined (insert (slice_set ps i q) (i + 1) r) ≡ joined ps
halved ps i k q r h eq er =
    let behind = joined (drop (suc i) ps) in
    let whole : q ++ (r ++ behind) ≡ piece_at ps i ++ behind = sym (append_assoc q r behind) ∙ ap (λ m. m ++ behind) (ap₂ (λ a b. a ++ b) eq er ∙ take-append-drop k (piece_at ps i)) in
    let s : i + 1 ≡ suc i = omega arith in
    ap (λ j. joined (insert (slice_set ps i q) j r)) s ∙ joined_insert ps i q r h ∙ ap (λ m. joined (take i ps) ++ m) whole ∙ sym (joined_at ps i h)

-- a piece and the next one made one
pub merged : (ps : List (List TypedLetter)) (i : ℕ) (q : List TypedLetter) → i + 1 < length ps → q ≡ piece_at ps i ++ piece_at ps (i + 1) → joined (slice_set (remove ps (i + 1)) i q) ≡ joined ps
merged ps i q h e =
    let s : i + 1 ≡ suc i = omega arith in
    let behind = joined (drop (suc (suc i)) ps) in
    let whole : q ++ behind ≡ piece_at ps i ++ (piece_at ps (suc i) ++ behind) = ap (λ m. m ++ behind) (e ∙ ap (λ j. piece_at ps i ++ piece_at ps j) s) ∙ append_assoc (piece_at ps i) (piece_at ps (suc i)) behind in
    ap (λ j. joined (slice_set (remove ps j) i q)) s ∙ joined_remove ps i q (omega (arith, h)) ∙ ap (λ m. joined (take i ps) ++ m) whole ∙ sym (joined_two ps i (omega (arith, h)))

front_removed : (ps : List (List TypedLetter)) (i : ℕ) → suc i < length ps → take i (remove ps (suc i)) ≡ take i ps
front_removed [] i h = absurd (omega (arith, h))
front_removed (p ∷ ps) zero h = refl
front_removed (p ∷ ps) (suc i) h = ap (λ m. p ∷ m) (front_removed ps i (omega (arith, h)))

pub piece_removed : (ps : List (List TypedLetter)) (i : ℕ) → i + 1 < length ps → piece_at (remove ps (i + 1)) i ≡ piece_at ps i
piece_removed ps i h = let s : i + 1 ≡ suc i = omega arith in ap (λ j. piece_at (remove ps j) i) s ∙ core ps i (omega (arith, h))
  where
    core : (qs : List (List TypedLetter)) (j : ℕ) → suc j < length qs → piece_at (remove qs (suc j)) j ≡ piece_at qs j
    core [] j l = absurd (omega (arith, l))
    core (p ∷ qs) zero l = refl
    core (p ∷ qs) (suc j) l = core qs j (omega (arith, l))

pub keeps_merged : (start ps : List (List TypedLetter)) (i : ℕ) (q : List TypedLetter) → KeepsFront start ps i → i + 1 < length ps → KeepsFront start (slice_set (remove ps (i + 1)) i q) i
keeps_merged start ps i q k h =
    let s : suc i ≡ i + 1 = omega arith in
    let front : take i (remove ps (i + 1)) ≡ take i ps = subst (λ j. take i (remove ps j) ≡ take i ps) s (front_removed ps i (omega (arith, h))) in
    record {
      inside = omega (arith, length-set (remove ps (i + 1)) i q, length-remove ps (i + 1) h, h);
      front = take-set (remove ps (i + 1)) i q ∙ front ∙ k.front;
    }

pub piece_set : (ps : List (List TypedLetter)) (i : ℕ) (q : List TypedLetter) → i < length ps → piece_at (slice_set ps i q) i ≡ q
piece_set [] i q h = absurd (omega (arith, h))
piece_set (p ∷ ps) zero q h = refl
piece_set (p ∷ ps) (suc i) q h = piece_set ps i q (omega (arith, h))

-- what is put in, seen with what stands round it
with_round : (front behind : List TypedLetter) (place : ℕ) (middle u w : List TypedLetter) → IsWith place middle u w → IsWith (length front + place) middle (front ++ (u ++ behind)) (front ++ (w ++ behind))
with_round front behind place middle u w h = record {
  before = front ++ h.before;
  behind = h.behind ++ behind;
  at = omega (arith, h.at, length-append front h.before);
  without = ap (λ m. front ++ m) (ap (λ m. m ++ behind) h.without ∙ append_assoc h.before h.behind behind) ∙ sym (append_assoc front h.before (h.behind ++ behind));
  put = ap (λ m. front ++ m) (ap (λ m. m ++ behind) h.put ∙ append_assoc h.before (middle ++ h.behind) behind ∙ ap (λ m. h.before ++ m) (append_assoc middle h.behind behind)) ∙ sym (append_assoc front h.before (middle ++ (h.behind ++ behind)));
}

pub put_in_piece : (ps : List (List TypedLetter)) (i offset : ℕ) (middle p q : List TypedLetter) → i < length ps → p ≡ piece_at ps i → IsWith offset middle p q → IsWith (length (joined (take i ps)) + offset) middle (joined ps) (joined (slice_set ps i q))
put_in_piece ps i offset middle p q h e w =
    let front = joined (take i ps) in
    let behind = joined (drop (suc i) ps) in
    let u : joined ps ≡ front ++ (p ++ behind) = joined_at ps i h ∙ ap (λ m. front ++ (m ++ behind)) (sym e) in
    subst (λ m. IsWith (length front + offset) middle m (joined (slice_set ps i q))) (sym u)
    (subst (λ m. IsWith (length front + offset) middle (front ++ (p ++ behind)) m) (sym (joined_set ps i q h)) (with_round front behind offset middle p q w))

pub taken_from_piece : (ps : List (List TypedLetter)) (i offset : ℕ) (middle p q : List TypedLetter) → i < length ps → p ≡ piece_at ps i → IsWith offset middle q p → IsWith (length (joined (take i ps)) + offset) middle (joined (slice_set ps i q)) (joined ps)
taken_from_piece ps i offset middle p q h e w =
    let front = joined (take i ps) in
    let behind = joined (drop (suc i) ps) in
    let u : joined ps ≡ front ++ (p ++ behind) = joined_at ps i h ∙ ap (λ m. front ++ (m ++ behind)) (sym e) in
    subst (λ m. IsWith (length front + offset) middle (joined (slice_set ps i q)) m) (sym u)
    (subst (λ m. IsWith (length front + offset) middle m (front ++ (p ++ behind))) (sym (joined_set ps i q h)) (with_round front behind offset middle q p w))

-- what follows in a piece follows in the whole, where the piece is long enough or the last one
seen_in : (p behind : List TypedLetter) (offset n : ℕ) → offset ≤ length p → (n + offset ≤ length p) ⊎ (behind ≡ []) → take n (drop offset (p ++ behind)) ≡ take n (drop offset p)
seen_in p behind offset n within (inl enough) =
    ap (take n) (drop-append-le offset p behind within) ∙ take-append-le n (drop offset p) behind (omega (arith, length-drop offset p))
seen_in p behind offset n within (inr last) =
    ap (λ m. take n (drop offset (p ++ m))) last ∙ ap (λ m. take n (drop offset m)) (append-nil p)

pub seen_in_piece : (ps : List (List TypedLetter)) (i offset n : ℕ) → i < length ps → offset ≤ length (piece_at ps i) → (n + offset ≤ length (piece_at ps i)) ⊎ (drop (i + 1) ps ≡ []) → take n (drop (length (joined (take i ps)) + offset) (joined ps)) ≡ take n (drop offset (piece_at ps i))
seen_in_piece ps i offset n h within enough =
    let front = joined (take i ps) in
    let behind = joined (drop (suc i) ps) in
    let s : i + 1 ≡ suc i = omega arith in
    let last : (n + offset ≤ length (piece_at ps i)) ⊎ (behind ≡ []) = elim enough [ inl e ↦ inl e | inr e ↦ inr (ap joined (sym (ap (λ j. drop j ps) s) ∙ e)) ] in
    ap (λ m. take n (drop (length front + offset) m)) (joined_at ps i h) ∙ ap (take n) (drop-append-add front (piece_at ps i ++ behind) offset) ∙ seen_in (piece_at ps i) behind offset n within last

-- a letter of a piece, seen in the whole
pub letter_in_piece : (ps : List (List TypedLetter)) (i b k : ℕ) (d : TypedLetter) → Begins ps i b → k < length (piece_at ps i) → slice_index_or (joined ps) (b + k) d ≡ slice_index_or (piece_at ps i) k d
letter_in_piece ps i b k d g within =
    let front = joined (take i ps) in
    let behind = joined (drop (suc i) ps) in
    ap₂ (λ m j. slice_index_or m (j + k) d) (joined_at ps i g.inside) g.counted ∙ get_or-append-add front (piece_at ps i ++ behind) k d ∙ get_or_append_left (piece_at ps i) behind d k within

-- what a piece holds is held by the whole
pub piece_within : (ps : List (List TypedLetter)) (i b : ℕ) → Begins ps i b → b + length (piece_at ps i) ≤ length (joined ps)
piece_within ps i b g =
    let front = joined (take i ps) in
    let behind = joined (drop (suc i) ps) in
    omega (arith, g.counted, ap length (joined_at ps i g.inside), length-append front (piece_at ps i ++ behind), length-append (piece_at ps i) behind)

-- one more piece at the end
pub joined_push : (ps : List (List TypedLetter)) (p : List TypedLetter) → joined (ps ++ p ∷ []) ≡ joined ps ++ p
joined_push ps p = joined_append ps (p ∷ []) ∙ ap (λ m. joined ps ++ m) (append-nil p)

-- a piece cut from the front of the rest
pub cut_from : (ps qs : List (List TypedLetter)) (n : ℕ) (p front back rest : List TypedLetter) → qs ≡ ps ++ p ∷ [] → p ≡ front → front ≡ take n rest → back ≡ drop n rest → joined qs ++ back ≡ joined ps ++ rest
cut_from ps qs n p front back rest e same f b =
    ap (λ m. joined m ++ back) e ∙ ap (λ m. m ++ back) (joined_push ps p) ∙ append_assoc (joined ps) p back ∙ ap (λ m. joined ps ++ m) (ap₂ (λ x y. x ++ y) (same ∙ f) b ∙ take-append-drop n rest)

-- a piece and the next one made one, as the code does it: the next one is taken out, and its letters are added
module _ (ps rs : List (List TypedLetter)) (i : ℕ) (p n q : List TypedLetter) (out : rs ≡ remove ps (i + 1)) (h : i + 1 < length ps) (first : p ≡ slice_index_or rs i p) (next : n ≡ slice_index_or ps (i + 1) n) (sum : q ≡ p ++ n) where
  first_is : p ≡ piece_at ps i
  first_is =
      let few : i < length rs = omega (arith, ap length out, length-remove ps (i + 1) h, h) in
      read_piece rs i p few first ∙ ap (λ m. piece_at m i) out ∙ piece_removed ps i h

  sum_is : q ≡ piece_at ps i ++ piece_at ps (i + 1)
  sum_is = sum ∙ ap₂ (λ x y. x ++ y) first_is (read_piece ps (i + 1) n h next)

  pub gathered_same : joined (slice_set rs i q) ≡ joined ps
  gathered_same = ap (λ m. joined (slice_set m i q)) out ∙ merged ps i q h sum_is

  pub gathered_front : (start : List (List TypedLetter)) → KeepsFront start ps i → KeepsFront start (slice_set rs i q) i
  gathered_front start k = subst (λ m. KeepsFront start (slice_set m i q) i) (sym out) (keeps_merged start ps i q k h)

  pub gathered_within : (offset : ℕ) → offset ≤ length (piece_at ps i) → offset ≤ length (piece_at (slice_set rs i q) i)
  gathered_within offset within =
      let few : i < length rs = omega (arith, ap length out, length-remove ps (i + 1) h, h) in
      let size : length q ≡ length (piece_at ps i) + length (piece_at ps (i + 1)) = ap length sum_is ∙ length-append (piece_at ps i) (piece_at ps (i + 1)) in
      omega (arith, within, size, ap length (piece_set rs i q few))

-- where a place stands in its piece
pub place_is : (ps : List (List TypedLetter)) (i b place : ℕ) → Covers ps i b place → length (joined (take i ps)) + (place - b) ≡ place
place_is ps i b place covers = omega (arith, covers.begins.counted, covers.behind)

-- letters taken out, as the code does it: what is behind them is added to what is before them
pub taken_out : (offset : ℕ) (middle w s k r e : List TypedLetter) → offset ≤ length w → s ≡ drop offset w → s ≡ middle ++ drop (length middle) s → e ≡ k ++ r → k ≡ take offset w → r ≡ drop (length middle) s → IsWith offset middle e w
taken_out offset middle w s k r e within from begins sum front back = record {
  before = take offset w;
  behind = drop (length middle) s;
  at = sym (length-take-le offset w within);
  without = sum ∙ ap₂ (λ x y. x ++ y) front back;
  put = sym (take-append-drop offset w) ∙ ap (λ m. take offset w ++ m) (sym from ∙ begins);
}
