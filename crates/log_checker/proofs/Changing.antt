-- Loops put into a typed walk and taken out of it: the changes of the walk.
use Rattle.std.proofs.Common.{◌≡◌, ◌≢◌, ℕ, ◌<◌, ◌≤◌, true, false, List, [], ◌++◌, length, take, drop, refl, sym, ap, ap₂, ◌∙◌, subst, arith, length-append}
use Rattle.std.proofs.lemmas.List.{append-nil, take_at, drop_at}
use Rattle.tile_model.specs.declared.Letter.{Letter}
use Rattle.tile_model.specs.Tessellations.{TileKind}
use Rattle.tile_model.specs.Validity.{IsValid}
use Rattle.tile_model.specs.Walks.{type_of}
use Rattle.tile_model.specs.Relation.{IsLoop, Change, Changes, inserts, deletes}
use Rattle.tile_model.proofs.Types.{loop_type}
use Rattle.log_model.specs.Logs.{IsAllowed}
use Rattle.log_model.proofs.Changes.{one_change}
use Rattle.log_checker.specs.Footprints.{TypedLetter, typed, letters, AreTyped}
use Rattle.log_checker.specs.Trails.{IsWith}
use Rattle.log_checker.proofs.LetterTypes.{letters_append, length_letters, letters_typed, length_typed, typed_append, is_typed, typed_front, typed_behind}

module _ (kinds : List TileKind) (d : ℕ × ℕ) where
  -- of one number there is one loop
  pub one_loop : (j : ℕ) (loop other : List Letter) → IsLoop kinds d j loop → IsLoop kinds d j other → loop ≡ other
  one_loop j loop other is is' =
      let c : Change = record { at = 0; loop = j; insert = true } in
      let put : Changes kinds d c [] (loop ++ []) = inserts [] loop [] refl refl is refl refl in
      let put' : Changes kinds d c [] (other ++ []) = inserts [] other [] refl refl is' refl refl in
      sym (append-nil loop) ∙ one_change kinds d put put' ∙ append-nil other

module _ (kinds : List TileKind) (valid : IsValid kinds) (d : ℕ × ℕ) where
  -- a loop is put in
  module _ (place : ℕ) (t : ℕ × ℕ) (j : ℕ) (loop : List Letter) (is : IsLoop kinds t j loop) (u w : List TypedLetter) (h : IsWith place (typed kinds t loop) u w) where
    -- the letters before and behind
    front : List Letter
    front = letters h.before

    back : List Letter
    back = letters h.behind

    without_is : letters u ≡ front ++ back
    unfolding front back
    without_is = ap letters h.without ∙ letters_append h.before h.behind

    with_is : letters w ≡ front ++ (loop ++ back)
    unfolding front back
    with_is = ap letters h.put ∙ letters_append h.before (typed kinds t loop ++ h.behind) ∙ ap (λ m. front ++ m) (letters_append (typed kinds t loop) h.behind ∙ ap (λ m. m ++ back) (letters_typed kinds t loop))

    place_is : place ≡ length front
    unfolding front
    place_is = h.at ∙ sym (length_letters h.before)

    -- the type at the place is that behind the letters before it
    front_type : (walk rest : List Letter) → walk ≡ front ++ rest → t ≡ type_of kinds d (take place walk) → type_of kinds d front ≡ t
    front_type walk rest e at = sym (at ∙ ap (type_of kinds d) (ap (take place) e ∙ take_at front rest place (sym place_is)))

    put_changes : (c : Change) → c.at ≡ place → c.loop ≡ j → c.insert ≡ true → t ≡ type_of kinds d (take place (letters u)) → Changes kinds d c (letters u) (letters w)
    put_changes c at number insert type =
        let same = front_type (letters u) back without_is type in
        inserts front loop back insert (at ∙ place_is) (subst (λ n. IsLoop kinds (type_of kinds d front) n loop) (sym number) (subst (λ e. IsLoop kinds e j loop) (sym same) is)) without_is with_is

    take_changes : (c : Change) → c.at ≡ place → c.loop ≡ j → c.insert ≡ false → t ≡ type_of kinds d (take place (letters w)) → Changes kinds d c (letters w) (letters u)
    take_changes c at number insert type =
        let same = front_type (letters w) (loop ++ back) with_is type in
        deletes front loop back insert (at ∙ place_is) (subst (λ n. IsLoop kinds (type_of kinds d front) n loop) (sym number) (subst (λ e. IsLoop kinds e j loop) (sym same) is)) with_is without_is

    -- a loop leads back, so all behind it keeps its types
    put_typed : AreTyped kinds d u → t ≡ type_of kinds d (take place (letters u)) → AreTyped kinds d w
    unfolding front back
    put_typed m type =
        let parts : AreTyped kinds d (h.before ++ h.behind) = subst (AreTyped kinds d) h.without m in
        let same = front_type (letters u) back without_is type in
        let before : h.before ≡ typed kinds d front = typed_front kinds d h.before h.behind parts in
        let behind : h.behind ≡ typed kinds t back = typed_behind kinds d h.before h.behind parts ∙ ap (λ e. typed kinds e back) same in
        let inner : typed kinds t (loop ++ back) ≡ typed kinds t loop ++ h.behind = typed_append kinds t loop back ∙ ap (λ m. typed kinds t loop ++ m) (ap (λ e. typed kinds e back) (loop_type kinds valid t is) ∙ sym behind) in
        let whole : w ≡ typed kinds d (front ++ (loop ++ back)) = h.put ∙ ap₂ (λ a b. a ++ b) before (sym inner) ∙ ap (λ e. typed kinds d front ++ typed kinds e (loop ++ back)) (sym same) ∙ sym (typed_append kinds d front (loop ++ back)) in
        is_typed kinds d (front ++ (loop ++ back)) w whole

    take_typed : AreTyped kinds d w → t ≡ type_of kinds d (take place (letters w)) → AreTyped kinds d u
    unfolding front back
    take_typed m type =
        let parts : AreTyped kinds d (h.before ++ (typed kinds t loop ++ h.behind)) = subst (AreTyped kinds d) h.put m in
        let same = front_type (letters w) (loop ++ back) with_is type in
        let before : h.before ≡ typed kinds d front = typed_front kinds d h.before (typed kinds t loop ++ h.behind) parts in
        let middle : typed kinds t loop ++ h.behind ≡ typed kinds t (letters (typed kinds t loop ++ h.behind)) = typed_behind kinds d h.before (typed kinds t loop ++ h.behind) parts ∙ ap (λ e. typed kinds e (letters (typed kinds t loop ++ h.behind))) same in
        let behind : h.behind ≡ typed kinds t back = typed_behind kinds t (typed kinds t loop) h.behind middle ∙ ap (λ e. typed kinds e back) (ap (type_of kinds t) (letters_typed kinds t loop) ∙ loop_type kinds valid t is) in
        let whole : u ≡ typed kinds d (front ++ back) = h.without ∙ ap₂ (λ a b. a ++ b) before behind ∙ ap (λ e. typed kinds d front ++ typed kinds e back) (sym same) ∙ sym (typed_append kinds d front back) in
        is_typed kinds d (front ++ back) u whole

module _ (kinds : List TileKind) (d : ℕ × ℕ) where
  -- a loop that is allowed to be deleted follows
  follows : (c : Change) (t : ℕ × ℕ) (loop v : List Letter) (w : List TypedLetter) → AreTyped kinds d w → c.insert ≡ false → t ≡ type_of kinds d (take c.at (letters w)) → IsLoop kinds t c.loop loop → Changes kinds d c (letters w) v → take (length (typed kinds t loop)) (drop c.at w) ≡ typed kinds t loop
  follows c t loop v w m delete type is (inserts before l behind insert at is' from to) = absurd (cc (delete, insert))
  follows c t loop v w m delete type is (deletes before l behind insert at is' from to) =
      let front : take c.at (letters w) ≡ before = ap (take c.at) from ∙ take_at before (l ++ behind) c.at (sym at) in
      let same : type_of kinds d before ≡ t = sym (type ∙ ap (type_of kinds d) front) in
      let one : l ≡ loop = one_loop kinds t c.loop l loop (subst (λ e. IsLoop kinds e c.loop l) same is') is in
      let rest = typed kinds (type_of kinds t loop) behind in
      let whole : w ≡ typed kinds d before ++ (typed kinds t loop ++ rest) = m ∙ ap (typed kinds d) from ∙ typed_append kinds d before (l ++ behind) ∙ ap₂ (λ e k. typed kinds d before ++ typed kinds e (k ++ behind)) same one ∙ ap (λ k. typed kinds d before ++ k) (typed_append kinds t loop behind) in
      let size : length (typed kinds d before) ≡ c.at = length_typed kinds d before ∙ sym at in
      ap (λ k. take (length (typed kinds t loop)) (drop c.at k)) whole ∙ ap (take (length (typed kinds t loop))) (drop_at (typed kinds d before) (typed kinds t loop ++ rest) c.at size) ∙ take_at (typed kinds t loop) rest (length (typed kinds t loop)) refl

  not_followed : (c : Change) (t : ℕ × ℕ) (loop : List Letter) (w : List TypedLetter) → AreTyped kinds d w → c.insert ≡ false → t ≡ type_of kinds d (take c.at (letters w)) → IsLoop kinds t c.loop loop → take (length (typed kinds t loop)) (drop c.at w) ≢ typed kinds t loop → ¬ (IsAllowed kinds d c (letters w))
  not_followed c t loop w m delete type is not_there allowed = not_there (follows c t loop allowed.0 w m delete type is allowed.1)

  place_within : (c : Change) (u v : List Letter) → Changes kinds d c u v → c.at ≤ length u
  place_within c u v (inserts before loop behind insert at is from to) = omega (arith, at, ap length from, length-append before behind)
  place_within c u v (deletes before loop behind delete at is from to) = omega (arith, at, ap length from, length-append before (loop ++ behind))

  -- no change is allowed past the end
  pub not_past : (c : Change) (u : List Letter) → length u < c.at → ¬ (IsAllowed kinds d c u)
  not_past c u past allowed = let within = place_within c u allowed.0 allowed.1 in omega (arith, past, within)

  loop_there : (c : Change) (u v : List Letter) → Changes kinds d c u v → (loop : List Letter) × IsLoop kinds (type_of kinds d (take c.at u)) c.loop loop
  loop_there c u v (inserts before loop behind insert at is from to) =
      let front : before ≡ take c.at u = sym (ap (take c.at) from ∙ take_at before behind c.at (sym at)) in
      (loop, subst (λ b. IsLoop kinds (type_of kinds d b) c.loop loop) front is)
  loop_there c u v (deletes before loop behind delete at is from to) =
      let front : before ≡ take c.at u = sym (ap (take c.at) from ∙ take_at before (loop ++ behind) c.at (sym at)) in
      (loop, subst (λ b. IsLoop kinds (type_of kinds d b) c.loop loop) front is)

  -- nor one whose loop is none of the five
  pub not_without_loop : (c : Change) (u : List Letter) (t : ℕ × ℕ) (n : ℕ) → n ≡ c.loop → t ≡ type_of kinds d (take c.at u) → ((loop : List Letter) → ¬ (IsLoop kinds t n loop)) → ¬ (IsAllowed kinds d c u)
  not_without_loop c u t n number type none allowed =
      let there = loop_there c u allowed.0 allowed.1 in
      none there.0 (subst (λ e. IsLoop kinds e n there.0) (sym type) (subst (λ k. IsLoop kinds (type_of kinds d (take c.at u)) k there.0) (sym number) there.1))

-- What the code puts in and takes out is a change, and what it does not find is none.
module _ (kinds : List TileKind) (valid : IsValid kinds) (d : ℕ × ℕ) (c : Change) (place : ℕ) (t : ℕ × ℕ) (n : ℕ) (loop : List Letter) (middle u w : List TypedLetter) (at : place ≡ c.at) (number : n ≡ c.loop) (middle_is : middle ≡ typed kinds t loop) (is : IsLoop kinds t n loop) where
  -- the same in the words of the change
  put_there : IsWith place middle u w → IsWith c.at (typed kinds t loop) u w
  put_there h = subst (λ m. IsWith c.at m u w) middle_is (subst (λ k. IsWith k middle u w) at h)

  is_loop : IsLoop kinds t c.loop loop
  is_loop = subst (λ k. IsLoop kinds t k loop) number is

  pub put_keeps : t ≡ type_of kinds d (take c.at (letters u)) → AreTyped kinds d u → IsWith place middle u w → AreTyped kinds d w
  put_keeps type m h = put_typed kinds valid d c.at t c.loop loop is_loop u w (put_there h) m type

  pub put_is_change : t ≡ type_of kinds d (take c.at (letters u)) → c.insert ≡ true → IsWith place middle u w → Changes kinds d c (letters u) (letters w)
  put_is_change type insert h = put_changes kinds valid d c.at t c.loop loop is_loop u w (put_there h) c refl refl insert type

  pub take_keeps : t ≡ type_of kinds d (take c.at (letters w)) → AreTyped kinds d w → IsWith place middle u w → AreTyped kinds d u
  take_keeps type m h = take_typed kinds valid d c.at t c.loop loop is_loop u w (put_there h) m type

  pub take_is_change : t ≡ type_of kinds d (take c.at (letters w)) → c.insert ≡ false → IsWith place middle u w → Changes kinds d c (letters w) (letters u)
  take_is_change type delete h = take_changes kinds valid d c.at t c.loop loop is_loop u w (put_there h) c refl refl delete type

  pub not_there_not_allowed : t ≡ type_of kinds d (take c.at (letters w)) → AreTyped kinds d w → c.insert ≡ false → take (length middle) (drop place w) ≢ middle → ¬ (IsAllowed kinds d c (letters w))
  not_there_not_allowed type m delete none =
      not_followed kinds d c t loop w m delete type is_loop (subst (λ k. take (length k) (drop c.at w) ≢ k) middle_is (subst (λ k. take (length middle) (drop k w) ≢ middle) at none))
