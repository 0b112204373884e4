-- A detour on a walk of which some is still to go, a crossing or several turns at a time.
use Rattle.std.proofs.Common.{◌≡◌, ℕ, zero, suc, ◌+◌, ◌<◌, ◌≤◌, List, [], ◌∷◌, ◌++◌, length, replicate, slice_index_or, drop, refl, sym, ap, ◌∙◌, subst, append_assoc, append-nil}
use Rattle.std.proofs.lemmas.List.{drop_more}
use Rattle.tile_model.specs.declared.Letter.{Letter}
use Rattle.tile_model.specs.declared.Letter.TheVariants.{L, R, X}
use Rattle.tile_model.specs.Walks.{inverse}
use Rattle.tile_model.proofs.Inverses.{inverse_append}
use Rattle.tree_model.specs.Names.{word}
use Rattle.tree_laws.proofs.Words.{word_push}
use Rattle.tree_laws.proofs.Shortest.{inverse_lefts}
use Rattle.tree_laws.proofs.Walking.{leads_append}
use Rattle.structure_check.specs.Rules.{TreeRules, AreSound}
use Rattle.spot_laws.specs.Spots.{TreeSpot, IsSpot, position, root_kind}
use Rattle.step_engine.specs.declared.detour.Detour.{Detour}
use Rattle.step_engine.specs.Crossings.{WalksDeep}
use Rattle.step_engine.specs.Detours.{HasReached, HasCrossed, HasTurned, FacesDeep, there}
use Rattle.step_engine.proofs.Walks.{HasWalked, walked_none, walked_more, walked_deep}

-- The detour has gone the walk, but for these letters.
pub record IsUnderway (r : TreeRules) (s : TreeSpot) (whole rest : List Letter) (most : ℕ) (d : Detour) : Type 0 where
  pub gone : List Letter
  pub split : gone ++ rest ≡ whole
  pub walked : HasWalked r s gone most d

-- a crossing among letters behind which there are turns alone is one of those letters
record Crosses (u before : List Letter) : Type 0 where
  behind : List Letter
  split : u ≡ before ++ X ∷ behind

no_turn : (x : Letter) (i : ℕ) (before behind : List Letter) → (x ≡ X → ⊥) → replicate i x ≡ before ++ X ∷ behind → ⊥
no_turn x zero [] behind other e = absurd (cc)
no_turn x zero (y ∷ before) behind other e = absurd (cc)
no_turn x (suc i) [] behind other e = other (cc (e))
no_turn x (suc i) (y ∷ before) behind other e = no_turn x i before behind other (cc (e))

before_turns : (u : List Letter) (x : Letter) (i : ℕ) (before behind : List Letter) → (x ≡ X → ⊥) → u ++ replicate i x ≡ before ++ X ∷ behind → Crosses u before
before_turns [] x i before behind other e = absurd (no_turn x i before behind other e)
before_turns (y ∷ u) x i [] behind other e = let f : y ≡ X = cc (e) in record { behind = u; split = ap (λ z. z ∷ u) f }
before_turns (y ∷ u) x i (z ∷ before) behind other e =
    let f : y ≡ z = cc (e) in
    let on = before_turns u x i before behind other (cc (e)) in
    record { behind = on.behind; split = ap (λ v. y ∷ v) on.split ∙ ap (λ c. c ∷ (before ++ X ∷ on.behind)) f }

-- the way back along a name begins with its last side
word_back : (m : List ℕ) (i : ℕ) → inverse (word (m ++ i ∷ [])) ≡ X ∷ (replicate i R ++ inverse (word m))
word_back m i =
    ap inverse (word_push m i) ∙ inverse_append (word m) (replicate i L ++ X ∷ [])
    ∙ ap (λ l. l ++ inverse (word m)) (inverse_append (replicate i L) (X ∷ []) ∙ ap (λ l. X ∷ l) (inverse_lefts i))

-- the letters of the way back along a position and then along a name: first the turns
turns_first : (back onwards : List ℕ) (spin : ℕ) → inverse (word back ++ replicate spin L) ++ word onwards ≡ replicate spin R ++ (inverse (word back) ++ word onwards)
turns_first back onwards spin =
    ap (λ l. l ++ word onwards) (inverse_append (word back) (replicate spin L) ∙ ap (λ l. l ++ inverse (word back)) (inverse_lefts spin))
    ∙ append_assoc (replicate spin R) (inverse (word back)) (word onwards)

-- then from the last side of the name on
last_first : (rest before onwards : List ℕ) (i : ℕ) → rest ≡ before ++ i ∷ [] → inverse (word rest) ++ word onwards ≡ X ∷ (replicate i R ++ (inverse (word before) ++ word onwards))
last_first rest before onwards i e =
    ap (λ m. inverse (word m) ++ word onwards) e ∙ ap (λ l. l ++ word onwards) (word_back before i)
    ∙ ap (λ l. X ∷ l) (append_assoc (replicate i R) (inverse (word before)) (word onwards))

-- and along the other name from its first side on
side_first : (name : List ℕ) (i x : ℕ) → i < length name → word (drop i name) ≡ replicate (slice_index_or name i x) L ++ X ∷ word (drop (i + 1) name)
side_first name i x h = ap word (drop_more name i x h)

left_no_crossing : L ≡ X → ⊥
left_no_crossing e = absurd (cc)

right_no_crossing : R ≡ X → ⊥
right_no_crossing e = absurd (cc)

module _ (r : TreeRules) (sound : AreSound r) (s : TreeSpot) (spot : IsSpot r s) (most : ℕ) where
  underway_starts : (whole : List Letter) (d : Detour) → HasReached r s (position s) d → IsUnderway r s whole whole most d
  underway_starts whole d h = record { gone = []; split = refl; walked = walked_none r s most d h }

  underway_turns : (whole rest : List Letter) (x : Letter) (i : ℕ) (d d' : Detour) → (x ≡ X → ⊥) → IsUnderway r s whole (replicate i x ++ rest) most d → HasTurned r s d x i d' → IsUnderway r s whole rest most d'
  underway_turns whole rest x i d d' other h t = record {
    gone = h.gone ++ replicate i x;
    split = append_assoc h.gone (replicate i x) rest ∙ h.split;
    walked = record {
      detour = t.detour;
      leads = leads_append r.kinds r.automaton (root_kind r s) h.gone (replicate i x) (position s) (there s d) (there s d') h.walked.leads t.leads;
      near = λ before behind q e g. let c = before_turns h.gone x i before behind other e in h.walked.near before c.behind q c.split g;
    };
  }

  underway_crosses : (whole rest : List Letter) (d d' : Detour) → IsUnderway r s whole (X ∷ rest) most d → HasCrossed r s d d' → length (there s d').name ≤ most → IsUnderway r s whole rest most d'
  underway_crosses whole rest d d' h c near = record {
    gone = h.gone ++ X ∷ [];
    split = append_assoc h.gone (X ∷ []) rest ∙ h.split;
    walked = walked_more r sound s spot h.gone X most d d' h.walked (record { detour = c.detour; moves = c.across; near = λ e. near });
  }

  underway_deep : (whole rest : List Letter) (d : Detour) → IsUnderway r s whole (X ∷ rest) most d → FacesDeep r s d most → WalksDeep r s whole most
  underway_deep whole rest d h f = walked_deep r sound s spot h.gone rest whole most d (sym h.split) h.walked f

  pub underway_ends : (whole : List Letter) (d : Detour) → IsUnderway r s whole [] most d → HasWalked r s whole most d
  underway_ends whole d h = subst (λ w. HasWalked r s w most d) (sym (append-nil h.gone) ∙ h.split) h.walked

  -- The walk from the spot back along a position, and then along a name.
  pub starts_back : (back onwards : List ℕ) (spin : ℕ) (d d' : Detour) → HasReached r s (position s) d → HasTurned r s d R spin d' → IsUnderway r s (inverse (word back ++ replicate spin L) ++ word onwards) (inverse (word back) ++ word onwards) most d'
  starts_back back onwards spin d d' h t =
      let whole : List Letter = inverse (word back ++ replicate spin L) ++ word onwards in
      let start = subst (λ w. IsUnderway r s whole w most d) (turns_first back onwards spin) (underway_starts whole d h) in
      underway_turns whole (inverse (word back) ++ word onwards) R spin d d' right_no_crossing start t

  module _ (whole : List Letter) where
    module _ (rest before onwards : List ℕ) (i : ℕ) (e : rest ≡ before ++ i ∷ []) (d : Detour) (h : IsUnderway r s whole (inverse (word rest) ++ word onwards) most d) where
      faces_last : IsUnderway r s whole (X ∷ (replicate i R ++ (inverse (word before) ++ word onwards))) most d
      faces_last = subst (λ w. IsUnderway r s whole w most d) (last_first rest before onwards i e) h

      pub back_deep : FacesDeep r s d most → WalksDeep r s whole most
      back_deep f = underway_deep whole (replicate i R ++ (inverse (word before) ++ word onwards)) d faces_last f

      pub back_on : (d' d'' : Detour) → HasCrossed r s d d' → length (there s d').name ≤ most → HasTurned r s d' R i d'' → IsUnderway r s whole (inverse (word before) ++ word onwards) most d''
      back_on d' d'' c near t =
          let crossed = underway_crosses whole (replicate i R ++ (inverse (word before) ++ word onwards)) d d' faces_last c near in
          underway_turns whole (inverse (word before) ++ word onwards) R i d' d'' right_no_crossing crossed t

    module _ (name : List ℕ) (i x : ℕ) (within : i < length name) (d d' : Detour) (h : IsUnderway r s whole (word (drop i name)) most d) (t : HasTurned r s d L (slice_index_or name i x) d') where
      faces_first : IsUnderway r s whole (X ∷ word (drop (i + 1) name)) most d'
      faces_first =
          let turning = subst (λ w. IsUnderway r s whole w most d) (side_first name i x within) h in
          underway_turns whole (X ∷ word (drop (i + 1) name)) L (slice_index_or name i x) d d' left_no_crossing turning t

      pub onwards_deep : FacesDeep r s d' most → WalksDeep r s whole most
      onwards_deep f = underway_deep whole (word (drop (i + 1) name)) d' faces_first f

      pub onwards_on : (d'' : Detour) → HasCrossed r s d' d'' → length (there s d'').name ≤ most → IsUnderway r s whole (word (drop (i + 1) name)) most d''
      onwards_on d'' c near = underway_crosses whole (word (drop (i + 1) name)) d' d'' faces_first c near
