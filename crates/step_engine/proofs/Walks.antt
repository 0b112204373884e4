-- Walks of a detour, letter by letter.
use Rattle.std.specs.Prelude.{Result, Ok, Err, IsErrAnd, IsErrOf}
use Rattle.std.proofs.Common.{◌≡◌, ℕ, ◌+◌, ◌<◌, ◌≤◌, List, [], ◌∷◌, ◌++◌, length, take, drop, slice_index_or, refl, sym, ap, ◌∙◌, subst, arith, append_assoc, take-append-drop, take_all}
use Rattle.std.proofs.lemmas.List.{take_more, drop_more, same_from_push}
use Rattle.tile_model.specs.declared.Letter.{Letter}
use Rattle.tile_model.specs.declared.Letter.TheVariants.{X}
use Rattle.structure_check.specs.Rules.{TreeRules, AreSound}
use Rattle.tree_model.specs.Positions.{Position, LiesAcross, Leads, Moves, root}
use Rattle.tree_model.specs.Places.{IsPlace}
use Rattle.tree_model.proofs.Names.{LastView, empty, last, last_view}
use Rattle.spot_laws.specs.Spots.{TreeSpot, IsSpot, position, root_kind}
use Rattle.tree_laws.proofs.Closure.{across_same}
use Rattle.tree_laws.proofs.Walking.{leads_append, leads_split, leads_same}
use Rattle.tree_laws.proofs.Places.{place_leads, leads_place}
use Rattle.step_engine.specs.declared.detour.Detour.{Detour}
use Rattle.step_engine.specs.Crossings.{IsAcross, WalkLeadsTo, StandsAfter, IsDeepAcross, CrossesDeep, WalksDeep}
use Rattle.step_engine.specs.Detours.{IsDetour, HasReached, HasCrossed, HasStepped, FacesDeep, spot_there, there}

-- a fault that is handed on is the same
pub same_fault : {T E : Type 0} (r : Result T E) (e x : E) → IsErrAnd r (λ y. y ≡ e) → IsErrOf r x → e ≡ x
same_fault (Ok t) e x is of = absurd is
same_fault (Err y) e x is of = let f : y ≡ x = cc in sym is ∙ f

-- The detour is where the walk leads from the spot, and no crossing on the way arrived at a name of more than `most` sides.
pub record HasWalked (r : TreeRules) (s : TreeSpot) (w : List Letter) (most : ℕ) (d : Detour) : Type 0 where
  pub detour : IsDetour r s d
  pub leads : WalkLeadsTo r s w (there s d)
  pub near : (before behind : List Letter) (q : Position) → w ≡ before ++ X ∷ behind → WalkLeadsTo r s (before ++ X ∷ []) q → length q.name ≤ most

pub walked_none : (r : TreeRules) (s : TreeSpot) (most : ℕ) (d : Detour) → HasReached r s (position s) d → HasWalked r s [] most d
walked_none r s most d h = record { detour = h.detour; leads = sym h.arrives; near = λ before behind q e g. absurd (nothing before behind e) }
  where
    nothing : (before behind : List Letter) → [] ≡ before ++ X ∷ behind → ⊥
    nothing [] behind e = absurd (cc)
    nothing (x ∷ before) behind e = absurd (cc)

module _ (r : TreeRules) (sound : AreSound r) (s : TreeSpot) (spot : IsSpot r s) where
  abbrev Go : Position → List Letter → Position → Type 0
  Go = Leads r.kinds r.automaton (root_kind r s)

  -- one letter more
  pub walked_more : (w : List Letter) (x : Letter) (most : ℕ) (d d' : Detour) → HasWalked r s w most d → HasStepped r s d x most d' → HasWalked r s (w ++ x ∷ []) most d'
  walked_more w x most d d' h t = record {
    detour = t.detour;
    leads = leads_append r.kinds r.automaton (root_kind r s) w (x ∷ []) (position s) (there s d) (there s d') h.leads (there s d', t.moves, refl);
    near = λ before behind q e g. near before behind (last_view behind) q e g;
  }
    where
      near : (before behind : List Letter) → LastView behind → (q : Position) → w ++ x ∷ [] ≡ before ++ X ∷ behind → WalkLeadsTo r s (before ++ X ∷ []) q → length q.name ≤ most
      near before _ empty q e g =
          let same = same_from_push w before x X e in
          let f = leads_split r.kinds r.automaton (root_kind r s) before (X ∷ []) (position s) q g in
          let m : f.0 ≡ there s d = leads_same r.kinds r.automaton (root_kind r s) sound.valid sound.accepted spot.known w (position s) f.0 (there s d) (subst (λ u. Go (position s) u f.0) (sym same.0) f.1) h.leads in
          let moved : Moves r.kinds r.automaton (root_kind r s) X (there s d) (there s d') = subst (λ y. Moves r.kinds r.automaton (root_kind r s) y (there s d) (there s d')) same.1 t.moves in
          let step = f.2 in
          let one = across_same r.kinds r.automaton (root_kind r s) sound.valid sound.accepted spot.known (there s d) step.0 (there s d') (subst (λ p. LiesAcross r.kinds r.automaton (root_kind r s) p step.0) m step.1) moved in
          omega (arith, t.near same.1, ap (λ (p : Position). length p.name) (sym step.2 ∙ one))
      near before _ (last l y) q e g =
          let same = same_from_push w (before ++ X ∷ l) x y (e ∙ sym (append_assoc before (X ∷ l) (y ∷ []))) in
          h.near before l q same.0 g

  -- a letter at which the walk comes too deep
  pub walked_deep : (u : List Letter) (behind w : List Letter) (most : ℕ) (d : Detour) → w ≡ u ++ X ∷ behind → HasWalked r s u most d → IsDeepAcross r (root_kind r s) (there s d) most → WalksDeep r s w most
  walked_deep u behind w most d e h f = record {
    before = u;
    behind = behind;
    split = e;
    there = f.there;
    leads = leads_append r.kinds r.automaton (root_kind r s) u (X ∷ []) (position s) (there s d) f.there h.leads (f.there, f.across, refl);
    deep = f.deep;
  }

  -- the next letter of a walk
  pub walked_next : (w : List Letter) (i : ℕ) (x : Letter) (most : ℕ) (d d' : Detour) → i < length w → HasWalked r s (take i w) most d → HasStepped r s d (slice_index_or w i x) most d' → HasWalked r s (take (i + 1) w) most d'
  walked_next w i x most d d' l h t = subst (λ u. HasWalked r s u most d') (sym (take_more w i x l)) (walked_more (take i w) (slice_index_or w i x) most d d' h t)

  pub deep_next : (w : List Letter) (i : ℕ) (x : Letter) (most : ℕ) (d : Detour) → i < length w → HasWalked r s (take i w) most d → slice_index_or w i x ≡ X → IsDeepAcross r (root_kind r s) (there s d) most → WalksDeep r s w most
  deep_next w i x most d l h e f =
      let split : w ≡ take i w ++ X ∷ drop (i + 1) w = sym (take-append-drop i w) ∙ ap (λ m. take i w ++ m) (drop_more w i x l ∙ ap (λ y. y ∷ drop (i + 1) w) e) in
      walked_deep (take i w) (drop (i + 1) w) w most d split h f

  -- the only position to which a walk leads
  pub walked_only : (w : List Letter) (most : ℕ) (d : Detour) (t : TreeSpot) → HasWalked r s w most d → t ≡ spot_there s d → (q : Position) → WalkLeadsTo r s w q → position t ≡ q
  walked_only w most d t h e q g = ap position e ∙ leads_same r.kinds r.automaton (root_kind r s) sound.valid sound.accepted spot.known w (position s) (there s d) q h.leads g

  -- the place of a walk before, followed by this one
  pub walked_place : (u w : List Letter) (most : ℕ) (d : Detour) (t : TreeSpot) → HasWalked r s w most d → t ≡ spot_there s d → StandsAfter r s u → StandsAfter r t (u ++ w)
  walked_place u w most d t h e b =
      let before = place_leads r.kinds r.automaton (root_kind r s) sound.valid sound.accepted spot.known u (position s) b in
      let whole = leads_append r.kinds r.automaton (root_kind r s) u w root (position s) (there s d) before h.leads in
      let place = leads_place r.kinds r.automaton (root_kind r s) sound.valid sound.accepted spot.known (u ++ w) (there s d) whole in
      let home : StandsAfter r (spot_there s d) (u ++ w) = subst (λ k. IsPlace r.kinds r.automaton k (u ++ w) (there s d)) (sym h.detour.tree) place in
      subst (λ x. StandsAfter r x (u ++ w)) (sym e) home

  -- the only position across
  pub crossed_only : (d0 d : Detour) (t : TreeSpot) → HasReached r s (position s) d0 → HasCrossed r s d0 d → t ≡ spot_there s d → (q : Position) → IsAcross r s q → position t ≡ q
  crossed_only d0 d t b h e q g =
      let a : IsAcross r s (there s d) = subst (λ p. LiesAcross r.kinds r.automaton (root_kind r s) p (there s d)) b.arrives h.across in
      ap position e ∙ across_same r.kinds r.automaton (root_kind r s) sound.valid sound.accepted spot.known (position s) (there s d) q a g

  pub crossed_near : (most : ℕ) (d0 d : Detour) → HasReached r s (position s) d0 → HasCrossed r s d0 d → length (there s d).name ≤ most → CrossesDeep r s most → ⊥
  crossed_near most d0 d b h n f =
      let e = crossed_only d0 d (spot_there s d) b h refl f.there f.across in
      omega (arith, n, f.deep, ap (λ (p : Position). length p.name) e)

  -- a walk that was gone comes too deep nowhere
  pub walked_near : (w : List Letter) (most : ℕ) (d : Detour) → HasWalked r s w most d → WalksDeep r s w most → ⊥
  walked_near w most d h f = absurd (omega (arith, h.near f.before f.behind f.there f.split f.leads, f.deep))

-- A detour is on a walk, by a crossing whose rules are those that it had when the walk began.
pub record Walking (r now : TreeRules) (s : TreeSpot) (w : List Letter) (most : ℕ) (d : Detour) : Type 0 where
  pub same : now ≡ r
  pub walked : HasWalked r s w most d

module _ (r : TreeRules) (s : TreeSpot) (spot : IsSpot r s) (most : ℕ) where
  pub walking_starts : (told : TreeRules) (d : Detour) → told ≡ r → HasReached told s (position s) d → Walking r r s [] most d
  walking_starts told d e h = record { same = refl; walked = walked_none r s most d (subst (λ q. HasReached q s (position s) d) e h) }

  pub walking_on : (before after : TreeRules) (w : List Letter) (i : ℕ) (x : Letter) (d d' : Detour) → i < length w → Walking r before s (take i w) most d → after ≡ before → HasStepped before s d (slice_index_or w i x) most d' → Walking r after s (take (i + 1) w) most d'
  walking_on before after w i x d d' l h e t = record {
    same = e ∙ h.same;
    walked = walked_next r h.walked.detour.sound s spot w i x most d d' l h.walked (subst (λ q. HasStepped q s d (slice_index_or w i x) most d') h.same t);
  }

  pub walking_deep : (before : TreeRules) (w : List Letter) (i : ℕ) (x : Letter) (d : Detour) → i < length w → Walking r before s (take i w) most d → slice_index_or w i x ≡ X → FacesDeep before s d most → WalksDeep r s w most
  walking_deep before w i x d l h e f = deep_next r h.walked.detour.sound s spot w i x most d l h.walked e (subst (λ q. FacesDeep q s d most) h.same f)

  -- the whole walk is gone
  pub walking_whole : (now : TreeRules) (w items : List Letter) (i : ℕ) (d : Detour) → length items ≤ i → items ≡ w → Walking r now s (take i items) most d → HasWalked r s w most d
  walking_whole now w items i d end e h = subst (λ u. HasWalked r s u most d) (take_all i items end ∙ e) h.walked
