-- Walks over the positions of the tree: each leads to one position, each loop leads back, and related walks lead to one position.
use Rattle.std.proofs.Common.{◌≡◌, ℕ, zero, suc, ◌+◌, ◌-◌, ◌<◌, List, [], ◌∷◌, ◌++◌, length, replicate, refl, sym, ap, ◌∙◌, subst, arith}
use Rattle.std.proofs.lemmas.List.{replicate-append-replicate}
use Rattle.tile_model.specs.declared.Letter.{Letter}
use Rattle.tile_model.specs.declared.Letter.TheVariants.{L, R, X}
use Rattle.tile_model.specs.Tessellations.{TileKind, left, right, sides}
use Rattle.tile_model.specs.Validity.{IsValid}
use Rattle.tile_model.specs.Walks.{step, type_of}
use Rattle.tile_model.specs.Relation.{IsLoop, there_and_back, left_and_right, right_and_left, full_turn, AreRelated}
use Rattle.tile_model.specs.Relation as loops
use Rattle.tile_model.proofs.Types as types
use Rattle.tile_model.proofs.Relations.{related_holds}
use Rattle.tree_model.specs.Automata.{TreeAutomaton, side_count, type_at, next}
use Rattle.tree_model.specs.Conditions.{IsAccepted}
use Rattle.tree_model.specs.Names.{state_of}
use Rattle.tree_model.specs.Positions.{Position, IsPosition, turn_left, turn_right, type_of_side, Moves, Leads}
use Rattle.tree_model.proofs.Sides.{next_last, next_inner}
use Rattle.tree_model.proofs.Positions.{make_position, right_left, left_right, left_position, right_position, turned_type}
use Rattle.tree_laws.proofs.Closure.{across, across_same, across_position, across_back, across_types, round_corner}

module _ (kinds : List TileKind) (a : TreeAutomaton) (k : ℕ) where
  abbrev Go : Position → List Letter → Position → Type 0
  Go = Leads kinds a k

  -- a walk in two parts
  pub leads_append : (u w : List Letter) (p q r : Position) → Go p u q → Go q w r → Go p (u ++ w) r
  leads_append [] w p q r e g = subst (λ x. Go x w r) (sym e) g
  leads_append (x ∷ u) w p q r f g = (f.0, f.1, leads_append u w f.0 q r f.2 g)

  pub leads_split : (u w : List Letter) (p r : Position) → Go p (u ++ w) r → (m : Position) × Go p u m × Go m w r
  leads_split [] w p r f = (p, refl, f)
  leads_split (x ∷ u) w p r f = let s = leads_split u w f.0 r f.2 in (s.0, (f.0, f.1, s.1), s.2)

  -- i letters L, within the tile
  pub lefts_lead : (i : ℕ) (m : List ℕ) (j : ℕ) → j + i < side_count kinds a (state_of a k m) → Go (make_position m j) (replicate i L) (make_position m (j + i))
  lefts_lead zero m j h = let e : j ≡ j + 0 = omega arith in ap (make_position m) e
  lefts_lead (suc i) m j h =
      let e : next (side_count kinds a (state_of a k m)) j ≡ suc j = next_inner (side_count kinds a (state_of a k m)) j (omega arith) in
      let f : suc j + i ≡ j + suc i = omega arith in
      (make_position m (suc j), ap (make_position m) e, subst (λ s. Go (make_position m (suc j)) (replicate i L) (make_position m s)) f (lefts_lead i m (suc j) (omega arith)))

  -- from the first side
  pub lefts_from_first : (m : List ℕ) (i : ℕ) → i < side_count kinds a (state_of a k m) → Go (make_position m 0) (replicate i L) (make_position m i)
  lefts_from_first m i h =
      let z : 0 + i ≡ i = omega arith in
      subst (λ s. Go (make_position m 0) (replicate i L) (make_position m s)) z (lefts_lead i m 0 (omega (arith, h)))

  -- past the last side
  pub lefts_over : (m : List ℕ) (i j : ℕ) → i < side_count kinds a (state_of a k m) → j < side_count kinds a (state_of a k m) → Go (make_position m i) (replicate (side_count kinds a (state_of a k m) - suc i + suc j) L) (make_position m j)
  lefts_over m i j hi hj =
      let n = side_count kinds a (state_of a k m) in
      let r = n - suc i in
      let e : suc (i + r) ≡ n = omega (arith, hi) in
      let wrap : turn_left kinds a k (make_position m (i + r)) ≡ make_position m 0 = ap (make_position m) (next_last n (i + r) e) in
      let on : Go (make_position m (i + r)) (replicate (suc j) L) (make_position m j) = (make_position m 0, wrap, lefts_from_first m j hj) in
      let whole = leads_append (replicate r L) (replicate (suc j) L) (make_position m i) (make_position m (i + r)) (make_position m j) (lefts_lead r m i (omega (arith, hi))) on in
      subst (λ w. Go (make_position m i) w (make_position m j)) (replicate-append-replicate r (suc j) L) whole

  -- round the tile
  pub full_turn_leads : (p : Position) → IsPosition kinds a k p → Go p (replicate (side_count kinds a (state_of a k p.name)) L) p
  full_turn_leads p h =
      let n = side_count kinds a (state_of a k p.name) in
      let e : n - suc p.side + suc p.side ≡ n = omega (arith, h.side) in
      subst (λ i. Go p (replicate i L) p) e (lefts_over p.name p.side p.side h.side h.side)

  -- letters L stay at the tile
  pub lefts_stay : (i : ℕ) (p q : Position) → Go p (replicate i L) q → q.name ≡ p.name
  lefts_stay zero p q e = ap (λ p. p.name) (sym e)
  lefts_stay (suc i) p q f = lefts_stay i f.0 q f.2 ∙ ap (λ p. p.name) (sym f.1)

  -- the number of sides is told by the type
  pub sides_of_type : (p : Position) → side_count kinds a (state_of a k p.name) ≡ sides kinds (type_of_side kinds a k p)
  unfolding side_count type_at
  sides_of_type p = refl

module _ (kinds : List TileKind) (a : TreeAutomaton) (k : ℕ) (valid : IsValid kinds) (ok : IsAccepted kinds a) (known : k < length kinds) where
  abbrev There : Position → Type 0
  There = IsPosition kinds a k

  abbrev T : Position → ℕ × ℕ
  T = type_of_side kinds a k

  -- one letter
  pub moves_position : (x : Letter) (p q : Position) → There p → Moves kinds a k x p q → There q
  moves_position L p q h e = subst There e (left_position kinds a k p h)
  moves_position R p q h e = subst There e (right_position kinds a k p h)
  moves_position X p q h c = across_position kinds a k valid ok known p q h c

  moves_on : (x : Letter) (p : Position) → There p → (q : Position) × Moves kinds a k x p q
  moves_on L p h = (turn_left kinds a k p, refl)
  moves_on R p h = (turn_right kinds a k p, refl)
  moves_on X p h = let c = across kinds a k valid ok known p h in (c.0, c.2)

  moves_same : (x : Letter) (p q r : Position) → Moves kinds a k x p q → Moves kinds a k x p r → q ≡ r
  moves_same L p q r e f = sym e ∙ f
  moves_same R p q r e f = sym e ∙ f
  moves_same X p q r c d = across_same kinds a k valid ok known p q r c d

  right_type : (p : Position) → There p → T (turn_right kinds a k p) ≡ right kinds (T p)
  right_type p h =
      let q = turn_right kinds a k p in
      let e : T p ≡ left kinds (T q) = ap T (sym (left_right kinds a k p h)) ∙ turned_type kinds a k valid ok known q (right_position kinds a k p h) in
      sym (types.right_left kinds valid (T q)) ∙ ap (right kinds) (sym e)

  pub moves_type : (x : Letter) (p q : Position) → There p → Moves kinds a k x p q → T q ≡ step kinds (T p) x
  moves_type L p q h e = ap T (sym e) ∙ turned_type kinds a k valid ok known p h
  moves_type R p q h e = ap T (sym e) ∙ right_type p h
  moves_type X p q h c = across_types kinds a k valid ok known p q h c

  -- a walk leads from a position to a position, of the type of the walk
  pub leads_position : (w : List Letter) (p q : Position) → There p → Leads kinds a k p w q → There q
  leads_position [] p q h e = subst There e h
  leads_position (x ∷ w) p q h f = leads_position w f.0 q (moves_position x p f.0 h f.1) f.2

  pub leads_on : (w : List Letter) (p : Position) → There p → (q : Position) × Leads kinds a k p w q
  leads_on [] p h = (p, refl)
  leads_on (x ∷ w) p h =
      let (m, f) = moves_on x p h in
      let (q, g) = leads_on w m (moves_position x p m h f) in
      (q, (m, f, g))

  pub leads_same : (w : List Letter) (p q r : Position) → Leads kinds a k p w q → Leads kinds a k p w r → q ≡ r
  leads_same [] p q r e f = sym e ∙ f
  leads_same (x ∷ w) p q r f g =
      let e = moves_same x p f.0 g.0 f.1 g.1 in
      leads_same w f.0 q r f.2 (subst (λ m. Leads kinds a k m w r) (sym e) g.2)

  pub leads_type : (w : List Letter) (p q : Position) → There p → Leads kinds a k p w q → T q ≡ type_of kinds (T p) w
  leads_type [] p q h e = ap T (sym e)
  leads_type (x ∷ w) p q h f = leads_type w f.0 q (moves_position x p f.0 h f.1) f.2 ∙ ap (λ d. type_of kinds d w) (moves_type x p f.0 h f.1)

  -- each loop leads each position back to itself
  pub loop_leads : (p : Position) → There p → {j : ℕ} {loop : List Letter} → IsLoop kinds (T p) j loop → Leads kinds a k p loop p
  loop_leads p h there_and_back = let c = across kinds a k valid ok known p h in (c.0, c.2, (p, across_back kinds a k valid ok known p c.0 h c.2, refl))
  loop_leads p h left_and_right = (turn_left kinds a k p, refl, (p, right_left kinds a k p h, refl))
  loop_leads p h right_and_left = (turn_right kinds a k p, refl, (p, left_right kinds a k p h, refl))
  loop_leads p h full_turn = subst (λ n. Leads kinds a k p (replicate n L) p) (sides_of_type kinds a k p) (full_turn_leads kinds a k p h)
  loop_leads p h loops.round_corner = round_corner kinds a k valid ok known p h

  -- related walks lead to one position
  pub related_leads : (p : Position) → There p → {u w : List Letter} → AreRelated kinds (T p) u w → (q : Position) → Leads kinds a k p u q → Leads kinds a k p w q
  related_leads p h {u} {w} r q f = (related_holds kinds {d = T p} Alike (record { equal = λ u q. (λ f. f, λ f. f); turns = λ u w e q. ((e q).1, (e q).0); joins = λ u v w e f q. (λ g. (f q).0 ((e q).0 g), λ g. (e q).1 ((f q).1 g)); inserted = inserted }) r q).0 f
    where
      Alike : List Letter → List Letter → Type 0
      Alike u w = (q : Position) → (Leads kinds a k p u q → Leads kinds a k p w q) × (Leads kinds a k p w q → Leads kinds a k p u q)

      inserted : (before behind : List Letter) (j : ℕ) (loop : List Letter) → IsLoop kinds (type_of kinds (T p) before) j loop → Alike (before ++ behind) (before ++ (loop ++ behind))
      inserted before behind j loop is q = (
        (λ f.
            let (m, f1, f2) = leads_split kinds a k before behind p q f in
            leads_append kinds a k before (loop ++ behind) p m q f1 (leads_append kinds a k loop behind m m q (closes m f1) f2)),
        (λ f.
            let (m, f1, f2) = leads_split kinds a k before (loop ++ behind) p q f in
            let (n, g1, g2) = leads_split kinds a k loop behind m q f2 in
            let e = leads_same loop m n m g1 (closes m f1) in
            leads_append kinds a k before behind p m q f1 (subst (λ o. Leads kinds a k o behind q) e g2)),
      )
        where
          closes : (m : Position) → Leads kinds a k p before m → Leads kinds a k m loop m
          closes m f = loop_leads m (leads_position before p m h f) (subst (λ d. IsLoop kinds d j loop) (sym (leads_type before p m h f)) is)
