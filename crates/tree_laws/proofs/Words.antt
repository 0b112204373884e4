-- The word of each position, and that a walk is related to the word of the position that it leads to.
use Rattle.std.proofs.Common.{◌≡◌, ◌≢◌, ℕ, zero, suc, ◌<◌, ◌⊎◌, inl, inr, List, [], ◌∷◌, ◌++◌, length, replicate, refl, sym, ap, ap₂, ◌∙◌, subst, arith, append_assoc, append-nil}
use Rattle.std.proofs.lemmas.Bool.{cases_eq}
use Rattle.tile_model.specs.declared.Letter.{Letter}
use Rattle.tile_model.specs.declared.Letter.TheVariants.{L, R, X}
use Rattle.tile_model.specs.Tessellations.{TileKind, valence, sides}
use Rattle.tile_model.specs.Validity.{IsValid}
use Rattle.tile_model.specs.Walks.{type_of, crossings}
use Rattle.tile_model.specs.Relation.{IsLoop, there_and_back, left_and_right, full_turn, AreRelated}
use Rattle.tile_model.proofs.Relations.{related_equal, related_on, related_back, related_behind, related_loop}
use Rattle.tile_model.proofs.Inverses.{crossings_append, crossings_lefts}
use Rattle.tree_model.specs.Automata.{TreeAutomaton, root_at, side_count}
use Rattle.tree_model.specs.Conditions.{IsAccepted}
use Rattle.tree_model.specs.Names.{IsNameBelow, state_of, word}
use Rattle.tree_model.specs.Positions.{Position, IsPosition, root, turn_left, turn_right, type_of_side, hop, LiesAcross, in_tree, Moves, Leads}
use Rattle.tree_model.specs.Places.{position_word}
use Rattle.tree_model.proofs.Sides.{next_last, next_inner}
use Rattle.tree_model.proofs.Positions.{make_position, same_position, left_right, right_position, IsDown, IsTreeAcross, down_state, down_position, some_sides, hop_across, hop_position, tree_mark, across_hop, type_zero}
use Rattle.tree_laws.proofs.TreePlane.{tree_land, plane, valence_is}
use Rattle.tree_laws.proofs.Closure.{lies}
use Rattle.tree_laws.proofs.Walking.{leads_append, lefts_from_first, sides_of_type, moves_position, leads_type}
use Rattle.tree_laws.proofs.Derived.{AreWorded, across_related}

pub word_push : (m : List ℕ) (i : ℕ) → word (m ++ i ∷ []) ≡ word m ++ (replicate i L ++ X ∷ [])
word_push [] i = refl
word_push (j ∷ m) i = ap (λ w. replicate j L ++ X ∷ w) (word_push m i) ∙ sym (append_assoc (replicate j L) (X ∷ word m) (replicate i L ++ X ∷ []))

pub lefts_push : (i : ℕ) → replicate i L ++ L ∷ [] ≡ replicate (suc i) L
lefts_push zero = refl
lefts_push (suc i) = ap (λ w. L ∷ w) (lefts_push i)

pub crossings_word : (m : List ℕ) → crossings (word m) ≡ length m
crossings_word [] = refl
crossings_word (i ∷ m) = crossings_append (replicate i L) (X ∷ word m) ∙ omega (arith, crossings_lefts i, crossings_word m)

-- a position's word crosses as often as its name is long
pub crossings_position : (p : Position) → crossings (position_word p) ≡ length p.name
crossings_position p = omega (arith, crossings_append (word p.name) (replicate p.side L), crossings_lefts p.side, crossings_word p.name)

module _ (kinds : List TileKind) (a : TreeAutomaton) (k : ℕ) (valid : IsValid kinds) (ok : IsAccepted kinds a) (known : k < length kinds) where
  abbrev There : Position → Type 0
  There = IsPosition kinds a k

  pub root_position : There root
  root_position = record { name = tt; side = omega (arith, some_sides kinds a k valid ok known (root_at a k) (ok.c1.root k known)) }

  -- the root has the start type
  pub root_type : type_of_side kinds a k root ≡ (k, 0)
  root_type =
      let s = root_at a k in
      let h = ok.c1.root k known in
      let r = (ok.c2 s 0 h root_position.side).root refl k known refl in
      type_zero kinds a k valid ok known s h ∙ ap₂ (λ x y. (x, y)) r.0 r.1

  -- a name is reached by its word
  name_leads : (m : List ℕ) (p : Position) → p.side ≡ 0 → There p → IsNameBelow kinds a (state_of a k p.name) m → Leads kinds a k p (word m) (make_position (p.name ++ m) 0)
  name_leads [] p e h n = same_position p (make_position (p.name ++ []) 0) (sym (append-nil p.name)) e
  name_leads (i ∷ m) p e h n =
      let c = make_position p.name i in
      let q = make_position (p.name ++ i ∷ []) 0 in
      let hc : There c = record { name = h.name; side = n.0 } in
      let d : IsDown kinds a k c q = record { child = n.1; name = refl; side = refl } in
      let hq = down_position kinds a k valid ok known c q hc d in
      let sq : IsNameBelow kinds a (state_of a k q.name) m = subst (λ s. IsNameBelow kinds a s m) (sym (down_state kinds a k c q d)) n.2 in
      let there = subst (λ l. Leads kinds a k q (word m) (make_position l 0)) (append_assoc p.name (i ∷ []) m) (name_leads m q refl hq sq) in
      let over : LiesAcross kinds a k c q = in_tree (tree_mark kinds a k valid ok known c q hc (inl d)) (across_hop kinds a k valid ok known c q hc (inl d)) in
      let turns = subst (λ x. Leads kinds a k x (replicate i L) c) (same_position (make_position p.name 0) p refl (sym e)) (lefts_from_first kinds a k p.name i n.0) in
      leads_append kinds a k (replicate i L) (X ∷ word m) p c (make_position (p.name ++ i ∷ m) 0) turns (q, over, there)

  -- a position is reached by its word
  pub word_leads : (p : Position) → There p → Leads kinds a k root (position_word p) p
  word_leads p h =
      leads_append kinds a k (word p.name) (replicate p.side L) root (make_position p.name 0) p (name_leads p.name root refl root_position h.name) (lefts_from_first kinds a k p.name p.side h.side)

  pub word_type : (p : Position) → There p → type_of kinds (k, 0) (position_word p) ≡ type_of_side kinds a k p
  word_type p h = ap (λ d. type_of kinds d (position_word p)) (sym root_type) ∙ sym (leads_type kinds a k valid ok known (position_word p) root p root_position (word_leads p h))

  abbrev Rel : List Letter → List Letter → Type 0
  Rel = AreRelated kinds (k, 0)

  on : {u v w : List Letter} → Rel u v → Rel v w → Rel u w
  on = related_on kinds

  same : {u w : List Letter} → u ≡ w → Rel u w
  same = related_equal kinds

  -- a loop behind the word of a position is taken out
  out : (p : Position) → There p → {j : ℕ} {loop : List Letter} → IsLoop kinds (type_of_side kinds a k p) j loop → Rel (position_word p ++ loop) (position_word p)
  out p h {j} {loop} is =
      let w = position_word p in
      let put : Rel (w ++ []) (w ++ (loop ++ [])) = related_loop kinds w [] (subst (λ d. IsLoop kinds d j loop) (sym (word_type p h)) is) in
      related_back kinds (on (same (sym (append-nil w))) (on put (same (ap (λ z. w ++ z) (append-nil loop)))))

  -- one letter L more
  pub word_left : (p : Position) → There p → Rel (position_word p ++ (L ∷ [])) (position_word (turn_left kinds a k p))
  word_left p h = go (cases_eq (suc p.side) (side_count kinds a (state_of a k p.name)))
    where
      n : ℕ
      n = side_count kinds a (state_of a k p.name)

      one : position_word p ++ (L ∷ []) ≡ word p.name ++ replicate (suc p.side) L
      one = append_assoc (word p.name) (replicate p.side L) (L ∷ []) ∙ ap (λ w. word p.name ++ w) (lefts_push p.side)

      go : (suc p.side ≡ n) ⊎ (suc p.side ≢ n) → Rel (position_word p ++ (L ∷ [])) (position_word (turn_left kinds a k p))
      go (inr f) = same (one ∙ ap (λ j. word p.name ++ replicate j L) (sym (next_inner n p.side (omega (arith, h.side)))))
      go (inl f) =
          let z = make_position p.name 0 in
          let hz : There z = record { name = h.name; side = omega (arith, h.side) } in
          let s : replicate (suc p.side) L ≡ replicate (sides kinds (type_of_side kinds a k z)) L = ap (λ j. replicate j L) (f ∙ sides_of_type kinds a k z) in
          let g : word p.name ++ replicate (suc p.side) L ≡ position_word z ++ replicate (sides kinds (type_of_side kinds a k z)) L = ap₂ (λ u w. u ++ w) (sym (append-nil (word p.name))) s in
          on (same (one ∙ g)) (on (out z hz full_turn) (same (ap (λ j. word p.name ++ replicate j L) (sym (next_last n p.side f)))))

  pub word_right : (p : Position) → There p → Rel (position_word p ++ (R ∷ [])) (position_word (turn_right kinds a k p))
  word_right p h =
      let q = turn_right kinds a k p in
      let hq = right_position kinds a k p h in
      let l : Rel (position_word q ++ (L ∷ [])) (position_word p) = subst (λ x. Rel (position_word q ++ (L ∷ [])) (position_word x)) (left_right kinds a k p h) (word_left q hq) in
      on (related_back kinds (related_behind kinds (R ∷ []) l)) (on (same (append_assoc (position_word q) (L ∷ []) (R ∷ []))) (out q hq left_and_right))

  word_down : (p q : Position) → IsDown kinds a k p q → Rel (position_word p ++ (X ∷ [])) (position_word q)
  word_down p q d =
      let e : position_word q ≡ word (p.name ++ p.side ∷ []) ++ [] = ap₂ (λ m j. word m ++ replicate j L) d.name d.side in
      same (append_assoc (word p.name) (replicate p.side L) (X ∷ []) ∙ sym (word_push p.name p.side) ∙ sym (append-nil (word (p.name ++ p.side ∷ []))) ∙ sym e)

  word_tree : (p q : Position) → There q → IsTreeAcross kinds a k p q → Rel (position_word p ++ (X ∷ [])) (position_word q)
  word_tree p q h (inl d) = word_down p q d
  word_tree p q h (inr d) =
      on (related_back kinds (related_behind kinds (X ∷ []) (word_down q p d))) (on (same (append_assoc (position_word q) (X ∷ []) (X ∷ []))) (out q h there_and_back))

  pub worded : AreWorded Position There (tree_land kinds a k) kinds (k, 0) position_word
  worded = record {
    of_left = word_left;
    of_hop = λ p h t. word_tree p (hop kinds a k p) (hop_position kinds a k valid ok known p h t) (hop_across kinds a k valid ok known p h t);
    valence_is = λ p h. ap (valence kinds) (word_type p h) ∙ sym (valence_is kinds a k valid ok known p h);
  }

  -- one letter X more
  pub word_across : (p q : Position) → There p → LiesAcross kinds a k p q → Rel (position_word p ++ (X ∷ [])) (position_word q)
  word_across p q h x = across_related Position There (tree_land kinds a k) (plane kinds a k valid ok known) kinds (k, 0) position_word worded h (lies kinds a k x)

  word_moves : (x : Letter) (p q : Position) → There p → Moves kinds a k x p q → Rel (position_word p ++ (x ∷ [])) (position_word q)
  word_moves L p q h e = subst (λ z. Rel (position_word p ++ (L ∷ [])) (position_word z)) e (word_left p h)
  word_moves R p q h e = subst (λ z. Rel (position_word p ++ (R ∷ [])) (position_word z)) e (word_right p h)
  word_moves X p q h c = word_across p q h c

  -- a walk behind the word of a position is related to the word of where it leads
  pub leads_word : (w : List Letter) (p q : Position) → There p → Leads kinds a k p w q → Rel (position_word p ++ w) (position_word q)
  leads_word [] p q h e = same (append-nil (position_word p) ∙ ap position_word e)
  leads_word (x ∷ w) p q h f =
      on (same (sym (append_assoc (position_word p) (x ∷ []) w)))
      (on (related_behind kinds w (word_moves x p f.0 h f.1)) (leads_word w f.0 q (moves_position kinds a k valid ok known x p f.0 h f.1) f.2))
