-- Positions: the turns, the sides of the tree, and the types of sides.
use Rattle.std.proofs.Common.{◌≡◌, ◌≢◌, ℕ, suc, ◌+◌, ◌%◌, ◌<◌, ◌≤◌, ◌⊎◌, inl, inr, List, [], ◌∷◌, ◌++◌, length, refl, sym, ap, ap₂, ◌∙◌, subst, arith, add-zero, mod-eq_of_lt, mod-lt}
use Rattle.std.proofs.Math.Nat.{mod-add-mod, add-mod-mod}
use Rattle.std.proofs.lemmas.List.{length_push, get_or_default}
use Rattle.std.proofs.lemmas.Bool.{cases_eq}
use Rattle.tile_model.specs.Tessellations.{TileKind, kind_at, IsType, left, cross}
use Rattle.tile_model.specs.Validity.{HasSides, IsValid}
use Rattle.tile_model.proofs.Types.{left_is, cross_cross}
use Rattle.tree_model.specs.declared.Rule.{Rule}
use Rattle.tree_model.specs.declared.Rule.TheVariants.{Parent, Child, Left, Right}
use Rattle.tree_model.specs.Automata.{TreeAutomaton, state_at, root_at, side_count, type_at, next}
use Rattle.tree_model.specs.Conditions.{IsRoot, IsAccepted}
use Rattle.tree_model.specs.Contours.{Tree, Opens, Closes}
use Rattle.tree_model.specs.Names.{child_of, IsName, state_of}
use Rattle.tree_model.specs.Positions.{Position, IsPosition, parent, last_side, tree_across, mark_of_rule, turn_left, turn_right, rule_of, type_of_side, hop, mark}
use Rattle.tree_model.proofs.Sides.{next_last, next_inner, next_below, previous_next, previous_below, next_previous}
use Rattle.tree_model.proofs.Names.{LastView, empty, last, last_view, parent_push, last_side_push, reached_push, name_push, name_last, name_state}

abbrev pub make_position : List ℕ → ℕ → Position
make_position m i = record { name = m; side = i }

pub same_position : (p q : Position) → p.name ≡ q.name → p.side ≡ q.side → p ≡ q
same_position p q e f = ap₂ make_position e f

-- one side further, over the numbers
next_residue : (off r n i : ℕ) → n % r ≡ 0 → i < n → ((off + i) % r + 1) % r ≡ (off + next n i) % r
next_residue off r n i e h = go (cases_eq (suc i) n)
  where
    go : (suc i ≡ n) ⊎ (suc i ≢ n) → ((off + i) % r + 1) % r ≡ (off + next n i) % r
    go (inl f) =
        let g : off + i + 1 ≡ off + n = omega arith in
        let w : (off + n) % r ≡ (off + 0) % r = sym (add-mod-mod off n r) ∙ ap (λ m. (off + m) % r) e in
        mod-add-mod (off + i) r 1 ∙ ap (λ m. m % r) g ∙ w ∙ ap (λ m. (off + m) % r) (sym (next_last n i f))
    go (inr f) =
        let g : off + i + 1 ≡ off + suc i = omega arith in
        mod-add-mod (off + i) r 1 ∙ ap (λ m. m % r) g ∙ ap (λ m. (off + m) % r) (sym (next_inner n i (omega arith)))

-- the rule of a side, from its mark
pub is_left : (r : Rule) → mark_of_rule r ≡ Opens → r ≡ Left
is_left Parent e = absurd (cc)
is_left (Child c) e = absurd (cc)
is_left Left e = refl
is_left Right e = absurd (cc)

pub is_right : (r : Rule) → mark_of_rule r ≡ Closes → r ≡ Right
is_right Parent e = absurd (cc)
is_right (Child c) e = absurd (cc)
is_right Left e = absurd (cc)
is_right Right e = refl

module _ (kinds : List TileKind) (a : TreeAutomaton) (k : ℕ) where
  pub right_left : (p : Position) → IsPosition kinds a k p → turn_right kinds a k (turn_left kinds a k p) ≡ p
  right_left p h = same_position (turn_right kinds a k (turn_left kinds a k p)) p refl (previous_next (side_count kinds a (state_of a k p.name)) p.side h.side)

  pub left_right : (p : Position) → IsPosition kinds a k p → turn_left kinds a k (turn_right kinds a k p) ≡ p
  left_right p h = same_position (turn_left kinds a k (turn_right kinds a k p)) p refl (next_previous (side_count kinds a (state_of a k p.name)) p.side h.side)

  pub left_position : (p : Position) → IsPosition kinds a k p → IsPosition kinds a k (turn_left kinds a k p)
  left_position p h = record { name = h.name; side = next_below (side_count kinds a (state_of a k p.name)) p.side h.side }

  pub right_position : (p : Position) → IsPosition kinds a k p → IsPosition kinds a k (turn_right kinds a k p)
  right_position p h = record { name = h.name; side = previous_below (side_count kinds a (state_of a k p.name)) p.side h.side }

  -- q is side 0 of the child across p
  pub record IsDown (p q : Position) : Type 0 where
    pub child : rule_of kinds a k p ≡ Child (child_of (rule_of kinds a k p))
    pub name : q.name ≡ p.name ++ p.side ∷ []
    pub side : q.side ≡ 0

  -- p and q are the two sides of one edge of the tree
  abbrev pub IsTreeAcross : Position → Position → Type 0
  IsTreeAcross p q = IsDown p q ⊎ IsDown q p

  pub tree_back : (p q : Position) → IsTreeAcross p q → IsTreeAcross q p
  tree_back p q (inl d) = inr d
  tree_back p q (inr d) = inl d

  pub down_state : (p q : Position) → IsDown p q → state_of a k q.name ≡ child_of (rule_of kinds a k p)
  down_state p q d = ap (state_of a k) d.name ∙ reached_push kinds a (root_at a k) p.name p.side

  pub down_depth : (p q : Position) → IsDown p q → length q.name ≡ suc (length p.name)
  down_depth p q d = omega (arith, ap length d.name, length_push p.name p.side)

module _ (kinds : List TileKind) (a : TreeAutomaton) (k : ℕ) (valid : IsValid kinds) (ok : IsAccepted kinds a) (known : k < length kinds) where
  pub state_known : (p : Position) → IsPosition kinds a k p → state_of a k p.name < length a.states
  state_known p h = name_state kinds a ok.c1 (root_at a k) p.name (ok.c1.root k known) h.name

  pub has_sides : (s : ℕ) → s < length a.states → HasSides (kind_at kinds (state_at a s).kind)
  has_sides s h = valid.sides (state_at a s).kind (ok.c1.tables s h).kind

  pub some_sides : (s : ℕ) → s < length a.states → 3 ≤ side_count kinds a s
  unfolding side_count
  some_sides s h = (has_sides s h).0

  pub few_sides : (s : ℕ) → s < length a.states → side_count kinds a s ≤ 64
  unfolding side_count
  few_sides s h = (has_sides s h).1

  -- the root of the tree is in the state of a root
  pub is_root : IsRoot a (root_at a k)
  unfolding root_at
  is_root =
      let w : k < length a.roots = omega (arith, known, ok.c1.limits.roots) in
      (k, w, get_or_default a.roots k (root_at a k) 0 w)

  pub down_position : (p q : Position) → IsPosition kinds a k p → IsDown kinds a k p q → IsPosition kinds a k q
  down_position p q h d =
      let n : IsName kinds a k q.name = subst (IsName kinds a k) (sym d.name) (name_push kinds a (root_at a k) p.name p.side h.name h.side d.child) in
      let s = name_state kinds a ok.c1 (root_at a k) q.name (ok.c1.root k known) n in
      record { name = n; side = omega (arith, some_sides (state_of a k q.name) s, d.side) }

  pub up_position : (p q : Position) → IsPosition kinds a k q → IsDown kinds a k p q → IsPosition kinds a k p
  up_position p q h d =
      let l = name_last kinds a (root_at a k) p.name p.side (subst (IsName kinds a k) d.name h.name) in
      record { name = l.front; side = l.side }

  pub down_rule : (p q : Position) → IsPosition kinds a k p → IsDown kinds a k p q → rule_of kinds a k q ≡ Parent
  down_rule p q h d =
      let hq = down_position p q h d in
      let no_root = (ok.c2 (state_of a k p.name) p.side (state_known p h) h.side).child (child_of (rule_of kinds a k p)) d.child in
      (ok.c2 (state_of a k q.name) q.side (state_known q hq) hq.side).parent.1 (d.side, subst (λ s. ¬ (IsRoot a s)) (sym (down_state kinds a k p q d)) no_root)

  -- a Parent side lies below another
  pub parent_up : (q : Position) → IsPosition kinds a k q → rule_of kinds a k q ≡ Parent → IsDown kinds a k (hop kinds a k q) q
  parent_up q h e = go q.name (last_view q.name) refl
    where
      side_is : (q.side ≡ 0) × (¬ (IsRoot a (state_of a k q.name)))
      side_is = (ok.c2 (state_of a k q.name) q.side (state_known q h) h.side).parent.0 e

      go : (m : List ℕ) → LastView m → q.name ≡ m → IsDown kinds a k (hop kinds a k q) q
      go _ empty f = absurd (side_is.1 (subst (λ m. IsRoot a (state_of a k m)) (sym f) is_root))
      go _ (last m i) f =
          let l = name_last kinds a (root_at a k) m i (subst (IsName kinds a k) f h.name) in
          let u : IsDown kinds a k (make_position m i) q = record { child = l.child; name = f; side = side_is.0 } in
          let n : parent q.name ≡ m = ap parent f ∙ parent_push m i in
          let s : last_side q.name ≡ i = ap last_side f ∙ last_side_push m i in
          let p : make_position m i ≡ hop kinds a k q = sym (ap (λ r. tree_across r q) e ∙ ap₂ make_position n s) in
          subst (λ p. IsDown kinds a k p q) p u

  pub child_down : (p : Position) (c : ℕ) → rule_of kinds a k p ≡ Child c → IsDown kinds a k p (hop kinds a k p)
  child_down p c e =
      let q : hop kinds a k p ≡ make_position (p.name ++ p.side ∷ []) 0 = ap (λ r. tree_across r p) e in
      record { child = e ∙ ap Child (sym (ap child_of e)); name = ap (λ q. q.name) q; side = ap (λ q. q.side) q }

  pub tree_position : (p q : Position) → IsPosition kinds a k p → IsTreeAcross kinds a k p q → IsPosition kinds a k q
  tree_position p q h (inl d) = down_position p q h d
  tree_position p q h (inr d) = up_position q p h d

  -- the crossing of a side of the tree
  pub hop_across : (p : Position) → IsPosition kinds a k p → mark kinds a k p ≡ Tree → IsTreeAcross kinds a k p (hop kinds a k p)
  hop_across p h t = go (rule_of kinds a k p) refl
    where
      go : (r : Rule) → rule_of kinds a k p ≡ r → IsTreeAcross kinds a k p (hop kinds a k p)
      go Parent e = inr (parent_up p h e)
      go (Child c) e = inl (child_down p c e)
      go Left e = let m = ap mark_of_rule e in absurd (cc)
      go Right e = let m = ap mark_of_rule e in absurd (cc)

  pub tree_mark : (p q : Position) → IsPosition kinds a k p → IsTreeAcross kinds a k p q → mark kinds a k p ≡ Tree
  tree_mark p q h (inl d) = ap mark_of_rule d.child
  tree_mark p q h (inr d) = ap mark_of_rule (down_rule q p (up_position q p h d) d)

  -- it is the only one
  pub across_hop : (p q : Position) → IsPosition kinds a k p → IsTreeAcross kinds a k p q → hop kinds a k p ≡ q
  across_hop p q h (inl d) = ap (λ r. tree_across r p) d.child ∙ same_position (make_position (p.name ++ p.side ∷ []) 0) q (sym d.name) (sym d.side)
  across_hop p q h (inr d) =
      let r = down_rule q p (up_position q p h d) d in
      let n : parent p.name ≡ q.name = ap parent d.name ∙ parent_push q.name q.side in
      let s : last_side p.name ≡ q.side = ap last_side d.name ∙ last_side_push q.name q.side in
      ap (λ r. tree_across r p) r ∙ same_position (make_position (parent p.name) (last_side p.name)) q n s

  pub hop_position : (p : Position) → IsPosition kinds a k p → mark kinds a k p ≡ Tree → IsPosition kinds a k (hop kinds a k p)
  hop_position p h t = tree_position p (hop kinds a k p) h (hop_across p h t)

  pub hop_tree : (p : Position) → IsPosition kinds a k p → mark kinds a k p ≡ Tree → mark kinds a k (hop kinds a k p) ≡ Tree
  hop_tree p h t = tree_mark (hop kinds a k p) p (hop_position p h t) (tree_back kinds a k p (hop kinds a k p) (hop_across p h t))

  pub hop_hop : (p : Position) → IsPosition kinds a k p → mark kinds a k p ≡ Tree → hop kinds a k (hop kinds a k p) ≡ p
  hop_hop p h t = across_hop (hop kinds a k p) p (hop_position p h t) (tree_back kinds a k p (hop kinds a k p) (hop_across p h t))

  -- the types of sides
  pub side_type : (s i : ℕ) → s < length a.states → IsType kinds (type_at kinds a s i)
  unfolding type_at
  side_type s i h =
      let t = ok.c1.tables s h in
      (t.kind, mod-lt ((state_at a s).off + i) (valid.repeat (state_at a s).kind t.kind).positive)

  pub type_left : (s i : ℕ) → s < length a.states → i < side_count kinds a s → type_at kinds a s (next (side_count kinds a s) i) ≡ left kinds (type_at kinds a s i)
  unfolding type_at side_count
  type_left s i h l =
      let t = ok.c1.tables s h in
      let d = (valid.repeat (state_at a s).kind t.kind).divides in
      sym (left_is kinds (type_at kinds a s i) (side_type s i h) ∙ ap (λ r. ((state_at a s).kind, r)) (next_residue (state_at a s).off (kind_at kinds (state_at a s).kind).repeat (kind_at kinds (state_at a s).kind).sides i d l))

  pub type_zero : (s : ℕ) → s < length a.states → type_at kinds a s 0 ≡ ((state_at a s).kind, (state_at a s).off)
  unfolding type_at
  type_zero s h = ap (λ r. ((state_at a s).kind, r)) (ap (λ m. m % (kind_at kinds (state_at a s).kind).repeat) (add-zero (state_at a s).off) ∙ mod-eq_of_lt (ok.c1.tables s h).off)

  pub turned_type : (p : Position) → IsPosition kinds a k p → type_of_side kinds a k (turn_left kinds a k p) ≡ left kinds (type_of_side kinds a k p)
  turned_type p h = type_left (state_of a k p.name) p.side (state_known p h) h.side

  down_type : (p q : Position) → IsPosition kinds a k p → IsDown kinds a k p q → type_of_side kinds a k q ≡ cross kinds (type_of_side kinds a k p)
  down_type p q h d =
      let c = down_state kinds a k p q d in
      let hq = down_position p q h d in
      let e = ok.c3 (state_of a k p.name) p.side (state_known p h) h.side (child_of (rule_of kinds a k p)) d.child in
      let z = type_zero (child_of (rule_of kinds a k p)) (subst (λ s. s < length a.states) c (state_known q hq)) in
      ap₂ (type_at kinds a) c d.side ∙ z ∙ sym e

  pub tree_type : (p q : Position) → IsPosition kinds a k p → IsTreeAcross kinds a k p q → type_of_side kinds a k q ≡ cross kinds (type_of_side kinds a k p)
  tree_type p q h (inl d) = down_type p q h d
  tree_type p q h (inr d) = sym (cross_cross kinds valid (type_of_side kinds a k q)) ∙ ap (cross kinds) (sym (down_type q p (up_position q p h d) d))
