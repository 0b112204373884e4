-- The positions of the tree of accepted rules are a plane. This is the one place where the conditions are read for matching and crossing.
use Rattle.std.proofs.Common.{◌≡◌, ℕ, zero, suc, ◌-◌, ◌<◌, inl, inr, List, length, refl, sym, ap, ◌∙◌, subst, arith, ℤ, pos, ◌+ℤ◌, ◌-ℤ◌}
use Rattle.std.proofs.lemmas.Int.{ints}
use Rattle.tile_model.specs.Tessellations.{TileKind, left, cross, valence, around, around_times}
use Rattle.tile_model.specs.Validity.{IsValid}
use Rattle.tile_model.proofs.Types.{cross_cross}
use Rattle.tree_model.specs.declared.Claim.{Claim}
use Rattle.tree_model.specs.Automata.{TreeAutomaton, claim_at, offset, corner_valence, outer, side_count, next, previous, further}
use Rattle.tree_model.specs.Conditions.{IsAccepted}
use Rattle.tree_model.specs.Contours.{Tree, Opens, Closes}
use Rattle.tree_model.specs.Names.{child_of, state_of}
use Rattle.tree_model.specs.Positions.{Position, IsPosition, mark_of_rule, turn_left, turn_right, rule_of, claim_of, type_of_side, hop, mark}
use Rattle.tree_model.proofs.Sides.{next_below, next_zero, previous_next}
use Rattle.tree_model.proofs.Positions.{right_left, left_right, left_position, right_position, IsDown, IsTreeAcross, down_state, down_depth, state_known, up_position, hop_across, hop_position, hop_tree, hop_hop, is_left, is_right, side_type, turned_type, tree_type}
use Rattle.tree_laws.specs.Plane.{Land, IsPlane}
use Rattle.tree_laws.specs.Ranks.{derived_rank, corner_count}
use Rattle.tree_laws.proofs.Ranks.{grows}
use Rattle.tree_laws.proofs.Types.{AreTyped, iterated}

-- the land of the positions in the tree of kind k
abbrev pub tree_land : List TileKind → TreeAutomaton → ℕ → Land Position
tree_land kinds a k = record {
  left = turn_left kinds a k;
  right = turn_right kinds a k;
  hop = hop kinds a k;
  mark = mark kinds a k;
  corner = λ p. (claim_of kinds a k p).corner;
  place = λ p. (claim_of kinds a k p).place;
  depth = λ p. length p.name;
  last = λ g. corner_valence a g - 1;
  offset = offset a;
  outer = λ g. (outer a g).corner;
  entry = λ g. (outer a g).place;
  rank = derived_rank a;
  corner_count = corner_count a;
}

down_offset : (dr dq : ℕ) (h0 h1 : ℤ) → dr ≡ suc dq → h1 ≡ h0 +ℤ pos 1 → pos dr +ℤ h0 ≡ pos dq +ℤ h1
down_offset dr dq h0 h1 e f = omega (arith, ints)

up_offset : (dr dq : ℕ) (h0 h1 : ℤ) → dq ≡ suc dr → h0 ≡ h1 +ℤ pos 1 → pos dr +ℤ h0 ≡ pos dq +ℤ h1
up_offset dr dq h0 h1 e f = omega (arith, ints)

-- the depth before a claim, told of the claim before it
offset_before : (a : TreeAutomaton) (x y : Claim) → x ≡ further y → offset a x.corner (x.place - 1) ≡ offset a x.corner x.place +ℤ pos 1 → offset a y.corner y.place ≡ offset a y.corner (suc y.place) +ℤ pos 1
offset_before a x y e h =
    let l : suc y.place - 1 ≡ y.place = omega arith in
    rw l at (rw e at h)

change_is : (h0 h1 k0 k1 : ℤ) → h1 -ℤ h0 ≡ k1 -ℤ k0 → k0 ≡ pos 0 → h1 -ℤ h0 ≡ k1
change_is h0 h1 k0 k1 e f = omega (arith, ints)

module _ (kinds : List TileKind) (a : TreeAutomaton) (k : ℕ) (valid : IsValid kinds) (ok : IsAccepted kinds a) (known : k < length kinds) where
  abbrev There : Position → Type 0
  There = IsPosition kinds a k

  abbrev S : Position → ℕ
  S p = state_of a k p.name

  abbrev C : Position → Claim
  C = claim_of kinds a k

  abbrev turn : Position → Position
  turn = turn_left kinds a k

  known_state : (p : Position) → There p → S p < length a.states
  known_state = state_known kinds a k valid ok known

  beside : (p : Position) → There p → next (side_count kinds a (S p)) p.side < side_count kinds a (S p)
  beside p h = next_below (side_count kinds a (S p)) p.side h.side

  pub corner_known : (p : Position) → There p → (C p).corner < length a.corners
  corner_known p h = ((ok.c1.targets (S p) (known_state p h)).claim p.side h.side).0

  place_known : (p : Position) → There p → (C p).place < corner_valence a (C p).corner
  place_known p h = ((ok.c1.targets (S p) (known_state p h)).claim p.side h.side).1

  -- the next tile round the corner, across a side of the tree
  record IsNext (q r : Position) : Type 0 where
    claim : C r ≡ further (C q)
    depths : pos (length r.name) +ℤ offset a (C q).corner (C q).place ≡ pos (length q.name) +ℤ offset a (C q).corner (suc (C q).place)

  -- side 0 of the child
  down_next : (q r : Position) → There q → IsDown kinds a k (turn q) r → IsNext q r
  down_next q r h d =
      let n = side_count kinds a (S q) in
      let f = ok.c9 (S q) (next n q.side) (known_state q h) (beside q h) (child_of (rule_of kinds a k (turn q))) d.child in
      let i : previous n (next n q.side) ≡ q.side = previous_next n q.side h.side in
      let first = subst (λ j. claim_at a (child_of (rule_of kinds a k (turn q))) 0 ≡ further (claim_at a (S q) j)) i f.first in
      let depth = subst (λ j. offset a (claim_at a (S q) j).corner (suc (claim_at a (S q) j).place) ≡ offset a (claim_at a (S q) j).corner (claim_at a (S q) j).place +ℤ pos 1) i f.first_depth in
      record {
        claim = ap (λ s. claim_at a s r.side) (down_state kinds a k (turn q) r d) ∙ ap (claim_at a (child_of (rule_of kinds a k (turn q)))) d.side ∙ first;
        depths = down_offset (length r.name) (length q.name) _ _ (down_depth kinds a k (turn q) r d) depth;
      }

  -- back at the parent
  up_next : (q r : Position) → There q → IsDown kinds a k r (turn q) → IsNext q r
  up_next q r h d =
      let hr = up_position kinds a k valid ok known r (turn q) (left_position kinds a k q h) d in
      let c : S q ≡ child_of (rule_of kinds a k r) = down_state kinds a k r (turn q) d in
      let n = next_zero (side_count kinds a (S q)) q.side h.side d.side in
      let l : side_count kinds a (S q) - 1 ≡ q.side = omega arith in
      let f = ok.c9 (S r) r.side (known_state r hr) hr.side (child_of (rule_of kinds a k r)) d.child in
      let e0 = subst (λ s. C r ≡ further (claim_at a s (side_count kinds a s - 1))) (sym c) f.last in
      let e1 : C r ≡ further (C q) = subst (λ j. C r ≡ further (claim_at a (S q) j)) l e0 in
      record { claim = e1; depths = up_offset (length r.name) (length q.name) _ _ (down_depth kinds a k r (turn q) d) (offset_before a (C r) (C q) e1 f.last_depth) }

  tree_next : (q : Position) → There q → mark kinds a k (turn q) ≡ Tree → IsNext q (hop kinds a k (turn q))
  tree_next q h t = go (hop_across kinds a k valid ok known (turn q) (left_position kinds a k q h) t)
    where
      go : IsTreeAcross kinds a k (turn q) (hop kinds a k (turn q)) → IsNext q (hop kinds a k (turn q))
      go (inl d) = down_next q (hop kinds a k (turn q)) h d
      go (inr d) = up_next q (hop kinds a k (turn q)) h d

  -- before a Left side
  nested_claim : (q : Position) → There q → mark kinds a k (turn q) ≡ Opens → C q ≡ outer a (C (turn q)).corner
  nested_claim q h o =
      let n = side_count kinds a (S q) in
      let f = ok.c7 (S q) (next n q.side) (known_state q h) (beside q h) (is_left (rule_of kinds a k (turn q)) o) in
      subst (λ j. claim_at a (S q) j ≡ outer a (C (turn q)).corner) (previous_next n q.side h.side) f

  -- behind a Right side
  behind_claim : (q : Position) → There q → mark kinds a k (turn q) ≡ Closes → C (turn q) ≡ further (outer a (C q).corner)
  behind_claim q h c =
      let n = side_count kinds a (S q) in
      let f = ok.c8 (S q) (next n q.side) (known_state q h) (beside q h) (is_right (rule_of kinds a k (turn q)) c) in
      subst (λ j. C (turn q) ≡ further (outer a (claim_at a (S q) j).corner)) (previous_next n q.side h.side) f

  first_place : (p : Position) → There p → mark kinds a k p ≡ Opens → (C p).place ≡ 0
  first_place p h o = (ok.c5 (S p) p.side (known_state p h) h.side).1 (is_left (rule_of kinds a k p) o)

  last_place : (p : Position) → There p → mark kinds a k (turn p) ≡ Closes → suc (C p).place ≡ corner_valence a (C p).corner
  last_place p h c = (ok.c6 (S p) p.side (known_state p h) h.side).1 (is_right (rule_of kinds a k (turn p)) c)

  at_last : (p : Position) → There p → (C p).place ≡ corner_valence a (C p).corner - 1 → mark kinds a k (turn p) ≡ Closes
  at_last p h e =
      let s : suc (C p).place ≡ corner_valence a (C p).corner = omega (arith, place_known p h, e) in
      ap mark_of_rule ((ok.c6 (S p) p.side (known_state p h) h.side).0 s)

  change_of : (g : ℕ) → g < length a.corners → offset a (outer a g).corner (suc (outer a g).place) -ℤ offset a (outer a g).corner (outer a g).place ≡ offset a g (corner_valence a g - 1)
  change_of g h = change_is (offset a (outer a g).corner (outer a g).place) (offset a (outer a g).corner (suc (outer a g).place)) (offset a g 0) (offset a g (corner_valence a g - 1)) (ok.c10 g h) (ok.c1.offsets g h).first

  pub plane : IsPlane Position There (tree_land kinds a k)
  plane = record {
    right_left = right_left kinds a k;
    left_right = left_right kinds a k;
    there_left = left_position kinds a k;
    there_right = right_position kinds a k;
    there_hop = hop_position kinds a k valid ok known;
    hop_tree = hop_tree kinds a k valid ok known;
    hop_hop = hop_hop kinds a k valid ok known;
    opens_first = first_place;
    first_opens = λ p h e. ap mark_of_rule ((ok.c5 (S p) p.side (known_state p h) h.side).0 e);
    closes_last = λ p h c. omega (arith, last_place p h c);
    last_closes = at_last;
    within = λ p h. omega (arith, place_known p h);
    few = λ p h. omega (arith, (ok.c1.offsets (C p).corner (corner_known p h)).count.1);
    tree_corner = λ p h t. ap (λ c. c.corner) (tree_next p h t).claim;
    tree_place = λ p h t. ap (λ c. c.place) (tree_next p h t).claim;
    tree_depth = λ p h t. (tree_next p h t).depths;
    nested_corner = λ p h o. ap (λ c. c.corner) (nested_claim p h o);
    nested_place = λ p h o. ap (λ c. c.place) (nested_claim p h o);
    behind_corner = λ p h c. ap (λ c. c.corner) (behind_claim p h c);
    behind_place = λ p h c. ap (λ c. c.place) (behind_claim p h c);
    left_depth = λ p h. refl;
    first_offset = λ p h. (ok.c1.offsets (C p).corner (corner_known p h)).first;
    one_change = λ p h. change_of (C p).corner (corner_known p h);
    falls_little = λ p h. (ok.c11 (C p).corner (corner_known p h)).0;
    rises_little = λ p h. (ok.c11 (C p).corner (corner_known p h)).1;
    ranked = λ p h. grows a (λ g l. (ok.c1.outer g l).0) ok.c12 (C p).corner (corner_known p h);
  }

  iterated_around : (n : ℕ) (d : ℕ × ℕ) → iterated (ℕ × ℕ) (λ t. cross kinds (left kinds t)) n d ≡ around_times kinds n d
  iterated_around zero d = refl
  iterated_around (suc n) d = ap (around kinds) (iterated_around n d)

  -- the valence of a side's type is the number of tiles round its corner
  pub valence_is : (p : Position) → There p → suc (corner_valence a (C p).corner - 1) ≡ valence kinds (type_of_side kinds a k p)
  valence_is p h = omega (arith, place_known p h, ok.c4 (S p) p.side (known_state p h) h.side)

  pub typed : AreTyped Position There (tree_land kinds a k) (ℕ × ℕ) (left kinds) (cross kinds) (type_of_side kinds a k)
  typed = record {
    of_left = turned_type kinds a k valid ok known;
    of_hop = λ p h t. tree_type kinds a k valid ok known p (hop kinds a k p) h (hop_across kinds a k valid ok known p h t);
    partners = λ p h. cross_cross kinds valid (type_of_side kinds a k p);
    round = λ p h.
        let d = type_of_side kinds a k p in
        iterated_around (suc (corner_valence a (C p).corner - 1)) d ∙ ap (λ n. around_times kinds n d) (valence_is p h) ∙ (valid.corner d (side_type kinds a k valid ok known (S p) p.side (known_state p h))).closes;
  }
