-- Spots: the states on the path, and the steps to a child and to the parent.
use Rattle.std.proofs.Common.{◌≡◌, ℕ, suc, ◌<◌, List, All, [], ◌∷◌, ◌++◌, length, slice_index_or, refl, sym, ap, ap₂, ◌∙◌, subst, arith, take_all}
use Rattle.std.proofs.lemmas.List.{same_from_push}
use Rattle.structure_check.specs.Rules.{TreeRules, AreSound}
use Rattle.tree_model.specs.declared.Rule.TheVariants.{Child}
use Rattle.tree_model.specs.Automata.{TreeAutomaton, state_at, root_at, rule_at}
use Rattle.tree_model.specs.Names.{child_of, reached, IsName}
use Rattle.tree_model.specs.Positions.{IsPosition, root, parent, last_side}
use Rattle.tree_model.proofs.Names.{parent_push, last_side_push, name_last}
use Rattle.tree_model.proofs.Positions.{make_position, same_position, few_sides, state_known, IsDown, down_position}
use Rattle.spot_laws.specs.Spots.{TreeSpot, IsSpot, IsAt, IsAtChild, IsAtParent, position, states_along}
use Rattle.spot_laws.specs.Spots.{root_kind, tile_state, tile_sides, faced_rule, facing, rejoined}
use Rattle.tree_laws.proofs.Words.{root_position}

pub all_one : (i : ℕ) → i < 64 → All (λ j. j < 64) (i ∷ [])
all_one i h = λ k d l. let e : k ≡ 0 = omega (arith, l) in subst (λ n. slice_index_or (i ∷ []) n d < 64) (sym e) h

pub states_length : (a : TreeAutomaton) (s : ℕ) (m : List ℕ) → length (states_along a s m) ≡ suc (length m)
states_length a s [] = refl
states_length a s (i ∷ m) = ap suc (states_length a (child_of (rule_at a s i)) m)

states_first : (a : TreeAutomaton) (s d : ℕ) (m : List ℕ) → slice_index_or (states_along a s m) 0 d ≡ s
states_first a s d [] = refl
states_first a s d (i ∷ m) = refl

states_last : (a : TreeAutomaton) (s d : ℕ) (m : List ℕ) → slice_index_or (states_along a s m) (length m) d ≡ reached a s m
states_last a s d [] = refl
states_last a s d (i ∷ m) = states_last a (child_of (rule_at a s i)) d m

states_push : (a : TreeAutomaton) (s : ℕ) (m : List ℕ) (i : ℕ) → states_along a s (m ++ i ∷ []) ≡ states_along a s m ++ child_of (rule_at a (reached a s m) i) ∷ []
states_push a s [] i = refl
states_push a s (j ∷ m) i = ap (λ l. s ∷ l) (states_push a (child_of (rule_at a s j)) m i)

-- the last state of the path is that of the tile
pub spot_state : (r : TreeRules) (s : TreeSpot) (d : ℕ) → IsSpot r s → slice_index_or s.path (length s.name) d ≡ tile_state r s
spot_state r s d h = ap (λ m. slice_index_or m (length s.name) d) h.along ∙ states_last r.automaton (root_at r.automaton (root_kind r s)) d s.name

pub path_length : (r : TreeRules) (s : TreeSpot) → IsSpot r s → length s.path ≡ suc (length s.name)
path_length r s h = ap length h.along ∙ states_length r.automaton (root_at r.automaton (root_kind r s)) s.name

-- the root of a spot's tree has the kind that the spot tells
home_kind : (r : TreeRules) (s : TreeSpot) → IsSpot r s → (state_at r.automaton (root_at r.automaton (root_kind r s))).kind ≡ root_kind r s
home_kind r s h =
    let home = root_at r.automaton (root_kind r s) in
    let first = ap (λ m. slice_index_or m 0 0) h.along ∙ states_first r.automaton home 0 s.name in
    ap (λ x. (state_at r.automaton x).kind) (sym first)

module _ (r : TreeRules) where
  -- the spot at a position, by the path of its name
  spot_is : (k : ℕ) (s : TreeSpot) → (state_at r.automaton (root_at r.automaton k)).kind ≡ k → k < length r.kinds → IsPosition r.kinds r.automaton k (position s) → s.path ≡ states_along r.automaton (root_at r.automaton k) s.name → IsAt r k (position s) s
  spot_is k s home known h along =
      let first = ap (λ m. slice_index_or m 0 0) along ∙ states_first r.automaton (root_at r.automaton k) 0 s.name in
      let tree : root_kind r s ≡ k = ap (λ x. (state_at r.automaton x).kind) first ∙ home in
      let spot : IsSpot r s = record {
        known = subst (λ j. j < length r.kinds) (sym tree) known;
        there = subst (λ j. IsPosition r.kinds r.automaton j (position s)) (sym tree) h;
        along = subst (λ j. s.path ≡ states_along r.automaton (root_at r.automaton j) s.name) (sym tree) along;
      } in
      record { spot = spot; tree = tree; stands = refl }

  -- another side of the tile
  pub facing_is : (s : TreeSpot) (i : ℕ) → IsSpot r s → i < tile_sides r s → IsAt r (root_kind r s) (position (facing s i)) (facing s i)
  facing_is s i h l =
      let there : IsPosition r.kinds r.automaton (root_kind r s) (position (facing s i)) = record { name = h.there.name; side = l } in
      record { spot = record { known = h.known; there = there; along = h.along }; tree = refl; stands = refl }

  -- the last side of the name, and the last state of the path, taken away
  pub up_is : (s t : TreeSpot) (y : ℕ) → IsSpot r s → s.name ≡ t.name ++ t.spin ∷ [] → s.path ≡ t.path ++ y ∷ [] → IsAtParent r s t
  up_is s t y h n p =
      let k = root_kind r s in
      let l = name_last r.kinds r.automaton (root_at r.automaton k) t.name t.spin (subst (IsName r.kinds r.automaton k) n h.there.name) in
      let there : IsPosition r.kinds r.automaton k (position t) = record { name = l.front; side = l.side } in
      let path = same_from_push t.path (states_along r.automaton (root_at r.automaton k) t.name) y _ (sym p ∙ h.along ∙ ap (states_along r.automaton (root_at r.automaton k)) n ∙ states_push r.automaton (root_at r.automaton k) t.name t.spin) in
      let i = spot_is k t (home_kind r s h) h.known there path.0 in
      let m = ap parent n ∙ parent_push t.name t.spin in
      let j = ap last_side n ∙ last_side_push t.name t.spin in
      record { spot = i.spot; tree = i.tree; stands = sym (ap₂ make_position m j) }

module _ (r : TreeRules) (sound : AreSound r) where
  -- a root of kind k has kind k
  root_has_kind : (k : ℕ) → k < length r.kinds → (state_at r.automaton (root_at r.automaton k)).kind ≡ k
  root_has_kind k known =
      let h = sound.accepted.c1.root k known in
      let side = (root_position r.kinds r.automaton k sound.valid sound.accepted known).side in
      ((sound.accepted.c2 (root_at r.automaton k) 0 h side).root refl k known refl).0

  pub tile_known : (s : TreeSpot) → IsSpot r s → tile_state r s < length r.automaton.states
  tile_known s h = state_known r.kinds r.automaton (root_kind r s) sound.valid sound.accepted h.known (position s) h.there

  -- the side that is faced is below 64
  pub spin_small : (s : TreeSpot) → IsSpot r s → s.spin < 64
  spin_small s h =
      let few = few_sides r.kinds r.automaton (root_kind r s) sound.valid sound.accepted h.known (tile_state r s) (tile_known s h) in
      omega (arith, h.there.side, few)

  pub root_is : (k : ℕ) (s : TreeSpot) → k < length r.kinds → s.name ≡ [] → s.path ≡ root_at r.automaton k ∷ [] → s.spin ≡ 0 → IsAt r k root s
  root_is k s known n p z =
      let e : position s ≡ root = same_position (position s) root n z in
      let h = subst (IsPosition r.kinds r.automaton k) (sym e) (root_position r.kinds r.automaton k sound.valid sound.accepted known) in
      let i = spot_is r k s (root_has_kind k known) known h (p ∙ ap (states_along r.automaton (root_at r.automaton k)) (sym n)) in
      record { spot = i.spot; tree = i.tree; stands = e }

  -- one side further down
  pub down_is : (s t : TreeSpot) (c : ℕ) → IsSpot r s → faced_rule r s ≡ Child c → t.name ≡ s.name ++ s.spin ∷ [] → t.path ≡ s.path ++ c ∷ [] → t.spin ≡ 0 → IsAtChild r s t
  down_is s t c h e n p z =
      let k = root_kind r s in
      let d : IsDown r.kinds r.automaton k (position s) (position t) = record { child = e ∙ ap Child (sym (ap child_of e)); name = n; side = z } in
      let there = down_position r.kinds r.automaton k sound.valid sound.accepted h.known (position s) (position t) h.there d in
      let path = p ∙ ap₂ (λ l x. l ++ x ∷ []) h.along (sym (ap child_of e)) ∙ sym (states_push r.automaton (root_at r.automaton k) s.name s.spin) ∙ ap (states_along r.automaton (root_at r.automaton k)) (sym n) in
      let i = spot_is r k t (home_kind r s h) h.known there path in
      record { spot = i.spot; tree = i.tree; stands = same_position (position t) (make_position (s.name ++ s.spin ∷ []) 0) n z }

  pub rejoined_down : (s : TreeSpot) (n i c : ℕ) → IsSpot r s → faced_rule r s ≡ Child c → n ≡ length s.name → i ≡ s.spin → IsAtChild r s (rejoined s n (i ∷ []) (c ∷ []) 0)
  rejoined_down s n i c h e l f =
      let name = ap₂ (λ m j. m ++ j ∷ []) (take_all n s.name (omega (arith, l))) f in
      let path = ap (λ m. m ++ c ∷ []) (take_all (suc n) s.path (omega (arith, l, path_length r s h))) in
      down_is s (rejoined s n (i ∷ []) (c ∷ []) 0) c h e name path refl
