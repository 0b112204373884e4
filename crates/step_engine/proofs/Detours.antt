-- Detours: where they begin, what they read of the tree, and the steps that they take.
use Rattle.std.proofs.Common.{◌≡◌, ◌≢◌, ℕ, zero, suc, ◌+◌, ◌-◌, ◌<◌, ◌≤◌, Bool, true, false, List, All, [], ◌∷◌, ◌++◌, length, take, slice_index_or, refl, sym, ap, ap₂, ◌∙◌, subst, arith, append-nil, append_assoc, take_all, length-append, length-take, get_or-append-add, get_or-take}
use Rattle.std.proofs.lemmas.List.{take_more, length_push, get_or_push}
use Rattle.structure_check.specs.Rules.{TreeRules, AreSound}
use Rattle.tree_model.specs.declared.Rule.TheVariants.{Parent, Child}
use Rattle.tree_model.specs.Automata.{state_at, root_at, rule_at, side_count, next, previous}
use Rattle.tree_model.specs.Names.{IsNameBelow, child_of}
use Rattle.tree_model.specs.Positions.{Position, IsPosition, tree_across, rule_of, hop, parent, last_side}
use Rattle.tree_model.proofs.Positions.{make_position, left_position, right_position, parent_up}
use Rattle.tree_laws.specs.Directions.{turned}
use Rattle.spot_laws.specs.Spots.{TreeSpot, IsSpot, IsAt, position, root_kind, tile_state, faced_rule}
use Rattle.spot_laws.proofs.Spots.{spot_state, path_length, tile_known, down_is, up_is}
use Rattle.step_engine.specs.declared.detour.Detour.{Detour}
use Rattle.step_engine.specs.Detours.{IsShaped, IsDetour, IsAbove, HasReached, spot_there, there}

-- a detour that has not left the spot
pub starts : (r : TreeRules) (s : TreeSpot) (d : Detour) → AreSound r → IsSpot r s → d.kept ≡ length s.name → d.sides.items ≡ [] → d.states.items ≡ [] → d.tile ≡ tile_state r s → d.spin ≡ s.spin → HasReached r s (position s) d
starts r s d sound h k n p y z =
    let whole = path_length r s h in
    let name : take d.kept s.name ++ d.sides.items ≡ s.name = ap (λ m. take d.kept s.name ++ m) n ∙ append-nil (take d.kept s.name) ∙ take_all d.kept s.name (omega (arith, k)) in
    let path : take (suc d.kept) s.path ++ d.states.items ≡ s.path = ap (λ m. take (suc d.kept) s.path ++ m) p ∙ append-nil (take (suc d.kept) s.path) ∙ take_all (suc d.kept) s.path (omega (arith, k, whole)) in
    let same : spot_there s d ≡ s = λ i. record { name = name i; path = path i; spin = z i } in
    let shape : IsShaped s d = record { path = whole; kept = omega (arith, k); states = ap length p ∙ sym (ap length n) } in
    record { detour = record { sound = sound; shape = shape; spot = subst (IsSpot r) (sym same) h; tree = ap (root_kind r) same; tile = y ∙ sym (ap (tile_state r) same) }; arrives = ap position same }

length_kept : (n : ℕ) (xs : List ℕ) → n ≤ length xs → length (take n xs) ≡ n
length_kept n xs h = grind (arith, length-take n xs, h)

-- how many sides the name has
pub depth_is : (s : TreeSpot) (d : Detour) → IsShaped s d → length (there s d).name ≡ d.kept + length d.sides.items
depth_is s d h = length-append (take d.kept s.name) d.sides.items ∙ ap (λ n. n + length d.sides.items) (length_kept d.kept s.name h.kept)

no_items : (xs : List ℕ) → length xs ≡ 0 → xs ≡ []
no_items [] e = refl
no_items (x ∷ xs) e = absurd (omega (arith, e))

-- the last state, where the detour has entered some
last_entered : (xs ys : List ℕ) (n d : ℕ) → length xs ≡ suc n → 1 ≤ length ys → slice_index_or (xs ++ ys) (n + length ys) d ≡ slice_index_or ys (length ys - 1) d
last_entered xs ys n d h l =
    let i : n + length ys ≡ length xs + (length ys - 1) = omega (arith, h, l) in
    ap (λ i. slice_index_or (xs ++ ys) i d) i ∙ get_or-append-add xs ys (length ys - 1) d

pub state_entered : (r : TreeRules) (s : TreeSpot) (d : Detour) (x : ℕ) → IsShaped s d → IsSpot r (spot_there s d) → 1 ≤ length d.states.items → x ≡ slice_index_or d.states.items (length d.states.items - 1) x → x ≡ tile_state r (spot_there s d)
state_entered r s d x h spot l e =
    let n : length (there s d).name ≡ d.kept + length d.states.items = depth_is s d h ∙ ap (λ n. d.kept + n) (sym h.states) in
    let f = last_entered (take (suc d.kept) s.path) d.states.items d.kept x (length_kept (suc d.kept) s.path (omega (arith, h.kept, h.path))) l in
    e ∙ sym f ∙ ap (λ n. slice_index_or (spot_there s d).path n x) (sym n) ∙ spot_state r (spot_there s d) x spot

-- and where it has not
pub state_kept : (r : TreeRules) (s : TreeSpot) (d : Detour) → IsShaped s d → IsSpot r (spot_there s d) → length d.states.items ≡ 0 → slice_index_or s.path d.kept 0 ≡ tile_state r (spot_there s d)
state_kept r s d h spot l =
    let n : length (there s d).name ≡ d.kept = depth_is s d h ∙ omega (arith, l, h.states) in
    let none : d.states.items ≡ [] = no_items d.states.items l in
    let path : (spot_there s d).path ≡ take (suc d.kept) s.path = ap (λ m. take (suc d.kept) s.path ++ m) none ∙ append-nil (take (suc d.kept) s.path) in
    sym (get_or-take (suc d.kept) s.path d.kept 0 (omega arith)) ∙ ap₂ (λ p i. slice_index_or p i 0) (sym path) (sym n) ∙ spot_state r (spot_there s d) 0 spot

pub nothing_left : (n : ℕ) → (0 < n → false ≡ true) → n ≡ 0
nothing_left zero h = refl
nothing_left (suc n) h = let e = h (omega arith) in absurd (cc)

-- one step up, within the name of the spot
pub above_kept : (s : TreeSpot) (d d' : Detour) → IsShaped s d → 1 ≤ d.kept → length d.sides.items ≡ 0 → length d'.sides.items ≡ 0 → d'.states.items ≡ d.states.items → d'.kept ≡ d.kept - 1
    → d'.spin ≡ slice_index_or s.name (d.kept - 1) 0 → IsAbove (spot_there s d') (spot_there s d)
above_kept s d d' h l z z' p k n =
    let m : suc d'.kept ≡ d.kept = omega (arith, k, l) in
    let n1 : d'.kept + 1 ≡ d.kept = omega (arith, m) in
    let n2 : suc d'.kept + 1 ≡ suc d.kept = omega (arith, m) in
    let none = no_items d.sides.items z in
    let none' = no_items d'.sides.items z' in
    let states = no_items d.states.items (omega (arith, h.states, z)) in
    let side : slice_index_or s.name d'.kept 0 ≡ d'.spin = ap (λ i. slice_index_or s.name i 0) k ∙ sym n in
    let name : take d.kept s.name ≡ take d'.kept s.name ++ d'.spin ∷ [] =
    ap (λ i. take i s.name) (sym n1) ∙ take_more s.name d'.kept 0 (omega (arith, m, h.kept)) ∙ ap (λ i. take d'.kept s.name ++ i ∷ []) side in
    let path : take (suc d.kept) s.path ≡ take (suc d'.kept) s.path ++ slice_index_or s.path (suc d'.kept) 0 ∷ [] =
    ap (λ i. take i s.path) (sym n2) ∙ take_more s.path (suc d'.kept) 0 (omega (arith, m, h.kept, h.path)) in
    record {
      name = ap (λ xs. take d.kept s.name ++ xs) none ∙ append-nil (take d.kept s.name) ∙ name ∙ ap (λ xs. xs ++ d'.spin ∷ []) (sym (append-nil (take d'.kept s.name)) ∙ ap (λ xs. take d'.kept s.name ++ xs) (sym none'));
      last = slice_index_or s.path (suc d'.kept) 0;
      path = ap (λ xs. take (suc d.kept) s.path ++ xs) states ∙ append-nil (take (suc d.kept) s.path) ∙ path ∙ ap (λ xs. xs ++ slice_index_or s.path (suc d'.kept) 0 ∷ []) (sym (append-nil (take (suc d'.kept) s.path)) ∙ ap (λ xs. take (suc d'.kept) s.path ++ xs) (sym states ∙ sym p));
    }

-- where no side was entered, the place is no root only within the name of the spot
pub some_kept : (s : TreeSpot) (d : Detour) → length d.sides.items ≡ 0 → (there s d).name ≢ [] → 1 ≤ d.kept
some_kept s d z no_root = go d.kept refl
  where
    go : (n : ℕ) → d.kept ≡ n → 1 ≤ d.kept
    go zero e = absurd (no_root (ap (λ i. take i s.name ++ d.sides.items) e ∙ ap (λ xs. take 0 s.name ++ xs) (no_items d.sides.items z)))
    go (suc n) e = omega (arith, e)

-- each side of a name is below 64, hence each side that was entered
entered_small : (xs ys : List ℕ) → All (λ i. i < 64) (xs ++ ys) → All (λ i. i < 64) ys
entered_small xs ys h = λ k d l. subst (λ i. i < 64) (get_or-append-add xs ys k d) (h (length xs + k) d (omega (arith, l, length-append xs ys)))

module _ (r : TreeRules) (sound : AreSound r) where
  abbrev Home : TreeSpot → ℕ
  Home s = root_kind r s

  -- the position, in the tree of the spot
  pub at_home : (s : TreeSpot) (d : Detour) → IsDetour r s d → IsPosition r.kinds r.automaton (Home s) (there s d)
  at_home s d h = subst (λ k. IsPosition r.kinds r.automaton k (there s d)) h.tree h.spot.there

  pub known_home : (s : TreeSpot) (d : Detour) → IsDetour r s d → Home s < length r.kinds
  known_home s d h = subst (λ k. k < length r.kinds) h.tree h.spot.known

  pub rule_home : (s : TreeSpot) (d : Detour) → IsDetour r s d → faced_rule r (spot_there s d) ≡ rule_of r.kinds r.automaton (Home s) (there s d)
  rule_home s d h = ap (λ k. rule_of r.kinds r.automaton k (there s d)) h.tree

  pub state_in_range : (s : TreeSpot) (d : Detour) → IsDetour r s d → d.tile < length r.automaton.states
  state_in_range s d h = subst (λ n. n < length r.automaton.states) (sym h.tile) (tile_known r sound (spot_there s d) h.spot)

  -- another side of the same tile
  pub turns_to : (s : TreeSpot) (d d' : Detour) (leftwards : Bool) → IsDetour r s d → d'.kept ≡ d.kept → d'.sides.items ≡ d.sides.items → d'.states.items ≡ d.states.items → d'.tile ≡ d.tile
      → (leftwards ≡ true → d'.spin ≡ next (side_count r.kinds r.automaton d.tile) d.spin)
      → (leftwards ≡ false → d'.spin ≡ previous (side_count r.kinds r.automaton d.tile) d.spin)
      → HasReached r s (turned r.kinds r.automaton (Home s) leftwards (there s d)) d'
  turns_to s d d' leftwards h k n p y left right =
      go leftwards (λ e. left e ∙ ap (λ x. next (side_count r.kinds r.automaton x) d.spin) h.tile) (λ e. right e ∙ ap (λ x. previous (side_count r.kinds r.automaton x) d.spin) h.tile)
    where
      shape : IsShaped s d'
      shape = record { path = h.shape.path; kept = omega (arith, k, h.shape.kept); states = ap length p ∙ h.shape.states ∙ sym (ap length n) }

      name : (there s d').name ≡ (there s d).name
      name = ap₂ (λ i m. take i s.name ++ m) k n

      path : (spot_there s d').path ≡ (spot_there s d).path
      path = ap₂ (λ i m. take (suc i) s.path ++ m) k p

      to : (i : ℕ) → d'.spin ≡ i → IsPosition r.kinds r.automaton (root_kind r (spot_there s d)) (make_position (there s d).name i) → HasReached r s (make_position (there s d).name i) d'
      to i e there =
          let t : TreeSpot = record { name = (spot_there s d).name; path = (spot_there s d).path; spin = i } in
          let same : spot_there s d' ≡ t = λ j. record { name = name j; path = path j; spin = e j } in
          let spot : IsSpot r t = record { known = h.spot.known; there = there; along = h.spot.along } in
          record { detour = record { sound = sound; shape = shape; spot = subst (IsSpot r) (sym same) spot; tree = ap (root_kind r) same ∙ h.tree; tile = y ∙ h.tile ∙ sym (ap (tile_state r) same) }; arrives = ap position same }

      go : (b : Bool) → (b ≡ true → d'.spin ≡ next (side_count r.kinds r.automaton (tile_state r (spot_there s d))) d.spin)
          → (b ≡ false → d'.spin ≡ previous (side_count r.kinds r.automaton (tile_state r (spot_there s d))) d.spin)
          → HasReached r s (turned r.kinds r.automaton (Home s) b (there s d)) d'
      go true f g =
          subst (λ k. HasReached r s (turned r.kinds r.automaton k true (there s d)) d') h.tree (to (next (side_count r.kinds r.automaton (tile_state r (spot_there s d))) d.spin) (f refl) (left_position r.kinds r.automaton (root_kind r (spot_there s d)) (there s d) h.spot.there))
      go false f g =
          subst (λ k. HasReached r s (turned r.kinds r.automaton k false (there s d)) d') h.tree (to (previous (side_count r.kinds r.automaton (tile_state r (spot_there s d))) d.spin) (g refl) (right_position r.kinds r.automaton (root_kind r (spot_there s d)) (there s d) h.spot.there))

  -- to a spot in the tree of the spot there
  comes : (s : TreeSpot) (d d' : Detour) (p : Position) → IsDetour r s d → IsShaped s d' → IsAt r (root_kind r (spot_there s d)) p (spot_there s d') → d'.tile ≡ tile_state r (spot_there s d') → HasReached r s p d'
  comes s d d' p h shape at tile = record { detour = record { sound = sound; shape = shape; spot = at.spot; tree = at.tree ∙ h.tree; tile = tile }; arrives = at.stands }

  -- to the child
  pub goes_down : (s : TreeSpot) (d d' : Detour) (c : ℕ) → IsDetour r s d → faced_rule r (spot_there s d) ≡ Child c
      → d'.kept ≡ d.kept → d'.sides.items ≡ d.sides.items ++ d.spin ∷ [] → d'.states.items ≡ d.states.items ++ c ∷ [] → d'.tile ≡ c → d'.spin ≡ 0
      → HasReached r s (hop r.kinds r.automaton (Home s) (there s d)) d'
  goes_down s d d' c h e k n p y z =
      let shape : IsShaped s d' = record { path = h.shape.path; kept = omega (arith, k, h.shape.kept); states = omega (arith, ap length p, ap length n, length_push d.states.items c, length_push d.sides.items d.spin, h.shape.states) } in
      let name : (spot_there s d').name ≡ (spot_there s d).name ++ d.spin ∷ [] = ap₂ (λ i m. take i s.name ++ m) k n ∙ sym (append_assoc (take d.kept s.name) d.sides.items (d.spin ∷ [])) in
      let path : (spot_there s d').path ≡ (spot_there s d).path ++ c ∷ [] = ap₂ (λ i m. take (suc i) s.path ++ m) k p ∙ sym (append_assoc (take (suc d.kept) s.path) d.states.items (c ∷ [])) in
      let at = down_is r sound (spot_there s d) (spot_there s d') c h.spot e name path z in
      let last : length (spot_there s d).path ≡ length (spot_there s d').name = omega (arith, path_length r (spot_there s d) h.spot, ap length name, length_push (spot_there s d).name d.spin) in
      let tile : d'.tile ≡ tile_state r (spot_there s d') =
      y ∙ sym (ap (λ xs. slice_index_or xs (length (spot_there s d').name) c) path ∙ get_or_push (spot_there s d).path c c (length (spot_there s d').name) last) ∙ spot_state r (spot_there s d') c at.spot in
      let across = ap (λ x. tree_across x (there s d)) (sym (rule_home s d h) ∙ e) in
      subst (λ q. HasReached r s q d') (sym across) (comes s d d' (make_position ((spot_there s d).name ++ d.spin ∷ []) 0) h shape at tile)

  -- to the parent
  pub goes_up : (s : TreeSpot) (d d' : Detour) → IsDetour r s d → faced_rule r (spot_there s d) ≡ Parent → IsShaped s d' → IsAbove (spot_there s d') (spot_there s d)
      → (IsSpot r (spot_there s d') → d'.tile ≡ tile_state r (spot_there s d')) → HasReached r s (hop r.kinds r.automaton (Home s) (there s d)) d'
  goes_up s d d' h e shape above tile =
      let at = up_is r (spot_there s d) (spot_there s d') above.last h.spot above.name above.path in
      let across = ap (λ x. tree_across x (there s d)) (sym (rule_home s d h) ∙ e) in
      subst (λ q. HasReached r s q d') (sym across) (comes s d d' (make_position (parent (there s d).name) (last_side (there s d).name)) h shape at (tile at.spot))

  -- a Parent side is that of no root
  pub has_parent : (s : TreeSpot) (d : Detour) → IsDetour r s d → faced_rule r (spot_there s d) ≡ Parent → (there s d).name ≢ []
  has_parent s d h e n =
      let k = root_kind r (spot_there s d) in
      let above = (parent_up r.kinds r.automaton k sound.valid sound.accepted h.spot.known (there s d) h.spot.there e).name in
      let l : 0 ≡ length ((hop r.kinds r.automaton k (there s d)).name ++ (hop r.kinds r.automaton k (there s d)).side ∷ []) = ap length (sym n ∙ above) in
      absurd (omega (arith, l, length_push (hop r.kinds r.automaton k (there s d)).name (hop r.kinds r.automaton k (there s d)).side))

  few_sides_of : (s : ℕ) → s < length r.automaton.states → side_count r.kinds r.automaton s ≤ 64
  unfolding side_count
  few_sides_of s h = (sound.valid.sides (state_at r.automaton s).kind (sound.accepted.c1.tables s h).kind).1

  names_small : (s : ℕ) (m : List ℕ) → s < length r.automaton.states → IsNameBelow r.kinds r.automaton s m → (k d : ℕ) → k < length m → slice_index_or m k d < 64
  names_small s [] h n k d l = absurd (omega (arith, l))
  names_small s (i ∷ m) h n zero d l = omega (arith, n.0, few_sides_of s h)
  names_small s (i ∷ m) h n (suc k) d l = names_small (child_of (rule_at r.automaton s i)) m ((sound.accepted.c1.targets s h).child i (child_of (rule_at r.automaton s i)) n.0 n.1) n.2 k d (omega (arith, l))

  pub sides_small : (s : TreeSpot) (d : Detour) → IsDetour r s d → All (λ i. i < 64) d.sides.items
  sides_small s d h =
      let k = root_kind r (spot_there s d) in
      entered_small (take d.kept s.name) d.sides.items (names_small (root_at r.automaton k) (there s d).name (sound.accepted.c1.root k h.spot.known) h.spot.there.name)
