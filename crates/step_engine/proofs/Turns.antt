-- Turns by several sides at once.
use Rattle.std.proofs.Common.{◌≡◌, ℕ, zero, suc, ◌+◌, ◌%◌, ◌<◌, ◌⊎◌, inl, inr, List, ◌++◌, length, take, replicate, sym, ap, ap₂, ◌∙◌, subst, arith, mod-lt, mod-eq_of_lt}
use Rattle.std.proofs.Math.Nat.{mod-add-mod, mod_self}
use Rattle.std.proofs.lemmas.Bool.{cases_eq}
use Rattle.tile_model.specs.declared.Letter.TheVariants.{L, R}
use Rattle.tile_model.specs.Tessellations.{TileKind}
use Rattle.structure_check.specs.Rules.{TreeRules, AreSound}
use Rattle.tree_model.specs.Automata.{TreeAutomaton, side_count, next, previous}
use Rattle.tree_model.specs.Names.{state_of}
use Rattle.tree_model.specs.Positions.{Leads}
use Rattle.tree_model.proofs.Sides.{next_last, next_inner, previous_next}
use Rattle.tree_model.proofs.Positions.{make_position}
use Rattle.spot_laws.specs.Spots.{TreeSpot, IsSpot, root_kind, tile_state}
use Rattle.step_engine.specs.declared.detour.Detour.{Detour}
use Rattle.step_engine.specs.Detours.{IsShaped, IsDetour, HasTurned, spot_there, there}

next_small : (n i : ℕ) → i < n → next n i ≡ suc i % n
next_small n i h = go (cases_eq (suc i) n)
  where
    go : (suc i ≡ n) ⊎ (suc i ≡ n → ⊥) → next n i ≡ suc i % n
    go (inl e) = next_last n i e ∙ sym (ap (λ m. m % n) e ∙ mod_self n)
    go (inr f) = let less : suc i < n = omega (arith, h, f) in next_inner n i less ∙ sym (mod-eq_of_lt less)

-- the side next to the left, of n sides
next_mod : (n x : ℕ) → 0 < n → next n (x % n) ≡ suc x % n
next_mod n x some =
    let one : x % n + 1 ≡ suc (x % n) = omega arith in
    let more : x + 1 ≡ suc x = omega arith in
    next_small n (x % n) (mod-lt x some) ∙ ap (λ i. i % n) (sym one) ∙ mod-add-mod x n 1 ∙ ap (λ i. i % n) more

module _ (kinds : List TileKind) (a : TreeAutomaton) (k : ℕ) (m : List ℕ) where
  abbrev Sides : ℕ
  Sides = side_count kinds a (state_of a k m)

  lefts : (i j : ℕ) → 0 < Sides → Leads kinds a k (make_position m (j % Sides)) (replicate i L) (make_position m ((j + i) % Sides))
  lefts zero j some = let e : j ≡ j + 0 = omega arith in ap (λ x. make_position m (x % Sides)) e
  lefts (suc i) j some =
      let e : suc j + i ≡ j + suc i = omega arith in
      (make_position m (suc j % Sides), ap (make_position m) (next_mod Sides j some), subst (λ x. Leads kinds a k (make_position m (suc j % Sides)) (replicate i L) (make_position m (x % Sides))) e (lefts i (suc j) some))

  rights : (i j : ℕ) → 0 < Sides → Leads kinds a k (make_position m ((j + i) % Sides)) (replicate i R) (make_position m (j % Sides))
  rights zero j some = let e : j + 0 ≡ j = omega arith in ap (λ x. make_position m (x % Sides)) e
  rights (suc i) j some =
      let e : suc (j + i) ≡ j + suc i = omega arith in
      let back : previous Sides ((j + suc i) % Sides) ≡ (j + i) % Sides =
      ap (λ x. previous Sides (x % Sides)) (sym e) ∙ ap (previous Sides) (sym (next_mod Sides (j + i) some)) ∙ previous_next Sides ((j + i) % Sides) (mod-lt (j + i) some) in
      (make_position m ((j + i) % Sides), ap (make_position m) back, rights i j some)

  pub lefts_by : (i j x : ℕ) → j < Sides → x ≡ (j + i) % Sides → Leads kinds a k (make_position m j) (replicate i L) (make_position m x)
  lefts_by i j x h e =
      let some : 0 < Sides = omega (arith, h) in
      subst (λ y. Leads kinds a k (make_position m j) (replicate i L) (make_position m y)) (sym e) (subst (λ y. Leads kinds a k (make_position m y) (replicate i L) (make_position m ((j + i) % Sides))) (mod-eq_of_lt h) (lefts i j some))

  pub rights_by : (i j x : ℕ) → x < Sides → (x + i) % Sides ≡ j → Leads kinds a k (make_position m j) (replicate i R) (make_position m x)
  rights_by i j x h e =
      let some : 0 < Sides = omega (arith, h) in
      subst (λ y. Leads kinds a k (make_position m y) (replicate i R) (make_position m x)) e (subst (λ y. Leads kinds a k (make_position m ((x + i) % Sides)) (replicate i R) (make_position m y)) (mod-eq_of_lt h) (rights i x some))

-- the side that a detour faces is one of its tile
pub faces_within : (r : TreeRules) (s : TreeSpot) (d : Detour) → IsDetour r s d → d.spin < side_count r.kinds r.automaton d.tile
faces_within r s d h = subst (λ x. d.spin < side_count r.kinds r.automaton x) (sym h.tile) h.spot.there.side

module _ (r : TreeRules) (sound : AreSound r) (s : TreeSpot) (d d' : Detour) (h : IsDetour r s d) (k : d'.kept ≡ d.kept) (n : d'.sides.items ≡ d.sides.items) (p : d'.states.items ≡ d.states.items) (t : d'.tile ≡ d.tile) where
  -- another side of the same tile
  pub faces : d'.spin < side_count r.kinds r.automaton d.tile → IsDetour r s d'
  faces within = record { sound = sound; shape = shape; spot = subst (IsSpot r) (sym same) spot; tree = ap (root_kind r) same ∙ h.tree; tile = t ∙ h.tile ∙ sym (ap (tile_state r) same) }
    where
      shape : IsShaped s d'
      shape = record { path = h.shape.path; kept = omega (arith, k, h.shape.kept); states = ap length p ∙ h.shape.states ∙ sym (ap length n) }

      turned : TreeSpot
      turned = record { name = (spot_there s d).name; path = (spot_there s d).path; spin = d'.spin }

      same : spot_there s d' ≡ turned
      same = λ j. record { name = ap₂ (λ i m. take i s.name ++ m) k n j; path = ap₂ (λ i m. take (suc i) s.path ++ m) k p j; spin = d'.spin }

      spot : IsSpot r turned
      spot = record { known = h.spot.known; there = record { name = h.spot.there.name; side = subst (λ x. d'.spin < side_count r.kinds r.automaton x) h.tile within }; along = h.spot.along }

  same_place : there s d' ≡ make_position (there s d).name d'.spin
  same_place = ap₂ (λ i m. make_position (take i s.name ++ m) d'.spin) k n

  abbrev Count : ℕ
  Count = side_count r.kinds r.automaton d.tile

  -- the sides of the tile there, counted in the tree of the spot
  counted : d.tile ≡ state_of r.automaton (root_kind r s) (there s d).name
  counted = h.tile ∙ ap (λ j. state_of r.automaton j (there s d).name) h.tree

  pub turned_lefts : (i : ℕ) → d'.spin ≡ (d.spin + i) % Count → HasTurned r s d L i d'
  turned_lefts i e = record {
    detour = faces (subst (λ x. x < Count) (sym e) (mod-lt (d.spin + i) (omega (arith, from))));
    leads = subst (λ q. Leads r.kinds r.automaton (root_kind r s) (there s d) (replicate i L) q) (sym same_place)
        (lefts_by r.kinds r.automaton (root_kind r s) (there s d).name i d.spin d'.spin (subst (λ x. d.spin < side_count r.kinds r.automaton x) counted from) (subst (λ x. d'.spin ≡ (d.spin + i) % side_count r.kinds r.automaton x) counted e));
  }
    where
      from : d.spin < Count
      from = faces_within r s d h

  pub turned_rights : (i : ℕ) → d'.spin < Count → (d'.spin + i) % Count ≡ d.spin → HasTurned r s d R i d'
  turned_rights i within e = record {
    detour = faces within;
    leads = subst (λ q. Leads r.kinds r.automaton (root_kind r s) (there s d) (replicate i R) q) (sym same_place)
        (rights_by r.kinds r.automaton (root_kind r s) (there s d).name i d.spin d'.spin (subst (λ x. d'.spin < side_count r.kinds r.automaton x) counted within) (subst (λ x. (d'.spin + i) % side_count r.kinds r.automaton x ≡ d.spin) counted e));
  }
