-- Regions have one candidate to a horizon.
use Rattle.std.proofs.Common.{◌≡◌, ℕ, suc, ◌+◌, ◌<◌, List, length, sym, ap, ◌∙◌, subst, arith}
use Rattle.std.proofs.lemmas.List.{same_lists, get_or_default, length-map}
use Rattle.std.proofs.lemmas.Option.{same_Some}
use Rattle.tile_model.specs.Tessellations.{TileKind}
use Rattle.tree_model.specs.Automata.{TreeAutomaton, no_state, no_corner, state_at, corner_at, root_at}
use Rattle.region_grower.specs.Regions.{RegionState}
use Rattle.look_classes.specs.Tree.{dart_of}
use Rattle.look_classes.specs.Looks.{corner_look}
use Rattle.look_classes.specs.Classes.{sides_below, made}
use Rattle.state_candidates.specs.Reading.{IsFirstWith, corner_index}
use Rattle.state_candidates.specs.Candidates.{no_lists, region_at, lists_at, states_before, corners_before, IsReadOff, IsCandidate}
use Rattle.state_candidates.specs.Readers.{tables_of}
use Rattle.state_candidates.proofs.Sides.{side_find}
use Rattle.state_candidates.proofs.Numbered.{first_with, same_classes, entry_below}
use Rattle.state_candidates.proofs.Having.{find_part}

module _ (kinds : List TileKind) (regions : List RegionState) (h : ℕ) (a b : TreeAutomaton) (one : IsCandidate kinds regions h a) (two : IsCandidate kinds regions h b) where
  lists_same : two.lists ≡ one.lists
  lists_same = same_lists two.lists one.lists (two.long ∙ sym one.long) (λ k d below.
      let less : k < length regions = omega (arith, below, two.long) in
      let there : k < length one.lists = omega (arith, less, one.long) in
      get_or_default two.lists k d no_lists below ∙ (same_classes h (region_at regions k) (lists_at two.lists k) (lists_at one.lists k) (two.classes k less) (one.classes k less) ∙ get_or_default one.lists k no_lists d there))

  -- what the second one reads, with the lists of the first one
  read : (k : ℕ) → k < length regions → IsReadOff (region_at regions k) (lists_at one.lists k) (states_before one.lists k) (corners_before one.lists k) k b
  read k less = subst (λ ls. IsReadOff (region_at regions k) (lists_at ls k) (states_before ls k) (corners_before ls k) k b) lists_same (two.read k less)

  state_same : (g : ℕ) → g < length a.states → state_at a g ≡ state_at b g
  state_same g below =
      let p = find_part (λ x. x.cell_count) one.lists (length regions) (omega (arith, one.long)) g (omega (arith, below, one.state_count)) in
      let x = lists_at one.lists p.part in
      let some = ((one.classes p.part p.within).cells.counted p.number).0 p.below in
      let first = first_with x.cells p.number (suc some.0) some.0 (omega arith) some.1 in
      let mine = (one.read p.part p.within).states p.number first.0 first.1 in
      let theirs = (read p.part p.within).states p.number first.0 first.1 in
      let n = states_before one.lists p.part + p.number in
      let same : state_at a n ≡ state_at b n = same_Some (state_at a n) (state_at b n) (sym mine ∙ theirs) in
      subst (λ j. state_at a j ≡ state_at b j) (sym p.is) same

  corner_same : (g : ℕ) → g < length a.corners → corner_at a g ≡ corner_at b g
  corner_same g below =
      let p = find_part (λ x. x.corner_count) one.lists (length regions) (omega (arith, one.long)) g (omega (arith, below, one.corner_count)) in
      let x = lists_at one.lists p.part in
      let r = region_at regions p.part in
      let numbers = (one.classes p.part p.within).corners in
      let some = (numbers.counted p.number).0 p.below in
      let first = first_with x.corners p.number (suc some.0) some.0 (omega arith) some.1 in
      let within : first.0 < length (sides_below (made r) r) = omega (arith, entry_below x.corners first.0 p.number first.1.here, numbers.long, length-map (sides_below (made r) r) (λ (s : ℕ × ℕ). corner_look h r (dart_of r s.0 s.1))) in
      let s = side_find r (made r) first.0 within in
      let at : IsFirstWith x.corners p.number (corner_index r s.cell s.side) = subst (IsFirstWith x.corners p.number) s.is first.1 in
      let mine = (one.read p.part p.within).corners p.number s.cell s.side s.made s.within at in
      let theirs = (read p.part p.within).corners p.number s.cell s.side s.made s.within at in
      let n = corners_before one.lists p.part + p.number in
      let tables : tables_of (corner_at a n) ≡ tables_of (corner_at b n) = same_Some (tables_of (corner_at a n)) (tables_of (corner_at b n)) (sym mine ∙ theirs) in
      let same : corner_at a n ≡ corner_at b n = λ i. record { offsets = (tables i).0; outer = (tables i).1 } in
      subst (λ j. corner_at a j ≡ corner_at b j) (sym p.is) same

  root_same : (k : ℕ) → k < length regions → root_at a k ≡ root_at b k
  root_same k less = same_Some (root_at a k) (root_at b k) (sym (one.read k less).root ∙ (read k less).root)

  corners_same : a.corners ≡ b.corners
  unfolding corner_at
  corners_same =
      let long : length a.corners ≡ length b.corners = one.corner_count ∙ (ap (λ ls. corners_before ls (length regions)) (sym lists_same) ∙ sym two.corner_count) in
      same_lists a.corners b.corners long (λ k d below. get_or_default a.corners k d no_corner below ∙ (corner_same k below ∙ get_or_default b.corners k no_corner d (omega (arith, below, long))))

  states_same : a.states ≡ b.states
  unfolding state_at
  states_same =
      let long : length a.states ≡ length b.states = one.state_count ∙ (ap (λ ls. states_before ls (length regions)) (sym lists_same) ∙ sym two.state_count) in
      same_lists a.states b.states long (λ k d below. get_or_default a.states k d no_state below ∙ (state_same k below ∙ get_or_default b.states k no_state d (omega (arith, below, long))))

  roots_same : a.roots ≡ b.roots
  unfolding root_at
  roots_same =
      let long : length a.roots ≡ length b.roots = one.root_count ∙ sym two.root_count in
      same_lists a.roots b.roots long (λ k d below. get_or_default a.roots k d 0 below ∙ (root_same k (omega (arith, below, one.root_count, one.one_each)) ∙ get_or_default b.roots k 0 d (omega (arith, below, long))))

  pub one_candidate : a ≡ b
  one_candidate = λ i. record { states = states_same i; corners = corners_same i; roots = roots_same i }
