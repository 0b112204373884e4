-- What is read with readers, and the automata that it makes.
use Rattle.std.proofs.Common.{◌≡◌, ℕ, ◌+◌, ◌<◌, List, length, slice_index_or, Some, None, sym, ap, ◌∙◌, subst, inl, inr, arith}
use Rattle.std.proofs.lemmas.Bool.{cases_lt}
use Rattle.std.proofs.lemmas.List.{get_or_past, length-map}
use Rattle.tree_model.specs.Automata.{TreeAutomaton, no_state, no_corner, state_at, corner_at, root_at}
use Rattle.look_classes.specs.Tree.{dart_of, sides_of}
use Rattle.look_classes.specs.Looks.{corner_look}
use Rattle.look_classes.specs.Numbers.{entry}
use Rattle.look_classes.specs.Classes.{sides_below, made}
use Rattle.state_candidates.specs.Reading.{IsFirstWith, corner_index, corner_of}
use Rattle.state_candidates.specs.Candidates.{corners_before}
use Rattle.state_candidates.specs.Readers.{ReaderState, IsReader, state_read, corner_read, tables_of}
use Rattle.state_candidates.specs.Gathered.{reader_at, lists_of, AreReaders, HaveStates, HaveCorners, HaveRoots, LackStates, LackCorners, IsAssembled}
use Rattle.state_candidates.proofs.Sides.{side_at, side_find}

-- what is read of a side, by its index
corner_side : (v : ReaderState) (c i : ℕ) → c < made v.region → i < sides_of v.region c → corner_read v (corner_index v.region c i) ≡ corner_of v.region v.lists v.first_corner (dart_of v.region c i)
corner_side v c i made within = ap (λ (s : ℕ × ℕ). corner_of v.region v.lists v.first_corner (dart_of v.region s.0 s.1)) (side_at v.region (length v.region.table.origins) c i made within)

-- an entry with a number is that of a side
entry_within : (v : ReaderState) → IsReader v → (j m : ℕ) → entry v.lists.corners j ≡ Some m → j < length (sides_below (made v.region) v.region)
entry_within v ok j m is = elim (cases_lt j (length v.lists.corners)) [
  | inl below ↦ omega (arith, below, ok.classes.corners.long, length-map (sides_below (made v.region) v.region) (λ (s : ℕ × ℕ). corner_look v.horizon v.region (dart_of v.region s.0 s.1)))
  | inr past ↦ let gone : entry v.lists.corners j ≡ None = get_or_past v.lists.corners j None past in absurd (cc (is, gone))
]

module _ (rs : List ReaderState) (ok : AreReaders rs) where
  assembled_states : (a : TreeAutomaton) → IsAssembled rs a → HaveStates rs a.states (length rs)
  unfolding state_at
  assembled_states a h = record {
    long = h.state_count;
    each = λ k m i less first.
        subst (λ f. state_read (reader_at rs k) i ≡ Some (slice_index_or a.states (f + m) no_state)) (ok k less).first_state ((h.read k less).states m i first);
  }

  assembled_corners : (a : TreeAutomaton) → IsAssembled rs a → HaveCorners rs a.corners (length rs)
  unfolding corner_at
  assembled_corners a h = record {
    long = h.corner_count;
    each = λ k m j less first.
        let v = reader_at rs k in
        let s = side_find v.region (made v.region) j (entry_within v (ok k less).reader j m first.here) in
        let at : IsFirstWith v.lists.corners m (corner_index v.region s.cell s.side) = subst (IsFirstWith v.lists.corners m) s.is first in
        let read : corner_read v j ≡ Some (tables_of (slice_index_or a.corners (v.first_corner + m) no_corner)) = ap (corner_read v) s.is ∙ (corner_side v s.cell s.side s.made s.within ∙ (h.read k less).corners m s.cell s.side s.made s.within at) in
        subst (λ f. corner_read v j ≡ Some (tables_of (slice_index_or a.corners (f + m) no_corner))) (ok k less).first_corner read;
  }

  pub none_lacking_states : LackStates rs → (a : TreeAutomaton) → IsAssembled rs a → ⊥
  none_lacking_states lack a h =
      let x = lack.lacking in
      let there = (h.read lack.number lack.within).states x.number x.at x.is_first in
      absurd (cc (there, x.none))

  pub none_lacking_corners : LackCorners rs → (a : TreeAutomaton) → IsAssembled rs a → ⊥
  none_lacking_corners lack a h =
      let x = lack.lacking in
      let there = (assembled_corners a h).each lack.number x.number x.at lack.within x.is_first in
      absurd (cc (there, x.none))

  -- what is read makes an automaton
  pub assembled : (a : TreeAutomaton) → HaveRoots rs a.roots (length rs) → HaveStates rs a.states (length rs) → HaveCorners rs a.corners (length rs) → IsAssembled rs a
  unfolding state_at corner_at root_at
  assembled a roots states corners = record {
    read = λ k less.
        let v = reader_at rs k in
        record {
          states = λ m c first. subst (λ f. state_read v c ≡ Some (slice_index_or a.states (f + m) no_state)) (sym (ok k less).first_state) (states.each k m c less first);
          corners = λ m c i made within first.
              let read : corner_of v.region v.lists v.first_corner (dart_of v.region c i) ≡ Some (tables_of (slice_index_or a.corners (corners_before (lists_of rs) k + m) no_corner)) = sym (corner_side v c i made within) ∙ corners.each k m (corner_index v.region c i) less first in
              subst (λ f. corner_of v.region v.lists v.first_corner (dart_of v.region c i) ≡ Some (tables_of (slice_index_or a.corners (f + m) no_corner))) (sym (ok k less).first_corner) read;
          root = roots.each k less;
        };
    state_count = states.long;
    corner_count = corners.long;
    root_count = roots.long;
  }
