-- The automata that are read with the readers of regions are their candidates.
use Rattle.std.proofs.Common.{◌≡◌, ℕ, zero, suc, ◌+◌, ◌<◌, ◌≤◌, List, take, length, sum_by, Option, None, Some, IfSome, IfNone, Result, Ok, Err, IfOk, sym, ap, ◌∙◌, subst, arith, add-one}
use Rattle.std.proofs.lemmas.List.{same_lists, get_or_default}
use Rattle.tile_model.specs.Tessellations.{TileKind}
use Rattle.tree_model.specs.Automata.{TreeAutomaton}
use Rattle.region_grower.specs.Regions.{RegionState}
use Rattle.look_classes.specs.Classes.{ClassLists, AreClasses}
use Rattle.look_classes.specs.States.{LooksState}
use Rattle.state_candidates.specs.Candidates.{no_lists, region_at, lists_at, states_before, corners_before, AreLooks, IsReadOff, IsCandidate}
use Rattle.state_candidates.specs.Readers.{ReaderState}
use Rattle.state_candidates.specs.Gathered.{reader_at, lists_of, AreReaders, AreReadersOf, AreClassesOf, HasTooMany, IsAssembled}
use Rattle.state_candidates.proofs.Gathering.{before_more, lists_long, lists_read, lists_agree}

-- there are not too many states and corner types in all
few_in_all : (most : ℕ) (f : ClassLists → ℕ) (lists : List ClassLists) (n : ℕ) → n ≤ length lists → ((k : ℕ) → k < n → sum_by f (take k lists) + f (lists_at lists k) ≤ most) → sum_by f (take n lists) ≤ most
few_in_all most f lists zero within few = omega arith
few_in_all most f lists (suc n) within few = subst (λ m. sum_by f (take m lists) ≤ most) (add-one n) (omega (arith, before_more f lists n (omega (arith, within)), few n (omega arith)))

few_states : (rs : List ReaderState) → AreReaders rs → states_before (lists_of rs) (length rs) ≤ 100000
few_states rs ok = few_in_all 100000 (λ x. x.cell_count) (lists_of rs) (length rs) (omega (arith, lists_long rs)) (λ k less. omega (arith, (ok k less).reader.few_states, (ok k less).first_state, ap (λ (x : ClassLists). x.cell_count) (lists_read rs k less)))

few_corners : (rs : List ReaderState) → AreReaders rs → corners_before (lists_of rs) (length rs) ≤ 20000
few_corners rs ok = few_in_all 20000 (λ x. x.corner_count) (lists_of rs) (length rs) (omega (arith, lists_long rs)) (λ k less. omega (arith, (ok k less).reader.few_corners, (ok k less).first_corner, ap (λ (x : ClassLists). x.corner_count) (lists_read rs k less)))

-- the classes of a candidate are those of the looks
module _ (regions : List RegionState) (h : ℕ) (looks : List LooksState) (ok : AreLooks regions h looks) (all : length looks ≡ length regions) (kinds : List TileKind) where
  classes_of : (a : TreeAutomaton) (is : IsCandidate kinds regions h a) → AreClassesOf looks is.lists
  classes_of a is = record {
    long = is.long ∙ sym all;
    each = λ k less. subst (λ (l : LooksState). AreClasses l.horizon l.region (lists_at is.lists k)) (sym (ok.each k less)) (is.classes k (omega (arith, less, all)));
  }

  pub none_where_many : HasTooMany looks → (a : TreeAutomaton) → IsCandidate kinds regions h a → ⊥
  none_where_many many a is =
      many is.lists (classes_of a is)
      (omega (arith, is.few_states, is.state_count, ap (states_before is.lists) all))
      (omega (arith, is.few_corners, is.corner_count, ap (corners_before is.lists) all))

  module _ (rs : List ReaderState) (count : length rs ≡ length looks) (readers : AreReadersOf looks rs) (kinds_all : length regions ≡ length kinds) where
    region_is : (k : ℕ) → k < length rs → (reader_at rs k).region ≡ region_at regions k
    region_is k less = readers.region k less ∙ ap (λ (l : LooksState). l.region) (ok.each k (omega (arith, less, count)))

    horizon_is : (k : ℕ) → k < length rs → (reader_at rs k).horizon ≡ h
    horizon_is k less = readers.horizon k less ∙ ap (λ (l : LooksState). l.horizon) (ok.each k (omega (arith, less, count)))

    pub is_candidate : (a : TreeAutomaton) → IsAssembled rs a → IsCandidate kinds regions h a
    is_candidate a whole =
        let many : length rs ≡ length regions = count ∙ all in
        record {
          one_each = kinds_all;
          lists = lists_of rs;
          long = lists_long rs ∙ many;
          classes = λ k below.
              let less : k < length rs = omega (arith, below, many) in
              let v = reader_at rs k in
              subst (AreClasses h (region_at regions k)) (sym (lists_read rs k less)) (subst (λ r. AreClasses h r v.lists) (region_is k less) (subst (λ n. AreClasses n v.region v.lists) (horizon_is k less) (readers.readers_ok k less).reader.classes));
          read = λ k below.
              let less : k < length rs = omega (arith, below, many) in
              let v = reader_at rs k in
              let at = readers.readers_ok k less in
              let one : IsReadOff (region_at regions k) v.lists v.first_state v.first_corner k a = subst (λ r. IsReadOff r v.lists v.first_state v.first_corner k a) (region_is k less) (whole.read k less) in
              let two : IsReadOff (region_at regions k) (lists_at (lists_of rs) k) v.first_state v.first_corner k a = subst (λ x. IsReadOff (region_at regions k) x v.first_state v.first_corner k a) (sym (lists_read rs k less)) one in
              let three : IsReadOff (region_at regions k) (lists_at (lists_of rs) k) (states_before (lists_of rs) k) v.first_corner k a = subst (λ s. IsReadOff (region_at regions k) (lists_at (lists_of rs) k) s v.first_corner k a) at.first_state two in
              subst (λ g. IsReadOff (region_at regions k) (lists_at (lists_of rs) k) (states_before (lists_of rs) k) g k a) at.first_corner three;
          state_count = whole.state_count ∙ ap (states_before (lists_of rs)) many;
          corner_count = whole.corner_count ∙ ap (corners_before (lists_of rs)) many;
          root_count = whole.root_count ∙ (many ∙ kinds_all);
          few_states = omega (arith, whole.state_count, few_states rs readers.readers_ok);
          few_corners = omega (arith, whole.corner_count, few_corners rs readers.readers_ok);
        }

    same_class_lists : (a : TreeAutomaton) (is : IsCandidate kinds regions h a) → is.lists ≡ lists_of rs
    same_class_lists a is =
        let agree = lists_agree looks rs (omega (arith, count)) readers is.lists (classes_of a is) in
        same_lists is.lists (lists_of rs) (is.long ∙ (sym all ∙ (sym count ∙ sym (lists_long rs)))) (λ k d below.
        let less : k < length rs = omega (arith, below, is.long, all, count) in
        let there : k < length (lists_of rs) = omega (arith, less, lists_long rs) in
        get_or_default is.lists k d no_lists below ∙ (agree k less ∙ (sym (lists_read rs k less) ∙ get_or_default (lists_of rs) k no_lists d there)))

    pub is_assembled : (a : TreeAutomaton) → IsCandidate kinds regions h a → IsAssembled rs a
    is_assembled a is =
        let many : length rs ≡ length regions = count ∙ all in
        let same = same_class_lists a is in
        record {
          read = λ k less.
              let v = reader_at rs k in
              let at = readers.readers_ok k less in
              let start : IsReadOff (region_at regions k) (lists_at (lists_of rs) k) (states_before (lists_of rs) k) (corners_before (lists_of rs) k) k a = subst (λ ls. IsReadOff (region_at regions k) (lists_at ls k) (states_before ls k) (corners_before ls k) k a) same (is.read k (omega (arith, less, many))) in
              let one : IsReadOff v.region (lists_at (lists_of rs) k) (states_before (lists_of rs) k) (corners_before (lists_of rs) k) k a = subst (λ r. IsReadOff r (lists_at (lists_of rs) k) (states_before (lists_of rs) k) (corners_before (lists_of rs) k) k a) (sym (region_is k less)) start in
              let two : IsReadOff v.region v.lists (states_before (lists_of rs) k) (corners_before (lists_of rs) k) k a = subst (λ x. IsReadOff v.region x (states_before (lists_of rs) k) (corners_before (lists_of rs) k) k a) (lists_read rs k less) one in
              let three : IsReadOff v.region v.lists v.first_state (corners_before (lists_of rs) k) k a = subst (λ s. IsReadOff v.region v.lists s (corners_before (lists_of rs) k) k a) (sym at.first_state) two in
              subst (λ g. IsReadOff v.region v.lists v.first_state g k a) (sym at.first_corner) three;
          state_count = is.state_count ∙ (ap (λ ls. states_before ls (length regions)) same ∙ ap (states_before (lists_of rs)) (sym many));
          corner_count = is.corner_count ∙ (ap (λ ls. corners_before ls (length regions)) same ∙ ap (corners_before (lists_of rs)) (sym many));
          root_count = is.root_count ∙ (sym kinds_all ∙ sym many);
        }

-- what holds of what is there, in another form
pub some_as : {A E : Type 0} (P Q : A → Type 0) (r : Result (Option A) E) → ((a : A) → P a → Q a) → IfOk r (λ o. IfSome o P) → IfOk r (λ o. IfSome o Q)
some_as P Q (Ok None) f h = tt
some_as P Q (Ok (Some a)) f h = f a h
some_as P Q (Err e) f h = tt

pub none_as : {A E : Type 0} (P Q : Type 0) (r : Result (Option A) E) → (P → Q) → IfOk r (λ o. IfNone o P) → IfOk r (λ o. IfNone o Q)
none_as P Q (Ok None) f h = f h
none_as P Q (Ok (Some a)) f h = tt
none_as P Q (Err e) f h = tt
