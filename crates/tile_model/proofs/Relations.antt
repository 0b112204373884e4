-- Related walks: an equivalence that is kept behind and before a walk, with one type, and the way to prove what holds of all of them.
use Rattle.std.proofs.Common.{◌≡◌, ℕ, ◌+◌, true, not, List, [], ◌∷◌, ◌++◌, length, refl, sym, ap, ◌∙◌, subst, arith, append_assoc, append-nil, length-append}
use Rattle.tile_model.specs.declared.Letter.{Letter}
use Rattle.tile_model.specs.Tessellations.{TileKind}
use Rattle.tile_model.specs.Validity.{IsValid}
use Rattle.tile_model.specs.Walks.{type_of}
use Rattle.tile_model.specs.Relation.{IsLoop, Change, Changes, inserts, deletes, Lead, AreRelated}
use Rattle.tile_model.proofs.Types.{type_append, loop_type}

-- the change that takes a change back
pub reverted : Change → Change
reverted c = record { at = c.at; loop = c.loop; insert = not c.insert }

-- the same change behind n more letters
pub shifted : ℕ → Change → Change
shifted n c = record { at = n + c.at; loop = c.loop; insert = c.insert }

-- the changes that take a list of changes back, the last one first
pub all_reverted : List Change → List Change
all_reverted [] = []
all_reverted (c ∷ changes) = all_reverted changes ++ reverted c ∷ []

pub all_shifted : ℕ → List Change → List Change
all_shifted n [] = []
all_shifted n (c ∷ changes) = shifted n c ∷ all_shifted n changes

-- What holds of equal walks and of a walk with a loop inserted, and may be turned round and joined.
pub record HoldsOfLoops (kinds : List TileKind) (d : ℕ × ℕ) (P : List Letter → List Letter → Type 0) : Type 0 where
  pub equal : (u : List Letter) → P u u
  pub turns : (u w : List Letter) → P u w → P w u
  pub joins : (u v w : List Letter) → P u v → P v w → P u w
  pub inserted : (before behind : List Letter) (j : ℕ) (loop : List Letter) → IsLoop kinds (type_of kinds d before) j loop → P (before ++ behind) (before ++ (loop ++ behind))

module _ (kinds : List TileKind) where
  -- lists of changes append
  pub lead_append : (d : ℕ × ℕ) (first second : List Change) (u v w : List Letter) → Lead kinds d first u v → Lead kinds d second v w → Lead kinds d (first ++ second) u w
  lead_append d [] second u v w r s = subst (λ m. Lead kinds d second m w) (sym r) s
  lead_append d (c ∷ first) second u v w r s = (r.0, r.1, lead_append d first second r.0 v w r.2 s)

  -- one change, taken back
  pub change_back : {d : ℕ × ℕ} {c : Change} {u w : List Letter} → Changes kinds d c u w → Changes kinds d (reverted c) w u
  unfolding reverted
  change_back (inserts before loop behind insert at is from to) = deletes before loop behind (ap not insert) at is to from
  change_back (deletes before loop behind insert at is from to) = inserts before loop behind (ap not insert) at is to from

  pub lead_back : (d : ℕ × ℕ) (changes : List Change) (u w : List Letter) → Lead kinds d changes u w → Lead kinds d (all_reverted changes) w u
  unfolding all_reverted
  lead_back d [] u w r = sym r
  lead_back d (c ∷ changes) u w r = lead_append d (all_reverted changes) (reverted c ∷ []) w r.0 u (lead_back d changes r.0 w r.2) (u, change_back r.1, refl)

  -- the same changes where both walks are followed by a third
  pub change_behind : {d : ℕ × ℕ} {c : Change} {u w : List Letter} (z : List Letter) → Changes kinds d c u w → Changes kinds d c (u ++ z) (w ++ z)
  change_behind z (inserts before loop behind insert at is from to) =
      inserts before loop (behind ++ z) insert at is (ap (λ m. m ++ z) from ∙ append_assoc before behind z) (ap (λ m. m ++ z) to ∙ append_assoc before (loop ++ behind) z ∙ ap (λ m. before ++ m) (append_assoc loop behind z))
  change_behind z (deletes before loop behind insert at is from to) =
      deletes before loop (behind ++ z) insert at is (ap (λ m. m ++ z) from ∙ append_assoc before (loop ++ behind) z ∙ ap (λ m. before ++ m) (append_assoc loop behind z)) (ap (λ m. m ++ z) to ∙ append_assoc before behind z)

  pub lead_behind : (d : ℕ × ℕ) (changes : List Change) (u w z : List Letter) → Lead kinds d changes u w → Lead kinds d changes (u ++ z) (w ++ z)
  lead_behind d [] u w z r = ap (λ m. m ++ z) r
  lead_behind d (c ∷ changes) u w z r = (r.0 ++ z, change_behind z r.1, lead_behind d changes r.0 w z r.2)

  -- the changes, with their places shifted, where both walks follow a third
  pub change_before : {d : ℕ × ℕ} {c : Change} {u w : List Letter} (z : List Letter) → Changes kinds (type_of kinds d z) c u w → Changes kinds d (shifted (length z) c) (z ++ u) (z ++ w)
  unfolding shifted
  change_before {d} {c} z (inserts before loop behind insert at is from to) =
      inserts (z ++ before) loop behind insert (omega (arith, at, length-append z before)) (subst (λ t. IsLoop kinds t c.loop loop) (sym (type_append kinds d z before)) is)
      (ap (λ m. z ++ m) from ∙ sym (append_assoc z before behind)) (ap (λ m. z ++ m) to ∙ sym (append_assoc z before (loop ++ behind)))
  change_before {d} {c} z (deletes before loop behind insert at is from to) =
      deletes (z ++ before) loop behind insert (omega (arith, at, length-append z before)) (subst (λ t. IsLoop kinds t c.loop loop) (sym (type_append kinds d z before)) is)
      (ap (λ m. z ++ m) from ∙ sym (append_assoc z before (loop ++ behind))) (ap (λ m. z ++ m) to ∙ sym (append_assoc z before behind))

  pub lead_before : (d : ℕ × ℕ) (changes : List Change) (u w z : List Letter) → Lead kinds (type_of kinds d z) changes u w → Lead kinds d (all_shifted (length z) changes) (z ++ u) (z ++ w)
  unfolding all_shifted
  lead_before d [] u w z r = ap (λ m. z ++ m) r
  lead_before d (c ∷ changes) u w z r = (z ++ r.0, change_before z r.1, lead_before d changes r.0 w z r.2)

  -- an equivalence
  pub related_equal : {d : ℕ × ℕ} {u w : List Letter} → u ≡ w → AreRelated kinds d u w
  related_equal e = ([], e)

  pub related_same : {d : ℕ × ℕ} (u : List Letter) → AreRelated kinds d u u
  related_same u = ([], refl)

  pub related_back : {d : ℕ × ℕ} {u w : List Letter} → AreRelated kinds d u w → AreRelated kinds d w u
  related_back {d} {u} {w} r = (all_reverted r.0, lead_back d r.0 u w r.1)

  pub related_on : {d : ℕ × ℕ} {u v w : List Letter} → AreRelated kinds d u v → AreRelated kinds d v w → AreRelated kinds d u w
  related_on {d} {u} {v} {w} r s = (r.0 ++ s.0, lead_append d r.0 s.0 u v w r.1 s.1)

  -- kept behind and before
  pub related_behind : {d : ℕ × ℕ} {u w : List Letter} (z : List Letter) → AreRelated kinds d u w → AreRelated kinds d (u ++ z) (w ++ z)
  related_behind {d} {u} {w} z r = (r.0, lead_behind d r.0 u w z r.1)

  pub related_before : {d : ℕ × ℕ} {u w : List Letter} (z : List Letter) → AreRelated kinds (type_of kinds d z) u w → AreRelated kinds d (z ++ u) (z ++ w)
  related_before {d} {u} {w} z r = (all_shifted (length z) r.0, lead_before d r.0 u w z r.1)

  -- a loop, inserted behind a walk
  pub related_loop : {d : ℕ × ℕ} (before behind : List Letter) {j : ℕ} {loop : List Letter} → IsLoop kinds (type_of kinds d before) j loop → AreRelated kinds d (before ++ behind) (before ++ (loop ++ behind))
  related_loop before behind {j} {loop} is =
      (record { at = length before; loop = j; insert = true } ∷ [], (before ++ (loop ++ behind), inserts before loop behind refl refl is refl refl, refl))

  -- a loop by itself is related to the empty walk
  pub loop_empty : {d : ℕ × ℕ} {j : ℕ} {loop : List Letter} → IsLoop kinds d j loop → AreRelated kinds d loop []
  loop_empty {d} {j} {loop} is = related_back (related_on (related_loop [] [] is) (related_equal (append-nil loop)))

  -- what holds of loops holds of related walks
  change_holds : {d : ℕ × ℕ} (P : List Letter → List Letter → Type 0) → HoldsOfLoops kinds d P → {c : Change} {u w : List Letter} → Changes kinds d c u w → P u w
  change_holds P holds {c} {u} {w} (inserts before loop behind insert at is from to) =
      subst (λ m. P m w) (sym from) (subst (λ m. P (before ++ behind) m) (sym to) (holds.inserted before behind c.loop loop is))
  change_holds P holds {c} {u} {w} (deletes before loop behind insert at is from to) =
      subst (λ m. P m w) (sym from) (subst (λ m. P (before ++ (loop ++ behind)) m) (sym to) (holds.turns (before ++ behind) (before ++ (loop ++ behind)) (holds.inserted before behind c.loop loop is)))

  lead_holds : (d : ℕ × ℕ) (P : List Letter → List Letter → Type 0) → HoldsOfLoops kinds d P → (changes : List Change) (u w : List Letter) → Lead kinds d changes u w → P u w
  lead_holds d P holds [] u w r = subst (λ m. P u m) r (holds.equal u)
  lead_holds d P holds (c ∷ changes) u w r = holds.joins u r.0 w (change_holds P holds r.1) (lead_holds d P holds changes r.0 w r.2)

  pub related_holds : {d : ℕ × ℕ} (P : List Letter → List Letter → Type 0) → HoldsOfLoops kinds d P → {u w : List Letter} → AreRelated kinds d u w → P u w
  related_holds {d} P holds {u} {w} r = lead_holds d P holds r.0 u w r.1

module _ (kinds : List TileKind) (valid : IsValid kinds) where
  -- related walks lead to one type
  pub related_type : (d : ℕ × ℕ) {u w : List Letter} → AreRelated kinds d u w → type_of kinds d u ≡ type_of kinds d w
  related_type d r =
      related_holds kinds {d = d} (λ u w. type_of kinds d u ≡ type_of kinds d w)
      (record {
        equal = λ u. refl;
        turns = λ u w e. sym e;
        joins = λ u v w e f. e ∙ f;
        inserted = λ before behind j loop is.
            let t = type_of kinds d before in
            type_append kinds d before behind ∙ ap (λ e. type_of kinds e behind) (sym (loop_type kinds valid t is)) ∙ sym (type_append kinds t loop behind) ∙ sym (type_append kinds d before (loop ++ behind));
      })
      r
