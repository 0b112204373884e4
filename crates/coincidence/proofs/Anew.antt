-- What waits in a slot is joined anew.
use Rattle.std.proofs.Common.{◌≡◌, ℕ, ◌+◌, ◌*◌, ◌/◌, ◌%◌, ◌<◌, ◌≤◌, ◌⊎◌, List, [], ◌∷◌, sym, ap, ◌∙◌, subst, inl, inr, arith}
use Rattle.std.proofs.lemmas.Bool.{cases_eq}
use Rattle.tile_model.specs.declared.Letter.TheVariants.{X}
use Rattle.coincidence.specs.declared.table.Cell.{Cell}
use Rattle.coincidence.specs.declared.table.Table.{Table}
use Rattle.coincidence.specs.Darts.{nowhere, pack, unpack, slot_at, IsTaken}
use Rattle.coincidence.specs.Cells.{name}
use Rattle.coincidence.specs.Atlases.{Atlas, AreOne, walk_of, LieAcross, IsSound}
use Rattle.coincidence.specs.Followed.{AreNamed, IsFollowed}
use Rattle.coincidence.specs.Pending.{IsPending, AreCovered, IsShaped, HasMoved, HasUnchained, HasSettled, work}
use Rattle.coincidence.proofs.Settled.{unpack_name, named_back}
use Rattle.coincidence.proofs.Moves.{moved_same, followed_on}
use Rattle.coincidence.proofs.Merges.{name_sound}
use Rattle.coincidence.proofs.Periods.{one_back, one_on, one_behind}

-- a slot that is empty is not pending, so that one side less is covered
pub covered_less : (cells : List Cell) (slots slots' : List ℕ) (dart : ℕ) → (IsPending cells slots' dart → ⊥) → ((n : ℕ) → IsTaken slots' n → IsTaken slots n) → AreCovered cells slots (dart / 64) (dart % 64) → AreCovered cells slots' (dart / 64) (dart % 64 + 1)
covered_less cells slots slots' dart not_pending still covered n pending = elim (covered n (record { taken = still n pending.taken; past = pending.past })) [
  | inl chained ↦ inl chained
  | inr rest ↦ elim (cases_eq n dart) [
    | inl e ↦ absurd (not_pending (subst (IsPending cells slots') e pending))
    | inr away ↦ inr (rest.0, at_least rest.0 rest.1 away)
  ]
]
  where
    at_least : n / 64 ≡ dart / 64 → dart % 64 ≤ n % 64 → ¬ (n ≡ dart) → dart % 64 + 1 ≤ n % 64
    at_least same le away = omega (arith, same, le, away)

-- on the way over: before, with the two slots emptied, and after
module _ (t t' t'' : Table) (dart over a b : ℕ) (shaped : IsShaped t) (pending : IsPending t.cells.items t.slots.items dart) (is : over ≡ slot_at t.slots.items dart)
    (cells_are : t'.cells ≡ t.cells) (empty : slot_at t'.slots.items dart ≡ nowhere)
    (still : (n : ℕ) → IsTaken t'.slots.items n → IsTaken t.slots.items n × (slot_at t'.slots.items n ≡ slot_at t.slots.items n))
    (only : (n : ℕ) → IsTaken t.slots.items n → (n ≡ dart) ⊎ ((n ≡ over) ⊎ IsTaken t'.slots.items n))
    (a_is : a ≡ pack (name t'.cells.items (unpack dart))) (b_is : b ≡ pack (name t'.cells.items (unpack over)))
    (moved : HasMoved t' t'') (named : AreNamed t''.cells.items t''.slots.items (name t''.cells.items (unpack a)) (name t''.cells.items (unpack b)))
    (sound_on : (atlas : Atlas) → IsSound atlas t'.cells.items t'.slots.items → LieAcross atlas (unpack a) (unpack b) → IsSound atlas t''.cells.items t''.slots.items) where
  abbrev cells : List Cell
  cells = t.cells.items

  same : t'.cells.items ≡ cells
  same = ap (λ v. v.items) cells_are

  a_named : unpack a ≡ name cells (unpack dart)
  a_named = ap unpack a_is ∙ (ap (λ xs. unpack (pack (name xs (unpack dart)))) same ∙ unpack_name t (dart / 64) (dart % 64) shaped)

  b_named : unpack b ≡ name cells (unpack over)
  b_named = ap unpack b_is ∙ (ap (λ xs. unpack (pack (name xs (unpack over)))) same ∙ unpack_name t (over / 64) (over % 64) shaped)

  followed' : IsFollowed cells t'.slots.items t''.cells.items t''.slots.items
  followed' = subst (λ xs. IsFollowed xs t'.slots.items t''.cells.items t''.slots.items) same moved.followed

  anew_kept : (p q : ℕ × ℕ) → AreNamed cells t.slots.items p q → AreNamed t''.cells.items t''.slots.items (name t''.cells.items p) (name t''.cells.items q)
  anew_kept p q was = elim (only was.at was.taken) [
    | inl e ↦ renamed p q (sym (ap (λ n. name cells (unpack n)) e) ∙ was.here) (ap (λ n. name cells (unpack n)) (is ∙ ap (slot_at t.slots.items) (sym e)) ∙ was.across)
    | inr rest ↦ elim rest [
      | inl e ↦
          let back : slot_at t.slots.items was.at ≡ dart = ap (slot_at t.slots.items) (e ∙ is) ∙ shaped.back dart pending.taken in
          named_back t'' (name t''.cells.items q) (name t''.cells.items p) moved.shaped (renamed q p (ap (λ n. name cells (unpack n)) (sym back) ∙ was.across) (ap (λ n. name cells (unpack n)) (sym e) ∙ was.here))
      | inr taken ↦ followed'.kept p q (record { at = was.at; taken = taken; here = was.here; across = ap (λ n. name cells (unpack n)) (still was.at taken).1 ∙ was.across })
    ]
  ]
    where
      renamed : (p q : ℕ × ℕ) → name cells (unpack dart) ≡ p → name cells (unpack over) ≡ q → AreNamed t''.cells.items t''.slots.items (name t''.cells.items p) (name t''.cells.items q)
      renamed p q at_a at_b = subst (λ x. AreNamed t''.cells.items t''.slots.items (name t''.cells.items x) (name t''.cells.items q)) (a_named ∙ at_a) (subst (λ y. AreNamed t''.cells.items t''.slots.items (name t''.cells.items (unpack a)) (name t''.cells.items y)) (b_named ∙ at_b) named)

  cleared_sound : (atlas : Atlas) → IsSound atlas cells t.slots.items → IsSound atlas t'.cells.items t'.slots.items
  cleared_sound atlas sound = subst (λ xs. IsSound atlas xs t'.slots.items) (sym same) (record {
    joined = λ n taken. let was = still n taken in subst (λ e. LieAcross atlas (n / 64, n % 64) (e / 64, e % 64)) (sym was.1) (sound.joined n was.0);
    renamed = sound.renamed;
    turned = sound.turned;
  })

  anew_across : (atlas : Atlas) → IsSound atlas cells t.slots.items → LieAcross atlas (unpack a) (unpack b)
  anew_across atlas sound =
      let here : AreOne atlas (walk_of atlas (unpack dart)) (walk_of atlas (unpack a)) = subst (λ d. AreOne atlas (walk_of atlas (unpack dart)) (walk_of atlas d)) (sym a_named) (name_sound atlas cells t.slots.items shaped.ordered sound (dart / 64) (dart % 64)) in
      let there : AreOne atlas (walk_of atlas (unpack over)) (walk_of atlas (unpack b)) = subst (λ d. AreOne atlas (walk_of atlas (unpack over)) (walk_of atlas d)) (sym b_named) (name_sound atlas cells t.slots.items shaped.ordered sound (over / 64) (over % 64)) in
      let across : LieAcross atlas (unpack dart) (unpack over) = subst (λ e. LieAcross atlas (unpack dart) (unpack e)) (sym is) (sound.joined dart pending.taken) in
      one_on atlas (one_back atlas (one_behind atlas (X ∷ []) here)) (one_on atlas across there)

  pub anew_settled : HasSettled t t''
  anew_settled = record {
    shaped = moved.shaped;
    followed = record { names = followed'.names; kept = anew_kept; turns = followed'.turns; count = followed'.count };
    falls = omega (arith, moved.falls, ap work same);
    sound = λ atlas sound. sound_on atlas (cleared_sound atlas sound) (anew_across atlas sound);
  }

  pub anew_covered : AreCovered t.cells.items t.slots.items (dart / 64) (dart % 64) → AreCovered t''.cells.items t''.slots.items (dart / 64) (dart % 64 + 1)
  anew_covered covered =
      let less : AreCovered cells t'.slots.items (dart / 64) (dart % 64 + 1) = covered_less cells t.slots.items t'.slots.items dart (λ p. p.taken empty) (λ n taken. (still n taken).0) covered in
      moved.covered (dart / 64) (dart % 64 + 1) (subst (λ xs. AreCovered xs t'.slots.items (dart / 64) (dart % 64 + 1)) (sym same) less)

pub settled_same : (t : Table) → IsShaped t → HasSettled t t
settled_same t shaped = let moved = moved_same t shaped in record { shaped = shaped; followed = moved.followed; falls = moved.falls; sound = λ atlas sound. sound }

pub settled_on : (first second third : Table) → HasSettled first second → HasSettled second third → HasSettled first third
settled_on first second third one two = record {
  shaped = two.shaped;
  followed = followed_on first.cells.items first.slots.items second.cells.items second.slots.items third.cells.items third.slots.items one.followed two.followed;
  falls = omega (arith, one.falls, two.falls);
  sound = λ atlas sound. two.sound atlas (one.sound atlas sound);
}

-- a packed dart is done, and so the next side is to come
pub covered_next : (t t' : Table) (cell side dart : ℕ) → dart ≡ cell * 64 + side → side < 64 → (AreCovered t.cells.items t.slots.items (dart / 64) (dart % 64) → AreCovered t'.cells.items t'.slots.items (dart / 64) (dart % 64 + 1)) → AreCovered t.cells.items t.slots.items cell side → AreCovered t'.cells.items t'.slots.items cell (side + 1)
covered_next t t' cell side dart is below on covered =
    let at : dart / 64 ≡ cell = omega (arith, is, below) in
    let by : dart % 64 ≡ side = omega (arith, is, below) in
    subst (λ c. AreCovered t'.cells.items t'.slots.items c (side + 1)) at (subst (λ i. AreCovered t'.cells.items t'.slots.items (dart / 64) (i + 1)) by (on (subst (λ c. AreCovered t.cells.items t.slots.items c (dart % 64)) (sym at) (subst (λ i. AreCovered t.cells.items t.slots.items cell i) (sym by) covered))))

pub settled_taken : (t t' : Table) (c : ℕ) → HasUnchained t t' c → HasSettled t t'
settled_taken t t' c taken = record { shaped = taken.shaped; followed = taken.followed; falls = omega (arith, taken.falls); sound = taken.sound }

-- a join is kept under the names that its darts have afterwards
pub named_after : (t t' : Table) (p q : ℕ × ℕ) → IsFollowed t.cells.items t.slots.items t'.cells.items t'.slots.items → AreNamed t.cells.items t.slots.items (name t.cells.items p) (name t.cells.items q) → AreNamed t'.cells.items t'.slots.items (name t'.cells.items p) (name t'.cells.items q)
named_after t t' p q followed named =
    let kept = followed.kept (name t.cells.items p) (name t.cells.items q) named in
    record { at = kept.at; taken = kept.taken; here = kept.here ∙ followed.names p; across = kept.across ∙ followed.names q }
