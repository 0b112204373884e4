-- Two darts of live cells are joined whose slots were empty.
use Rattle.std.proofs.Common.{◌≡◌, ℕ, ◌*◌, ◌/◌, ◌%◌, ◌<◌, ◌≤◌, List, [], ◌∷◌, ◌++◌, length, refl, sym, ap, ◌∙◌, subst, inl, inr, arith, get_or-set_same, get_or-set_other, append_assoc}
use Rattle.std.proofs.lemmas.List.{length-set, append-nil}
use Rattle.std.proofs.lemmas.Bool.{cases_eq}
use Rattle.std.proofs.Math.ListN.{set}
use Rattle.tile_model.specs.declared.Letter.TheVariants.{X}
use Rattle.tile_model.specs.Relation.{there_and_back}
use Rattle.tile_model.proofs.Relations.{related_before, loop_empty}
use Rattle.coincidence.specs.declared.table.Cell.{Cell}
use Rattle.coincidence.specs.declared.table.Table.{Table}
use Rattle.coincidence.specs.Darts.{nowhere, unpack, slot_at, IsTaken}
use Rattle.coincidence.specs.Cells.{turn_at, shift_at, IsOrdered, live_count, name}
use Rattle.coincidence.specs.Atlases.{Atlas, AreOne, walk_of, LieAcross, IsSound}
use Rattle.coincidence.specs.Followed.{AreNamed, IsFollowed, IsSettled}
use Rattle.coincidence.specs.Pending.{AreCovered, HasChain, IsShaped, HasMoved, work}
use Rattle.coincidence.proofs.Names.{name_name}
use Rattle.coincidence.proofs.Settled.{taken_some}
use Rattle.coincidence.proofs.Moves.{followed_same}
use Rattle.coincidence.proofs.Periods.{one_equal, one_back, one_on, one_behind}

-- the other way too a dart lies across
pub across_back : (atlas : Atlas) (a b : ℕ × ℕ) → LieAcross atlas a b → LieAcross atlas b a
across_back atlas a b h =
    let u = walk_of atlas a in
    let twice : AreOne atlas ((u ++ X ∷ []) ++ X ∷ []) u = one_on atlas (one_equal atlas (append_assoc u (X ∷ []) (X ∷ []))) (one_on atlas (record { related = related_before atlas.kinds u (loop_empty atlas.kinds there_and_back) }) (one_equal atlas (append-nil u))) in
    one_on atlas (one_back atlas (one_behind atlas (X ∷ []) h)) twice

module _ (t t' : Table) (a b : ℕ) (shaped : IsShaped t) (first : IsSettled t.cells.items a) (second : IsSettled t.cells.items b)
    (first_made : a < 64 * length t.cells.items) (second_made : b < 64 * length t.cells.items)
    (first_empty : slot_at t.slots.items a ≡ nowhere) (second_empty : slot_at t.slots.items b ≡ nowhere)
    (cells_are : t'.cells ≡ t.cells) (head_is : t'.head ≡ t.head) (live_is : t'.live ≡ t.live)
    (slots_are : t'.slots.items ≡ set (set t.slots.items a b) b a) where
  abbrev cells : List Cell
  cells = t.cells.items

  abbrev slots : List ℕ
  slots = t.slots.items

  abbrev slots' : List ℕ
  slots' = set (set slots a b) b a

  long : length slots ≡ 64 * length cells
  long = shaped.slots

  at_b : slot_at slots' b ≡ a
  at_b = get_or-set_same (set slots a b) b a nowhere (omega (arith, length-set slots a b, long, second_made))

  pub link_slot : slot_at slots' a ≡ b
  link_slot = elim (cases_eq a b) [
    | inl e ↦ ap (slot_at slots') e ∙ (at_b ∙ e)
    | inr away ↦ get_or-set_other (set slots a b) b a a nowhere away ∙ get_or-set_same slots a b nowhere (omega (arith, long, first_made))
  ]

  elsewhere : (n : ℕ) → ¬ (n ≡ a) → ¬ (n ≡ b) → slot_at slots' n ≡ slot_at slots n
  elsewhere n not_a not_b = get_or-set_other (set slots a b) b n a nowhere not_b ∙ get_or-set_other slots a n b nowhere not_a

  -- what held of the slots holds still, if it holds of both darts
  at_each : (P : ℕ → ℕ → Type 0) → P a b → P b a → ((n : ℕ) → IsTaken slots n → P n (slot_at slots n)) → (n : ℕ) → IsTaken slots' n → P n (slot_at slots' n)
  at_each P at_a at_b' others n taken = elim (cases_eq n a) [
    | inl e ↦ subst (λ m. P m (slot_at slots' m)) (sym e) (subst (P a) (sym link_slot) at_a)
    | inr not_a ↦ elim (cases_eq n b) [
      | inl e ↦ subst (λ m. P m (slot_at slots' m)) (sym e) (subst (P b) (sym at_b) at_b')
      | inr not_b ↦ let same = elsewhere n not_a not_b in subst (P n) (sym same) (others n (λ none. taken (same ∙ none)))
    ]
  ]

  still_taken : (n : ℕ) → IsTaken slots n → (IsTaken slots' n) × (slot_at slots' n ≡ slot_at slots n)
  still_taken n taken =
      let not_a : ¬ (n ≡ a) = λ e. taken (ap (slot_at slots) e ∙ first_empty) in
      let not_b : ¬ (n ≡ b) = λ e. taken (ap (slot_at slots) e ∙ second_empty) in
      let same = elsewhere n not_a not_b in
      (λ none. taken (sym same ∙ none), same)

  link_back : (n : ℕ) → IsTaken slots' n → slot_at slots' (slot_at slots' n) ≡ n
  link_back = at_each (λ n e. slot_at slots' e ≡ n) at_b link_slot (λ n taken.
      let e = slot_at slots n in
      let back = shaped.back n taken in
      let there : IsTaken slots e = λ none. taken_some t n shaped taken (sym back ∙ none) in
      (still_taken e there).1 ∙ back)

  same : t'.cells.items ≡ t.cells.items
  same = ap (λ v. v.items) cells_are

  link_made : (n : ℕ) → IsTaken slots' n → slot_at slots' n < 64 * length cells
  link_made = at_each (λ n e. e < 64 * length cells) second_made first_made shaped.made

  link_shaped : IsShaped t'
  link_shaped = record {
    some = subst (λ (xs : List Cell). 0 < length xs) (sym same) shaped.some;
    few = subst (λ (xs : List Cell). length xs ≤ 1000000) (sym same) shaped.few;
    slots = ap (λ (xs : List ℕ). length xs) slots_are ∙ (length-set (set slots a b) b a ∙ (length-set slots a b ∙ (long ∙ ap (λ (xs : List Cell). 64 * length xs) (sym same))));
    turns = subst (λ xs. (c : ℕ) → turn_at xs c ≤ 64) (sym same) shaped.turns;
    shifts = subst (λ xs. (c : ℕ) → shift_at xs c < 64) (sym same) shaped.shifts;
    ordered = subst IsOrdered (sym same) shaped.ordered;
    made = subst (λ ss. (n : ℕ) → IsTaken ss n → slot_at ss n < 64 * length t'.cells.items) (sym slots_are) (subst (λ (xs : List Cell). (n : ℕ) → IsTaken slots' n → slot_at slots' n < 64 * length xs) (sym same) link_made);
    back = subst (λ ss. (n : ℕ) → IsTaken ss n → slot_at ss (slot_at ss n) ≡ n) (sym slots_are) link_back;
    live = live_is ∙ (shaped.live ∙ ap live_count (sym same));
    chain = subst (HasChain t'.cells.items) (sym head_is) (subst (λ xs. HasChain xs t.head) (sym same) shaped.chain);
  }

  link_kept : (p q : ℕ × ℕ) → AreNamed cells slots p q → AreNamed cells slots' (name cells p) (name cells q)
  link_kept p q named =
      let still = still_taken named.at named.taken in
      let own = name_name cells shaped.ordered in
      record {
        at = named.at;
        taken = still.0;
        here = sym (own (unpack named.at)) ∙ ap (name cells) named.here;
        across = ap (λ e. name cells (unpack e)) still.1 ∙ (sym (own (unpack (slot_at slots named.at))) ∙ ap (name cells) named.across);
      }

  link_followed : IsFollowed t.cells.items t.slots.items t'.cells.items t'.slots.items
  link_followed =
      let same_followed = followed_same cells slots shaped.ordered in
      let followed : IsFollowed cells slots cells slots' = record { names = same_followed.names; kept = link_kept; turns = same_followed.turns; count = refl } in
      subst (λ ss. IsFollowed cells slots t'.cells.items ss) (sym slots_are) (subst (λ xs. IsFollowed cells slots xs slots') (sym same) followed)

  not_pending : (n m : ℕ) → n ≡ m → IsSettled cells m → turn_at cells (n / 64) ≤ n % 64 → ⊥
  not_pending n m e settled past = let settled_n = subst (IsSettled cells) (sym e) settled in omega (arith, settled_n, past)

  link_covered : (c i : ℕ) → AreCovered t.cells.items t.slots.items c i → AreCovered t'.cells.items t'.slots.items c i
  link_covered c i covered =
      let now : AreCovered cells slots' c i = λ n pending. elim (cases_eq n a) [
        | inl e ↦ absurd (not_pending n a e first pending.past)
        | inr not_a ↦ elim (cases_eq n b) [
          | inl e ↦ absurd (not_pending n b e second pending.past)
          | inr not_b ↦ covered n (record { taken = λ none. pending.taken (elsewhere n not_a not_b ∙ none); past = pending.past })
        ]
      ] in
      subst (λ ss. AreCovered t'.cells.items ss c i) (sym slots_are) (subst (λ xs. AreCovered xs slots' c i) (sym same) now)

  pub link_moved : HasMoved t t'
  link_moved = record { shaped = link_shaped; followed = link_followed; covered = link_covered; falls = omega (arith, ap work same) }

  pub link_sound : (atlas : Atlas) → IsSound atlas t.cells.items t.slots.items → LieAcross atlas (unpack a) (unpack b) → IsSound atlas t'.cells.items t'.slots.items
  link_sound atlas sound across =
      let now : IsSound atlas cells slots' = record {
        joined = at_each (λ n e. LieAcross atlas (n / 64, n % 64) (e / 64, e % 64)) across (across_back atlas (unpack a) (unpack b) across) sound.joined;
        renamed = sound.renamed;
        turned = sound.turned;
      } in
      subst (λ ss. IsSound atlas t'.cells.items ss) (sym slots_are) (subst (λ xs. IsSound atlas xs slots') (sym same) now)
