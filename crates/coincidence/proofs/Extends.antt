-- A live cell is added to a table, of whose sides none is joined.
use Rattle.std.proofs.Common.{◌≡◌, ℕ, ◌+◌, ◌*◌, ◌/◌, ◌%◌, ◌<◌, ◌≤◌, cond, nat_eq, List, [], ◌∷◌, length, refl, sym, ap, ◌∙◌, subst, inl, inr, arith}
use Rattle.std.proofs.lemmas.Bool.{cases_lt, cases_eq}
use Rattle.std.proofs.lemmas.List.{get_or_append_left, get_or_push, get_or_past, length_push}
use Rattle.std.proofs.lemmas.List.Sums.{sum_by_push}
use Rattle.coincidence.specs.declared.table.Cell.{Cell}
use Rattle.coincidence.specs.declared.table.Table.{Table}
use Rattle.coincidence.specs.Darts.{nowhere, unpack, slot_at, IsTaken}
use Rattle.coincidence.specs.Cells.{no_cell, cell_at, turn_at, into_at, shift_at, IsLive, IsOrdered, live_count, name}
use Rattle.coincidence.specs.Atlases.{Atlas, AreOne, walk_of, HasPeriod, LieAcross, IsSound}
use Rattle.coincidence.specs.Pending.{last_link, HasChain, IsChain, ends, IsAmong, IsQuiet, IsShaped, fresh_cell, IsExtended}
use Rattle.coincidence.proofs.Numbers.{not_zero}
use Rattle.coincidence.proofs.Names.{name_renamed, name_live, by_names}
use Rattle.coincidence.proofs.Chains.{chain_grows, chain_made}
use Rattle.coincidence.proofs.Settled.{taken_made}

abbrev live_weight : Cell → ℕ
live_weight x = cond (nat_eq x.turn 0) 0 1

-- The shape of a table to which a cell can be added; it may have none.
pub record MayGrow (t : Table) : Type 0 where
  pub room : length t.cells.items < 1000000
  pub slots : length t.slots.items ≡ 64 * length t.cells.items
  pub turns : (c : ℕ) → turn_at t.cells.items c ≤ 64
  pub shifts : (c : ℕ) → shift_at t.cells.items c < 64
  pub ordered : (c : ℕ) → c < length t.cells.items → turn_at t.cells.items c ≡ 0 → into_at t.cells.items c < c
  pub made : (n : ℕ) → IsTaken t.slots.items n → slot_at t.slots.items n < 64 * length t.cells.items
  pub back : (n : ℕ) → IsTaken t.slots.items n → slot_at t.slots.items (slot_at t.slots.items n) ≡ n
  pub live : t.live ≡ live_count t.cells.items
  pub chain : HasChain t.cells.items t.head
  pub quiet : IsQuiet t.cells.items t.slots.items

pub shaped_grows : (t : Table) → IsShaped t → IsQuiet t.cells.items t.slots.items → length t.cells.items < 1000000 → MayGrow t
shaped_grows t shaped quiet room = record { room = room; slots = shaped.slots; turns = shaped.turns; shifts = shaped.shifts; ordered = λ c made. shaped.ordered c; made = shaped.made; back = shaped.back; live = shaped.live; chain = shaped.chain; quiet = quiet }

pub empty_grows : (t : Table) → t.cells.items ≡ [] → t.slots.items ≡ [] → t.head ≡ last_link → t.live ≡ 0 → MayGrow t
empty_grows t none no_slots head none_live =
    let slot : (n : ℕ) → slot_at t.slots.items n ≡ nowhere = λ n. ap (λ ss. slot_at ss n) no_slots in
    let cell : (c : ℕ) → cell_at t.cells.items c ≡ no_cell = λ c. ap (λ xs. cell_at xs c) none in
    record {
      room = omega (arith, ap (λ (xs : List Cell). length xs) none);
      slots = ap (λ (xs : List ℕ). length xs) no_slots ∙ ap (λ (xs : List Cell). 64 * length xs) (sym none);
      turns = λ c. omega (arith, ap (λ (x : Cell). x.turn) (cell c));
      shifts = λ c. omega (arith, ap (λ (x : Cell). x.shift) (cell c));
      ordered = λ c made. absurd (omega (arith, made, ap (λ (xs : List Cell). length xs) none));
      made = λ n taken. absurd (taken (slot n));
      back = λ n taken. absurd (taken (slot n));
      live = none_live ∙ ap live_count (sym none);
      chain = record { chain = []; met = ends t.head head; whole = λ c chained. absurd (chained (ap (λ (x : Cell). x.next) (cell c))) };
      quiet = λ n pending. pending.taken (slot n);
    }

module _ (t t' : Table) (turn : ℕ) (may : MayGrow t) (extended : IsExtended t t' turn) (some : 0 < turn) (narrow : turn ≤ 64) where
  abbrev cells : List Cell
  cells = t.cells.items

  abbrev cells' : List Cell
  cells' = t'.cells.items

  abbrev new : ℕ
  new = length t.cells.items

  pub grown_length : length t'.cells.items ≡ length t.cells.items + 1
  grown_length = ap (λ (xs : List Cell). length xs) extended.cells ∙ length_push cells (fresh_cell turn)

  pub grown_new : cell_at t'.cells.items (length t.cells.items) ≡ fresh_cell turn
  grown_new = ap (λ xs. cell_at xs new) extended.cells ∙ get_or_push cells (fresh_cell turn) no_cell new refl

  pub grown_other : (c : ℕ) → ¬ (c ≡ length t.cells.items) → cell_at t'.cells.items c ≡ cell_at t.cells.items c
  grown_other c away = elim (cases_lt c new) [
    | inl made ↦ ap (λ xs. cell_at xs c) extended.cells ∙ get_or_append_left cells (fresh_cell turn ∷ []) no_cell c made
    | inr past ↦ get_or_past cells' c no_cell (omega (arith, past, away, grown_length)) ∙ sym (get_or_past cells c no_cell past)
  ]

  -- what holds of the new cell and of the others holds of all
  by_cell : (P : ℕ → Cell → Type 0) → P new (fresh_cell turn) → ((c : ℕ) → ¬ (c ≡ new) → P c (cell_at cells c)) → (c : ℕ) → P c (cell_at cells' c)
  by_cell P at_new others c = elim (cases_eq c new) [
    | inl e ↦ subst (λ x. P x (cell_at cells' x)) (sym e) (subst (P new) (sym grown_new) at_new)
    | inr away ↦ subst (P c) (sym (grown_other c away)) (others c away)
  ]

  pub grown_ordered : IsOrdered t'.cells.items
  grown_ordered = by_cell (λ c x. x.turn ≡ 0 → x.into < c) (λ gone. absurd (omega (arith, gone, some))) (λ c away gone. elim (cases_lt c new) [
    | inl made ↦ may.ordered c made gone
    | inr past ↦ let into = ap (λ (x : Cell). x.into) (get_or_past cells c no_cell past) in omega (arith, into, past, away)
  ])

  same_slots : (n : ℕ) → slot_at t'.slots.items n ≡ slot_at t.slots.items n
  same_slots = extended.same

  was_taken : (n : ℕ) → IsTaken t'.slots.items n → IsTaken t.slots.items n
  was_taken n taken none = taken (same_slots n ∙ none)

  grown_chain : HasChain cells' t'.head
  grown_chain =
      let had = may.chain in
      let away : (x : ℕ) → IsAmong x had.chain → ¬ (x ≡ new) = λ x among e. let made = chain_made cells had.met among in omega (arith, made, e) in
      let met = chain_grows cells cells' (omega (arith, grown_length)) (λ x among. ap (λ (y : Cell). y.next) (grown_other x (away x among))) had.met in
      record {
        chain = had.chain;
        met = subst (λ h. IsChain cells' h had.chain) (sym extended.head) met;
        whole = by_cell (λ c x. ¬ (x.next ≡ nowhere) → IsAmong c had.chain) (λ chained. absurd (chained refl)) (λ c _. had.whole c);
      }

  pub grown_shaped : IsShaped t'
  grown_shaped = record {
    some = omega (arith, grown_length);
    few = omega (arith, grown_length, may.room);
    slots = omega (arith, extended.count, may.slots, grown_length);
    turns = by_cell (λ _ x. x.turn ≤ 64) narrow (λ c _. may.turns c);
    shifts = by_cell (λ _ x. x.shift < 64) (omega arith) (λ c _. may.shifts c);
    ordered = grown_ordered;
    made = λ n taken. let was = may.made n (was_taken n taken) in omega (arith, was, same_slots n, grown_length);
    back = λ n taken. ap (slot_at t'.slots.items) (same_slots n) ∙ (same_slots (slot_at t.slots.items n) ∙ may.back n (was_taken n taken));
    live = extended.live ∙ (ap (λ n. n + 1) may.live ∙ grown_live);
    chain = grown_chain;
  }
    where
      grown_live : live_count cells + 1 ≡ live_count cells'
      grown_live =
          let one : live_weight (fresh_cell turn) ≡ 1 = ap (λ b. cond b 0 1) (not_zero turn some) in
          omega (arith, ap live_count extended.cells, sum_by_push live_weight cells (fresh_cell turn), one)

  -- a slot that is taken is that of an older cell
  taken_old : (n : ℕ) → IsTaken t.slots.items n → n / 64 < new
  taken_old n taken = let made = taken_made t.slots.items n taken in omega (arith, made, may.slots)

  pub grown_quiet : IsQuiet t'.cells.items t'.slots.items
  grown_quiet n pending =
      let taken = was_taken n pending.taken in
      let old = taken_old n taken in
      let same = ap (λ (x : Cell). x.turn) (grown_other (n / 64) (λ e. omega (arith, old, e))) in
      may.quiet n (record { taken = taken; past = omega (arith, same, pending.past) })

  -- names of older cells' darts stay
  pub grown_names : IsOrdered t.cells.items → (c i : ℕ) → c < length t.cells.items → name t'.cells.items (c, i) ≡ name t.cells.items (c, i)
  grown_names ordered =
      by_names cells ordered (λ c i. c < new → name cells' (c, i) ≡ name cells (c, i))
      (λ c i live made.
      let same = ap (λ (x : Cell). x.turn) (grown_other c (λ e. omega (arith, made, e))) in
      name_live cells' grown_ordered c i (subst (λ n. 0 < n) (sym same) live) ∙ (ap (λ n. (c, i % n)) same ∙ sym (name_live cells ordered c i live)))
      (λ c i gone rest made.
      let same = grown_other c (λ e. omega (arith, made, e)) in
      let before = ordered c gone in
      name_renamed cells' grown_ordered c i (ap (λ (x : Cell). x.turn) same ∙ gone) ∙ (ap (λ (x : Cell). name cells' (x.into, i + x.shift)) same ∙ (rest (omega (arith, before, made)) ∙ sym (name_renamed cells ordered c i gone))))

  -- the new cell's darts are their own names
  pub grown_new_live : IsLive t'.cells.items (length t.cells.items)
  grown_new_live = subst (λ (x : Cell). 0 < x.turn) (sym grown_new) some

  -- the truth about older cells, in an atlas with a walk to the new one
  pub grown_sound : (atlas : Atlas) → ((n : ℕ) → IsTaken t.slots.items n → LieAcross atlas (unpack n) (unpack (slot_at t.slots.items n))) → ((c : ℕ) → c < length t.cells.items → turn_at t.cells.items c ≡ 0 → AreOne atlas (atlas.walk_to c) (walk_of atlas (into_at t.cells.items c, shift_at t.cells.items c))) → ((c : ℕ) → length t.cells.items < c → AreOne atlas (atlas.walk_to c) (walk_of atlas (0, 0))) → ((c : ℕ) → c < length t.cells.items → IsLive t.cells.items c → HasPeriod atlas c (turn_at t.cells.items c)) → HasPeriod atlas (length t.cells.items) turn → IsSound atlas t'.cells.items t'.slots.items
  grown_sound atlas joined renamed past turned here = record {
    joined = λ n taken. subst (λ e. LieAcross atlas (unpack n) (unpack e)) (sym (same_slots n)) (joined n (was_taken n taken));
    renamed = by_cell (λ c x. x.turn ≡ 0 → AreOne atlas (atlas.walk_to c) (walk_of atlas (x.into, x.shift))) (λ gone. absurd (omega (arith, gone, some))) (λ c away gone. elim (cases_lt c new) [
      | inl made ↦ renamed c made gone
      | inr after ↦
          let none = get_or_past cells c no_cell after in
          subst (λ (x : Cell). AreOne atlas (atlas.walk_to c) (walk_of atlas (x.into, x.shift))) (sym none) (past c (omega (arith, after, away)))
    ]);
    turned = by_cell (λ c x. 0 < x.turn → HasPeriod atlas c x.turn) (λ _. here) (λ c away live. elim (cases_lt c new) [
      | inl made ↦ turned c made live
      | inr after ↦ let none = ap (λ (x : Cell). x.turn) (get_or_past cells c no_cell after) in absurd (omega (arith, none, live))
    ]);
  }
