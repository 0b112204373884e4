-- A live cell whose turn falls: it folds, or becomes an earlier cell.
use Rattle.std.proofs.Common.{◌≡◌, ℕ, ◌+◌, ◌-◌, ◌*◌, ◌/◌, ◌%◌, ◌<◌, ◌≤◌, Bool, true, false, cond, nat_eq, List, length, sym, ap, ap₂, ◌∙◌, subst, inl, inr, arith, get_or-set_same, get_or-set_other}
use Rattle.std.proofs.lemmas.List.{length-set}
use Rattle.std.proofs.lemmas.List.Sums.{sum_by-set, get_or-le-sum_by}
use Rattle.std.proofs.lemmas.Bool.{cases_eq, eq-eqb, ne_eqb}
use Rattle.std.proofs.Math.ListN.{set}
use Rattle.std.proofs.Math.Nat.{mod_self}
use Rattle.coincidence.specs.declared.table.Cell.{Cell}
use Rattle.coincidence.specs.declared.table.Table.{Table}
use Rattle.coincidence.specs.Darts.{nowhere, unpack, slot_at, IsTaken}
use Rattle.coincidence.specs.Cells.{no_cell, cell_at, turn_at, into_at, shift_at, IsLive, IsOrdered, live_count, name}
use Rattle.coincidence.specs.Atlases.{Atlas, AreOne, walk_of, HasPeriod, LieAcross, IsSound, AllowsFall}
use Rattle.coincidence.specs.Followed.{AreNamed, HasFallen, IsFollowed}
use Rattle.coincidence.specs.Pending.{next_at, IsChained, HasChain, AreCovered, IsShaped, weight, work, written_cell, written_head, MayFall, HasMoved}
use Rattle.coincidence.proofs.Numbers.{zero_or_more, not_zero, mod_mod, mod_shift_mod}
use Rattle.coincidence.proofs.Names.{name_renamed, name_live, Respects, names_compose}
use Rattle.coincidence.proofs.Chains.{chain_stays, chain_put, head_some}

at_most_one : (b : Bool) → cond b 0 1 ≤ 1
at_most_one true = omega arith
at_most_one false = omega arith

abbrev live_weight : Cell → ℕ
live_weight x = cond (nat_eq x.turn 0) 0 1

-- what is named the same stays so under composed names
pub kept_names : (cells cells' : List Cell) (slots : List ℕ) → ((d : ℕ × ℕ) → name cells' (name cells d) ≡ name cells' d) → (p q : ℕ × ℕ) → AreNamed cells slots p q → AreNamed cells' slots (name cells' p) (name cells' q)
kept_names cells cells' slots compose p q named = record {
  at = named.at;
  taken = named.taken;
  here = sym (compose (unpack named.at)) ∙ ap (name cells') named.here;
  across = sym (compose (unpack (slot_at slots named.at))) ∙ ap (name cells') named.across;
}

-- a live cell is counted
pub live_some : (t : Table) (c : ℕ) → IsShaped t → c < length t.cells.items → IsLive t.cells.items c → 0 < t.live
live_some t c shaped made live =
    let one : live_weight (cell_at t.cells.items c) ≡ 1 = ap (λ b. cond b 0 1) (not_zero (turn_at t.cells.items c) live) in
    omega (arith, shaped.live, one, get_or-le-sum_by live_weight t.cells.items c no_cell made)

module _ (t t' : Table) (c turn into shift : ℕ) (shaped : IsShaped t) (may : MayFall t.cells.items c turn into shift)
    (is : t'.cells.items ≡ set t.cells.items c (written_cell (cell_at t.cells.items c) turn into shift t.head))
    (head_is : t'.head ≡ written_head (cell_at t.cells.items c) c t.head)
    (live_is : t'.live ≡ cond (nat_eq turn 0) (t.live - 1) t.live)
    (slots_are : t'.slots ≡ t.slots) where
  abbrev cells : List Cell
  cells = t.cells.items

  abbrev cells' : List Cell
  cells' = t'.cells.items

  abbrev made_cell : Cell
  made_cell = written_cell (cell_at cells c) turn into shift t.head

  here : cell_at cells' c ≡ made_cell
  here = ap (λ xs. cell_at xs c) is ∙ get_or-set_same cells c made_cell no_cell may.made

  other : (x : ℕ) → ¬ (x ≡ c) → cell_at cells' x ≡ cell_at cells x
  other x away = ap (λ xs. cell_at xs x) is ∙ get_or-set_other cells c x made_cell no_cell away

  long : length cells' ≡ length cells
  long = ap (λ (xs : List Cell). length xs) is ∙ length-set cells c made_cell

  slots_same : t'.slots.items ≡ t.slots.items
  slots_same = ap (λ v. v.items) slots_are

  here_turn : turn_at cells' c ≡ turn
  here_turn = ap (λ (x : Cell). x.turn) here

  other_turn : (x : ℕ) → ¬ (x ≡ c) → turn_at cells' x ≡ turn_at cells x
  other_turn x away = ap (λ (x : Cell). x.turn) (other x away)

  -- a renamed cell is another one
  gone_other : (x : ℕ) → turn_at cells x ≡ 0 → ¬ (x ≡ c)
  gone_other x gone e = let live = may.live in let same = ap (turn_at cells) e in omega (arith, live, same, gone)

  falls_turns : (x : ℕ) → IsLive cells' x → HasFallen cells cells' x
  falls_turns x live = elim (cases_eq x c) [
    | inl e ↦
        let some : 0 < turn = subst (λ n. 0 < n) here_turn (subst (IsLive cells') e live) in
        subst (HasFallen cells cells') (sym e) (record { was_live = may.live; divides = subst (λ n. turn_at cells c % n ≡ 0) (sym here_turn) (may.divides some) })
    | inr away ↦
        let same = other_turn x away in
        record { was_live = subst (λ n. 0 < n) same live; divides = subst (λ n. turn_at cells x % n ≡ 0) (sym same) (mod_self (turn_at cells x)) }
  ]

  falls_ordered : IsOrdered cells'
  falls_ordered x gone = elim (cases_eq x c) [
    | inl e ↦
        let none : turn ≡ 0 = sym here_turn ∙ (ap (turn_at cells') (sym e) ∙ gone) in
        let at : into_at cells' x ≡ into = ap (into_at cells') e ∙ ap (λ (y : Cell). y.into) here in
        let before = may.earlier none in
        omega (arith, at, before, e)
    | inr away ↦
        let before = shaped.ordered x (sym (other_turn x away) ∙ gone) in
        omega (arith, ap (λ (y : Cell). y.into) (other x away), before)
  ]

  falls_sides : (x i : ℕ) → IsLive cells x → name cells' (x, i % turn_at cells x) ≡ name cells' (x, i)
  falls_sides x i live = elim (zero_or_more (turn_at cells' x)) [
    | inr stays ↦
        let fallen = falls_turns x stays in
        name_live cells' falls_ordered x (i % turn_at cells x) stays ∙ (ap (λ j. (x, j)) (mod_mod i (turn_at cells x) (turn_at cells' x) fallen.divides) ∙ sym (name_live cells' falls_ordered x i stays))
    | inl gone ↦ elim (cases_eq x c) [
      | inr away ↦ let same = other_turn x away in absurd (omega (arith, same, live, gone))
      | inl e ↦ subst (λ y. name cells' (y, i % turn_at cells y) ≡ name cells' (y, i)) (sym e) (renamed (sym here_turn ∙ (ap (turn_at cells') (sym e) ∙ gone)))
    ]
  ]
    where
      renamed : turn ≡ 0 → name cells' (c, i % turn_at cells c) ≡ name cells' (c, i)
      renamed none =
          let gone : turn_at cells' c ≡ 0 = here_turn ∙ none in
          let to : into_at cells' c ≡ into = ap (λ (y : Cell). y.into) here in
          let by : shift_at cells' c ≡ shift = ap (λ (y : Cell). y.shift) here in
          let before = may.earlier none in
          let same : turn_at cells' into ≡ turn_at cells into = other_turn into (λ e. omega (arith, e, before)) in
          let stays : IsLive cells' into = subst (λ n. 0 < n) (sym same) (may.into_live none) in
          let divides : turn_at cells c % turn_at cells' into ≡ 0 = subst (λ n. turn_at cells c % n ≡ 0) (sym same) (may.into_divides none) in
          let step : (j : ℕ) → name cells' (c, j) ≡ (into, (j + shift) % turn_at cells' into) = λ j. name_renamed cells' falls_ordered c j gone ∙ (ap₂ (λ a b. name cells' (a, j + b)) to by ∙ name_live cells' falls_ordered into (j + shift) stays) in
          step (i % turn_at cells c) ∙ (ap (λ j. (into, j)) (mod_shift_mod i (turn_at cells c) (turn_at cells' into) shift divides) ∙ sym (step i))

  falls_respects : Respects cells cells'
  falls_respects = record {
    gone = λ x gone. other_turn x (gone_other x gone) ∙ gone;
    into = λ x gone. ap (λ (y : Cell). y.into) (other x (gone_other x gone));
    shift = λ x gone. ap (λ (y : Cell). y.shift) (other x (gone_other x gone));
    sides = falls_sides;
  }

  pub falls_followed : IsFollowed t.cells.items t.slots.items t'.cells.items t'.slots.items
  falls_followed =
      let compose = names_compose cells cells' shaped.ordered falls_ordered falls_respects in
      record {
        names = compose;
        kept = λ p q named. subst (λ slots. AreNamed cells' slots (name cells' p) (name cells' q)) (sym slots_same) (kept_names cells cells' t.slots.items compose p q named);
        turns = falls_turns;
        count = long;
      }

  here_next : (b : Bool) → nat_eq (next_at cells c) nowhere ≡ b → next_at cells' c ≡ cond b t.head (next_at cells c)
  here_next b e = ap (λ (y : Cell). y.next) here ∙ ap (λ b. cond b t.head (next_at cells c)) e

  other_next : (x : ℕ) → ¬ (x ≡ c) → next_at cells' x ≡ next_at cells x
  other_next x away = ap (λ (y : Cell). y.next) (other x away)

  falls_chained : IsChained cells' c
  falls_chained = elim (cases_eq (next_at cells c) nowhere) [
    | inl e ↦ λ nowhere_now. head_some cells t.head shaped.few shaped.chain (sym (here_next true (eq-eqb _ _ e)) ∙ nowhere_now)
    | inr chained ↦ λ nowhere_now. chained (sym (here_next false (ne_eqb _ _ chained)) ∙ nowhere_now)
  ]

  falls_chain : HasChain cells' t'.head
  falls_chain = elim (cases_eq (next_at cells c) nowhere) [
    | inl e ↦
        let to : t'.head ≡ c = head_is ∙ ap (λ b. cond b c t.head) (eq-eqb (next_at cells c) nowhere e) in
        subst (HasChain cells') (sym to) (chain_put cells cells' t.head c long may.made (λ chained. chained e) (head_some cells t.head shaped.few shaped.chain) (here_next true (eq-eqb _ _ e)) other_next shaped.chain)
    | inr chained ↦
        let to : t'.head ≡ t.head = head_is ∙ ap (λ b. cond b c t.head) (ne_eqb (next_at cells c) nowhere chained) in
        let same : (x : ℕ) → next_at cells' x ≡ next_at cells x = λ x. elim (cases_eq x c) [
          | inl e ↦ ap (next_at cells') e ∙ (here_next false (ne_eqb _ _ chained) ∙ ap (next_at cells) (sym e))
          | inr away ↦ other_next x away
        ] in
        subst (HasChain cells') (sym to) (record {
          chain = shaped.chain.chain;
          met = chain_stays cells cells' long (λ x among. same x) shaped.chain.met;
          whole = λ x is_chained. shaped.chain.whole x (λ e. is_chained (same x ∙ e));
        })
  ]

  pub falls_covered : (b i : ℕ) → AreCovered t.cells.items t.slots.items b i → AreCovered t'.cells.items t'.slots.items b i
  falls_covered b i covered n pending = elim (cases_eq (n / 64) c) [
    | inl e ↦ inl (subst (IsChained cells') (sym e) falls_chained)
    | inr away ↦
        let same = other_turn (n / 64) away in
        elim (covered n (record { taken = subst (λ slots. IsTaken slots n) slots_same pending.taken; past = omega (arith, same, pending.past) })) [
          | inl chained ↦ inl (λ e. chained (sym (other_next (n / 64) away) ∙ e))
          | inr rest ↦ inr rest
        ]
  ]

  falls_weight : weight made_cell ≤ weight (cell_at cells c)
  falls_weight = let less = may.less in omega (arith, at_most_one (nat_eq made_cell.next nowhere), less)

  pub falls_work : work t'.cells.items ≤ work t.cells.items
  falls_work =
      let sums = sum_by-set weight cells c made_cell no_cell may.made in
      let w = falls_weight in
      omega (arith, ap work is, sums, w)

  falls_live : t'.live ≡ live_count cells'
  falls_live =
      let sums = sum_by-set live_weight cells c made_cell no_cell may.made in
      let one : live_weight (cell_at cells c) ≡ 1 = ap (λ b. cond b 0 1) (not_zero (turn_at cells c) may.live) in
      let all = ap live_count is in
      let was = shaped.live in
      elim (zero_or_more turn) [
        | inl e ↦
            let none : live_weight made_cell ≡ 0 = ap (λ n. cond (nat_eq n 0) 0 1) e in
            let less : t'.live ≡ t.live - 1 = live_is ∙ ap (λ n. cond (nat_eq n 0) (t.live - 1) t.live) e in
            omega (arith, sums, one, none, less, all, was)
        | inr more ↦
            let still : live_weight made_cell ≡ 1 = ap (λ b. cond b 0 1) (not_zero turn more) in
            let same : t'.live ≡ t.live = live_is ∙ ap (λ b. cond b (t.live - 1) t.live) (not_zero turn more) in
            omega (arith, sums, one, still, same, all, was)
      ]

  pub falls_shaped : IsShaped t'
  falls_shaped = record {
    some = omega (arith, long, shaped.some);
    few = omega (arith, long, shaped.few);
    slots = ap (λ (xs : List ℕ). length xs) slots_same ∙ omega (arith, long, shaped.slots);
    turns = λ x. elim (cases_eq x c) [
      | inl e ↦ omega (arith, ap (turn_at cells') e, here_turn, may.less, shaped.turns c)
      | inr away ↦ omega (arith, other_turn x away, shaped.turns x)
    ];
    shifts = λ x. elim (cases_eq x c) [
      | inl e ↦ omega (arith, ap (shift_at cells') e, ap (λ (y : Cell). y.shift) here, may.narrow)
      | inr away ↦ omega (arith, ap (λ (y : Cell). y.shift) (other x away), shaped.shifts x)
    ];
    ordered = falls_ordered;
    made = subst (λ slots. (n : ℕ) → IsTaken slots n → slot_at slots n < 64 * length cells') (sym slots_same) (λ n taken. omega (arith, long, shaped.made n taken));
    back = subst (λ slots. (n : ℕ) → IsTaken slots n → slot_at slots (slot_at slots n) ≡ n) (sym slots_same) shaped.back;
    live = falls_live;
    chain = falls_chain;
  }

  pub falls_moved : HasMoved t t'
  falls_moved = record { shaped = falls_shaped; followed = falls_followed; covered = falls_covered; falls = falls_work }

  pub falls_true : (atlas : Atlas) → IsSound atlas t.cells.items t.slots.items → AllowsFall atlas c turn into shift → IsSound atlas t'.cells.items t'.slots.items
  falls_true atlas truth allows = record {
    joined = subst (λ slots. (n : ℕ) → IsTaken slots n → LieAcross atlas (n / 64, n % 64) (slot_at slots n / 64, slot_at slots n % 64)) (sym slots_same) truth.joined;
    renamed = λ x gone. elim (cases_eq x c) [
      | inl e ↦
          let none : turn ≡ 0 = sym here_turn ∙ (ap (turn_at cells') (sym e) ∙ gone) in
          subst (λ y. AreOne atlas (atlas.walk_to y) (walk_of atlas (into_at cells' y, shift_at cells' y))) (sym e) (subst (λ (y : Cell). AreOne atlas (atlas.walk_to c) (walk_of atlas (y.into, y.shift))) (sym here) (allows.1 none))
      | inr away ↦ subst (λ (y : Cell). AreOne atlas (atlas.walk_to x) (walk_of atlas (y.into, y.shift))) (sym (other x away)) (truth.renamed x (sym (other_turn x away) ∙ gone))
    ];
    turned = λ x live. elim (cases_eq x c) [
      | inl e ↦
          let some : 0 < turn = subst (λ n. 0 < n) here_turn (subst (IsLive cells') e live) in
          subst (λ y. HasPeriod atlas y (turn_at cells' y)) (sym e) (subst (HasPeriod atlas c) (sym here_turn) (allows.0 some))
      | inr away ↦ subst (HasPeriod atlas x) (sym (other_turn x away)) (truth.turned x (subst (λ n. 0 < n) (other_turn x away) live))
    ];
  }
