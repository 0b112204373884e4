-- What is left of the darts falls where darts are joined that were not.
use Rattle.std.proofs.Common.{◌≡◌, ℕ, zero, suc, ◌+◌, ◌%◌, ◌<◌, ◌≤◌, cond, ◌==◌, if◌then◌else◌, length, Option, Some, None, refl, sym, ap, ◌∙◌, subst, inl, inr, arith}
use Rattle.std.proofs.Math.Nat.{mod-mod, le_of_dvd, dvd_of_mod-eq-zero}
use Rattle.std.proofs.lemmas.Bool.{cases_lt, cases_eq, lt-ltb, le-ltb}
use Rattle.coincidence.specs.Cells.{turn_at, IsLive, name}
use Rattle.coincidence.specs.Tables.{JoinTable, joined_to, dart_in, kind_of}
use Rattle.coincidence.specs.Darts.{pack, slot_at}
use Rattle.tile_model.specs.Tessellations.{kind_at}
use Rattle.coincidence.specs.Joined.{IsTable, HasRenamed}
use Rattle.region_grower.specs.Ways.{IsDart}
use Rattle.region_grower.specs.Regions.{total, left_of_join, left_at, unfinished, HasClosedOn}
use Rattle.region_grower.proofs.Ways.{dart_name, named_dart, over_dart}
use Rattle.region_grower.proofs.Steps.{grown_same, grown_on, grown_renamed}

pub total_none : (f : ℕ → ℕ) → total 0 f ≡ 0
unfolding total
total_none f = refl

pub total_next : (n : ℕ) (f : ℕ → ℕ) → total (suc n) f ≡ total n f + f n
unfolding total
total_next n f = refl

pub total_le : (n : ℕ) (f g : ℕ → ℕ) → ((i : ℕ) → i < n → f i ≤ g i) → total n f ≤ total n g
total_le zero f g le = omega (arith, total_none f, total_none g)
total_le (suc n) f g le =
    let rest = total_le n f g (λ i below. le i (omega arith)) in
    let here = le n (omega arith) in
    omega (arith, total_next n f, total_next n g, rest, here)

pub total_lt : (n : ℕ) (f g : ℕ → ℕ) → ((i : ℕ) → i < n → f i ≤ g i) → (k : ℕ) → k < n → f k < g k → total n f < total n g
total_lt zero f g le k below less = absurd (omega (arith, below))
total_lt (suc n) f g le k below less = elim (cases_eq k n) [
  | inl e ↦
      let rest = total_le n f g (λ i below. le i (omega arith)) in
      let here = subst (λ x. f x < g x) e less in
      omega (arith, total_next n f, total_next n g, rest, here)
  | inr other ↦
      let rest = total_lt n f g (λ i below. le i (omega arith)) k (omega (arith, below, other)) less in
      let here = le n (omega arith) in
      omega (arith, total_next n f, total_next n g, rest, here)
]

abbrev joined_at : JoinTable → ℕ → ℕ → Option (ℕ × ℕ)
joined_at t c i = if turn_at t.cells c == 0 then None else dart_in (slot_at t.slots (pack (c, i)))

join_some : (o : Option (ℕ × ℕ)) → left_of_join o ≤ 2
join_some None = omega arith
join_some (Some e) = omega arith

module _ (t : JoinTable) where
  at_dart : (c i : ℕ) → i < turn_at t.cells c → left_at t c i ≡ left_of_join (joined_to t (c, i))
  at_dart c i below = ap (λ b. cond b (left_of_join (joined_to t (c, i))) 0) (lt-ltb i (turn_at t.cells c) below)

  past_turn : (c i : ℕ) → turn_at t.cells c ≤ i → left_at t c i ≡ 0
  past_turn c i past = ap (λ b. cond b (left_of_join (joined_to t (c, i))) 0) (le-ltb i (turn_at t.cells c) past)

  at_joined : (c i : ℕ) (e : ℕ × ℕ) → i < turn_at t.cells c → joined_to t (c, i) ≡ Some e → left_at t c i ≡ 1
  at_joined c i e below joined = at_dart c i below ∙ ap left_of_join joined

  at_most_two : (c i : ℕ) → left_at t c i ≤ 2
  at_most_two c i = elim (cases_lt i (turn_at t.cells c)) [
    | inl below ↦ omega (arith, at_dart c i below, join_some (joined_to t (c, i)))
    | inr past ↦ omega (arith, past_turn c i past)
  ]

  at_least_one : (c i : ℕ) → i < turn_at t.cells c → 0 < left_at t c i
  at_least_one c i below = some (joined_to t (c, i)) (at_dart c i below)
    where
      some : (o : Option (ℕ × ℕ)) → left_at t c i ≡ left_of_join o → 0 < left_at t c i
      some None is = omega (arith, is)
      some (Some e) is = omega (arith, is)

pub divides_le : (a b : ℕ) → 0 < a → a % b ≡ 0 → b ≤ a
divides_le a b some e = le_of_dvd some (dvd_of_mod-eq-zero b e)

-- a dart of a live cell is joined where its name is
pub unnamed : (t : JoinTable) (table : IsTable t) (a : ℕ × ℕ) → IsLive t.cells a.0 → joined_to t (name t.cells a) ≡ joined_to t a
unnamed t table a live =
    let turn = turn_at t.cells a.0 in
    ap (joined_to t) (table.name_live a.0 a.1 live) ∙ ap (λ i. joined_at t a.0 i) (mod-mod a.1 turn)

module _ (t t' : JoinTable) (table : IsTable t) (table' : IsTable t') (renamed : HasRenamed t t') where
  -- a dart that is still one was one before
  was_below : (c i : ℕ) → i < turn_at t'.cells c → i < turn_at t.cells c
  was_below c i below =
      let fallen = renamed.turns c (omega (arith, below)) in
      let less = divides_le (turn_at t.cells c) (turn_at t'.cells c) fallen.was_live fallen.divides in
      omega (arith, below, less)

  still_named : (c i : ℕ) → i < turn_at t'.cells c → name t'.cells (c, i) ≡ (c, i)
  still_named c i below = dart_name t' table' (c, i) (record { live = omega (arith, below); below = below })

  falls_below : (c i : ℕ) → i < turn_at t'.cells c → (o : Option (ℕ × ℕ)) → joined_to t (c, i) ≡ o → left_at t' c i ≤ left_at t c i
  falls_below c i below None is =
      let two = at_dart t c i (was_below c i below) ∙ ap left_of_join is in
      omega (arith, two, at_most_two t' c i)
  falls_below c i below (Some e) is =
      let own = still_named c i below in
      let kept : joined_to t' (c, i) ≡ Some (name t'.cells e) = subst (λ d. joined_to t' d ≡ Some (name t'.cells e)) own (renamed.kept (c, i) e is) in
      let one = at_joined t' c i (name t'.cells e) below kept in
      omega (arith, one, at_least_one t c i (was_below c i below))

  left_falls : (c i : ℕ) → left_at t' c i ≤ left_at t c i
  left_falls c i = elim (cases_lt i (turn_at t'.cells c)) [
    | inr past ↦ omega (arith, past_turn t' c i past)
    | inl below ↦ falls_below c i below (joined_to t (c, i)) refl
  ]

  -- all that is left falls, and falls at all where it does at some dart
  same_length : length t'.origins ≡ length t.origins
  same_length = ap (λ os. length os) renamed.origins

  pub unfinished_le : unfinished t' ≤ unfinished t
  unfinished_le =
      subst (λ n. total n (λ c. total 64 (left_at t' c)) ≤ unfinished t) (sym same_length)
      (total_le (length t.origins) (λ c. total 64 (left_at t' c)) (λ c. total 64 (left_at t c)) (λ c _. total_le 64 (left_at t' c) (left_at t c) (λ i _. left_falls c i)))

  less_at : (d : ℕ × ℕ) → IsDart t d → left_at t' d.0 d.1 < left_at t d.0 d.1 → unfinished t' < unfinished t
  less_at d is_dart less =
      let made = table.live_made d.0 is_dart.live in
      let kind = table.kinds_there d.0 made in
      let wide = table.valid.sides (kind_of t.origins d.0) kind in
      let short = divides_le (kind_at t.kinds (kind_of t.origins d.0)).sides (turn_at t.cells d.0) (omega (arith, wide.0)) (table.turns d.0 is_dart.live) in
      let below = is_dart.below in
      let row = total_lt 64 (left_at t' d.0) (left_at t d.0) (λ i _. left_falls d.0 i) d.1 (omega (arith, below, short, wide.1)) less in
      subst (λ n. total n (λ c. total 64 (left_at t' c)) < unfinished t) (sym same_length)
      (total_lt (length t.origins) (λ c. total 64 (left_at t' c)) (λ c. total 64 (left_at t c)) (λ c _. total_le 64 (left_at t' c) (left_at t c) (λ i _. left_falls c i)) d.0 made row)

  -- a dart that is none any more
  less_gone : (d : ℕ × ℕ) → IsDart t d → turn_at t'.cells d.0 ≤ d.1 → unfinished t' < unfinished t
  less_gone d is_dart past = less_at d is_dart (let some = at_least_one t d.0 d.1 is_dart.below in omega (arith, past_turn t' d.0 d.1 past, some))

  -- two darts that are one afterwards
  less_merged : (e b : ℕ × ℕ) → IsDart t e → IsDart t b → ¬ (e ≡ b) → name t'.cells e ≡ name t'.cells b → unfinished t' < unfinished t
  less_merged e b dart_e dart_b apart same = elim (cases_lt e.1 (turn_at t'.cells e.0)) [
    | inr past ↦ less_gone e dart_e past
    | inl below_e ↦ elim (cases_lt b.1 (turn_at t'.cells b.0)) [
      | inr past ↦ less_gone b dart_b past
      | inl below_b ↦ absurd (apart (sym (still_named e.0 e.1 below_e) ∙ (same ∙ still_named b.0 b.1 below_b)))
    ]
  ]

  -- a dart that is joined to another than before, or was not joined
  less_joined : (x b : ℕ × ℕ) → IsDart t x → IsDart t b → ¬ (joined_to t x ≡ Some b) → joined_to t' (name t'.cells x) ≡ Some (name t'.cells b) → (o : Option (ℕ × ℕ)) → joined_to t x ≡ o → unfinished t' < unfinished t
  less_joined x b dart_x dart_b not_yet joined None is = elim (cases_lt x.1 (turn_at t'.cells x.0)) [
    | inr past ↦ less_gone x dart_x past
    | inl below ↦
        let here : joined_to t' x ≡ Some (name t'.cells b) = subst (λ d. joined_to t' d ≡ Some (name t'.cells b)) (still_named x.0 x.1 below) joined in
        let one = at_joined t' x.0 x.1 (name t'.cells b) below here in
        let two = at_dart t x.0 x.1 dart_x.below ∙ ap left_of_join is in
        less_at x dart_x (omega (arith, one, two))
  ]
  less_joined x b dart_x dart_b not_yet joined (Some e) is =
      let apart : ¬ (e ≡ b) = λ same. not_yet (is ∙ ap Some same) in
      let kept = renamed.kept x e is in
      let same : name t'.cells e ≡ name t'.cells b = cc (kept, joined) in
      less_merged e b (over_dart t table x e is) dart_b apart same

  pub unfinished_lt : (a b : ℕ × ℕ) → IsLive t.cells a.0 → IsDart t b → ¬ (joined_to t a ≡ Some b) → joined_to t' (name t'.cells a) ≡ Some (name t'.cells b) → unfinished t' < unfinished t
  unfinished_lt a b live dart_b not_yet joined =
      let x = name t.cells a in
      let at : joined_to t x ≡ joined_to t a = unnamed t table a live in
      let after : joined_to t' (name t'.cells x) ≡ Some (name t'.cells b) = subst (λ d. joined_to t' d ≡ Some (name t'.cells b)) (sym (renamed.names a)) joined in
      less_joined x b (named_dart t table a) dart_b (λ is. not_yet (sym at ∙ is)) after (joined_to t x) refl

  pub closed_on : HasClosedOn t t'
  closed_on = record { grown = grown_renamed t t' renamed; origins = renamed.origins; falls = unfinished_le }

pub closed_on_same : (t : JoinTable) → IsTable t → HasClosedOn t t
closed_on_same t table = record { grown = grown_same t table; origins = refl; falls = omega arith }

pub closed_on_both : (t t' t'' : JoinTable) → IsTable t → HasClosedOn t t' → HasClosedOn t' t'' → HasClosedOn t t''
closed_on_both t t' t'' table one two = record {
  grown = grown_on t t' t'' table one.grown two.grown;
  origins = two.origins ∙ one.origins;
  falls = omega (arith, one.falls, two.falls);
}
