-- What a table between calls promises: its joins, read by the darts of live cells.
use Rattle.std.proofs.Common.{◌≡◌, ℕ, ◌/◌, ◌%◌, ◌<◌, cond, nat_eq, List, [], ◌∷◌, ◌++◌, replicate, Some, None, refl, sym, ap, ◌∙◌, subst, inl, inr, arith, mod-lt, mod-eq_of_lt}
use Rattle.std.proofs.lemmas.Bool.{cases_eq, cases_lt, eq-eqb, ne_eqb}
use Rattle.tile_model.specs.declared.Letter.TheVariants.{L, X}
use Rattle.tile_model.specs.Tessellations.{TileKind, kind_at, IsType, sides}
use Rattle.tile_model.specs.Walks.{type_of}
use Rattle.tile_model.specs.Relation.{AreAtSameTile}
use Rattle.tile_model.proofs.Types.{walk_type}
use Rattle.tile_model.proofs.SameTile.{turned_full}
use Rattle.coincidence.specs.declared.origin.Origin.{Origin}
use Rattle.coincidence.specs.declared.table.Cell.{Cell}
use Rattle.coincidence.specs.declared.table.Table.{Table}
use Rattle.coincidence.specs.Darts.{nowhere, pack, unpack, slot_at, IsTaken}
use Rattle.coincidence.specs.Cells.{turn_at, into_at, shift_at, IsLive, name}
use Rattle.coincidence.specs.Atlases.{Atlas, AreOne, HasPeriod, LieAcross, IsSound}
use Rattle.coincidence.specs.Followed.{AreNamed, IsFollowed, IsSettled}
use Rattle.coincidence.specs.Pending.{IsShaped, IsQuiet}
use Rattle.coincidence.specs.Tables.{JoinTable, origin_at, kind_of, atlas_of, atlas, dart_walk, dart_in, joined_in, walk_to}
use Rattle.coincidence.specs.Joined.{IsKept, IsTable, HasRenamed}
use Rattle.coincidence.proofs.Numbers.{zero_or_more, not_zero, divides_on}
use Rattle.coincidence.proofs.Names.{named, name_live, name_settled, name_name, name_cell, name_beside}
use Rattle.coincidence.proofs.Origins.{dart_type, walk_first}
use Rattle.coincidence.proofs.Settled.{live_made, taken_some, unpack_pack, named_back}
use Rattle.coincidence.proofs.Merges.{name_sound}
use Rattle.coincidence.proofs.Periods.{one_equal, one_back, one_on, one_behind, at_zero, period_mod}

module _ (cells : List Cell) (slots : List ℕ) where
  abbrev place : ℕ × ℕ → ℕ
  place a = pack (a.0, a.1 % turn_at cells a.0)

  -- a dart that is joined: its cell is live, and its slot holds the other dart
  pub record IsJoinedBy (a b : ℕ × ℕ) : Type 0 where
    pub live : IsLive cells a.0
    pub taken : IsTaken slots (place a)
    pub over : unpack (slot_at slots (place a)) ≡ b

  joined_live : (a : ℕ × ℕ) → IsLive cells a.0 → joined_in cells slots a ≡ dart_in (slot_at slots (place a))
  joined_live a live = ap (λ b. cond b None (dart_in (slot_at slots (place a)))) (not_zero (turn_at cells a.0) live)

  dart_some : (n : ℕ) → ¬ (n ≡ nowhere) → dart_in n ≡ Some (unpack n)
  dart_some n taken = ap (λ b. cond b None (Some (unpack n))) (ne_eqb n nowhere taken)

  dart_none : (n : ℕ) → n ≡ nowhere → dart_in n ≡ None
  dart_none n e = ap (λ b. cond b None (Some (unpack n))) (eq-eqb n nowhere e)

  pub joined_by : (a b : ℕ × ℕ) → joined_in cells slots a ≡ Some b → IsJoinedBy a b
  joined_by a b joined = elim (zero_or_more (turn_at cells a.0)) [
    | inl e ↦ let none : joined_in cells slots a ≡ None = ap (λ n. cond (nat_eq n 0) None (dart_in (slot_at slots (place a)))) e in absurd (cc (none, joined))
    | inr live ↦ elim (cases_eq (slot_at slots (place a)) nowhere) [
      | inl e ↦ let none : joined_in cells slots a ≡ None = joined_live a live ∙ dart_none (slot_at slots (place a)) e in absurd (cc (none, joined))
      | inr taken ↦
          let some : joined_in cells slots a ≡ Some (unpack (slot_at slots (place a))) = joined_live a live ∙ dart_some (slot_at slots (place a)) taken in
          let same : unpack (slot_at slots (place a)) ≡ b = cc (some, joined) in
          record { live = live; taken = taken; over = same }
    ]
  ]

  pub is_joined : (a : ℕ × ℕ) → IsLive cells a.0 → IsTaken slots (place a) → joined_in cells slots a ≡ Some (unpack (slot_at slots (place a)))
  is_joined a live taken = joined_live a live ∙ dart_some (slot_at slots (place a)) taken

module _ (t : Table) (shaped : IsShaped t) (quiet : IsQuiet t.cells.items t.slots.items) where
  abbrev cells' : List Cell
  cells' = t.cells.items

  abbrev slots' : List ℕ
  slots' = t.slots.items

  taken_settled : (n : ℕ) → IsTaken slots' n → IsSettled cells' n
  taken_settled n taken = elim (cases_lt (n % 64) (turn_at cells' (n / 64))) [
    | inl settled ↦ settled
    | inr past ↦ absurd (quiet n (record { taken = taken; past = past }))
  ]

  over_taken : (n : ℕ) → IsTaken slots' n → IsTaken slots' (slot_at slots' n)
  over_taken n taken none = taken_some t n shaped taken (sym (shaped.back n taken) ∙ none)

  own_name : (n : ℕ) → IsTaken slots' n → name cells' (unpack n) ≡ unpack n
  own_name n taken = name_settled cells' shaped.ordered (n / 64) (n % 64) (taken_settled n taken)

  place_is : (n : ℕ) → IsTaken slots' n → place cells' slots' (unpack n) ≡ n
  place_is n taken =
      let side : n % 64 % turn_at cells' (n / 64) ≡ n % 64 = mod-eq_of_lt (taken_settled n taken) in
      omega (arith, side)

  -- what some slot holds is what is joined
  pub named_joined : (p q : ℕ × ℕ) → AreNamed cells' slots' p q → joined_in cells' slots' p ≡ Some q
  named_joined p q holds =
      let n = holds.at in
      let at : unpack n ≡ p = sym (own_name n holds.taken) ∙ holds.here in
      let over : unpack (slot_at slots' n) ≡ q = sym (own_name (slot_at slots' n) (over_taken n holds.taken)) ∙ holds.across in
      let is = place_is n holds.taken in
      let settled = taken_settled n holds.taken in
      let joined : joined_in cells' slots' (unpack n) ≡ Some (unpack (slot_at slots' n)) =
      is_joined cells' slots' (unpack n) (omega (arith, settled)) (subst (IsTaken slots') (sym is) holds.taken) ∙ ap (λ m. Some (unpack (slot_at slots' m))) is in
      subst (λ d. joined_in cells' slots' d ≡ Some q) at (joined ∙ ap Some over)

  name_is : (a : ℕ × ℕ) → IsLive cells' a.0 → unpack (place cells' slots' a) ≡ name cells' a
  name_is a live =
      let below = mod-lt a.1 live in
      let narrow = shaped.turns a.0 in
      unpack_pack (a.0, a.1 % turn_at cells' a.0) (omega (arith, below, narrow)) ∙ sym (name_live cells' shaped.ordered a.0 a.1 live)

  -- what is joined is what some slot holds
  pub joined_named : (a b : ℕ × ℕ) → joined_in cells' slots' a ≡ Some b → AreNamed cells' slots' (name cells' a) b
  joined_named a b joined =
      let by = joined_by cells' slots' a b joined in
      record {
        at = place cells' slots' a;
        taken = by.taken;
        here = ap (name cells') (name_is a by.live) ∙ name_name cells' shaped.ordered a;
        across = own_name (slot_at slots' (place cells' slots' a)) (over_taken (place cells' slots' a) by.taken) ∙ by.over;
      }

  pub joined_own : (a b : ℕ × ℕ) → joined_in cells' slots' a ≡ Some b → IsLive cells' a.0 × (name cells' b ≡ b)
  joined_own a b joined =
      let by = joined_by cells' slots' a b joined in
      let own = own_name (slot_at slots' (place cells' slots' a)) (over_taken (place cells' slots' a) by.taken) in
      (by.live, subst (λ d. name cells' d ≡ d) by.over own)

  pub joined_back : (a b : ℕ × ℕ) → joined_in cells' slots' a ≡ Some b → joined_in cells' slots' b ≡ Some (name cells' a)
  joined_back a b joined = named_joined b (name cells' a) (named_back t (name cells' a) b shaped (joined_named a b joined))

  pub joined_across : (atlas : Atlas) → IsSound atlas cells' slots' → (a b : ℕ × ℕ) → joined_in cells' slots' a ≡ Some b → LieAcross atlas a b
  joined_across atlas sound a b joined =
      let by = joined_by cells' slots' a b joined in
      let here : LieAcross atlas (name cells' a) b = subst (λ d. LieAcross atlas d b) (name_is a by.live) (subst (LieAcross atlas (unpack (place cells' slots' a))) by.over (sound.joined (place cells' slots' a) by.taken)) in
      one_on atlas (one_behind atlas (X ∷ []) (name_sound atlas cells' slots' shaped.ordered sound a.0 a.1)) here

module _ (kinds : List TileKind) (origins : List Origin) (t : Table) (kept : IsKept kinds origins t) where
  abbrev value : JoinTable
  value = record { kinds = kinds; origins = origins; cells = t.cells.items; slots = t.slots.items }

  abbrev here : Atlas
  here = atlas_of kinds origins

  start_type : IsType kinds (kind_of origins 0, 0)
  start_type =
      let there = kept.kinds_there 0 (omega (arith, kept.count, kept.shaped.some)) in
      let repeat = (kept.valid.repeat (kind_of origins 0) there).positive in
      (there, omega (arith, repeat))

  -- a full turn of a cell
  abbrev full : ℕ → ℕ
  full c = sides kinds (type_of kinds (kind_of origins 0, 0) (walk_to origins c))

  full_period : (c : ℕ) → HasPeriod here c (full c)
  full_period c = record { related = turned_full kinds (kind_of origins 0, 0) (walk_to origins c) }

  full_some : (c : ℕ) → 0 < full c
  full_some c =
      let is_type = walk_type kinds kept.valid (kind_of origins 0, 0) (walk_to origins c) start_type in
      omega (arith, (kept.valid.sides (type_of kinds (kind_of origins 0, 0) (walk_to origins c)).0 is_type.0).0)

  same_tile : (c : ℕ) → turn_at t.cells.items c ≡ 0 → AreAtSameTile kinds (kind_of origins 0, 0) (dart_walk value (into_at t.cells.items c, 0)) (dart_walk value (c, 0))
  same_tile c gone =
      let e = into_at t.cells.items c in
      let s = shift_at t.cells.items c in
      let plain = at_zero here e in
      let turned : AreOne here (dart_walk value (e, s % full e)) (dart_walk value (c, 0)) = one_back here (one_on here (one_equal here (at_zero here c)) (one_on here (kept.sound.renamed c gone) (period_mod here e (full e) s (full_period e)))) in
      let again : dart_walk value (e, 0) ++ replicate (s % full e) L ≡ dart_walk value (e, s % full e) = ap (λ u. u ++ replicate (s % full e) L) plain in
      record {
        turns = s % full e;
        fewer = subst (λ u. s % full e < sides kinds (type_of kinds (kind_of origins 0, 0) u)) (sym plain) (mod-lt s (full_some e));
        related = (one_on here (one_equal here again) turned).related;
      }

  pub kept_table : IsTable value
  kept_table = record {
    valid = kept.valid;
    some = omega (arith, kept.count, kept.shaped.some);
    few = omega (arith, kept.count, kept.shaped.few);
    count = kept.count;
    kinds_there = kept.kinds_there;
    live_made = λ c live. let made = live_made t.cells.items c live in omega (arith, made, kept.count);
    first_walk = walk_first origins;
    first_live = elim (zero_or_more (turn_at t.cells.items 0)) [
      | inl gone ↦ absurd (let before = kept.shaped.ordered 0 gone in omega (arith, before))
      | inr live ↦ live
    ];
    turns = kept.turns;
    named = λ d. let h = named t.cells.items kept.shaped.ordered d.0 d.1 in record { live = h.live; below = h.below; earlier = h.earlier };
    name_live = name_live t.cells.items kept.shaped.ordered;
    one_cell = λ c i j. name_cell t.cells.items kept.shaped.ordered c i j;
    beside = name_beside t.cells.items kept.shaped.ordered;
    walk_type = λ d made. dart_type kinds kept.valid origins kept.kinds_there kept.come d.0 d.1 made;
    related_name = λ d. name_sound here t.cells.items t.slots.items kept.shaped.ordered kept.sound d.0 d.1;
    joined_name = joined_own t kept.shaped kept.quiet;
    back = joined_back t kept.shaped kept.quiet;
    come = kept.come;
    met = λ c some made. named_joined t kept.shaped kept.quiet _ _ (kept.met c some made);
    sound = record {
      joined = λ a b joined. (joined_across t kept.shaped kept.quiet here kept.sound a b joined).related;
      renamed = λ c made gone. same_tile c gone;
      turned = λ c live. (one_on here (kept.sound.turned c live) (one_equal here (sym (at_zero here c)))).related;
    };
  }

  -- after a call that follows the table
  module _ (t' : Table) (shaped' : IsShaped t') (quiet' : IsQuiet t'.cells.items t'.slots.items) (followed : IsFollowed t.cells.items t.slots.items t'.cells.items t'.slots.items) (sound' : IsSound here t'.cells.items t'.slots.items) where
    renamed_named : (p q : ℕ × ℕ) → AreNamed t.cells.items t.slots.items (name t.cells.items p) (name t.cells.items q) → AreNamed t'.cells.items t'.slots.items (name t'.cells.items p) (name t'.cells.items q)
    renamed_named p q holds =
        let on = followed.kept (name t.cells.items p) (name t.cells.items q) holds in
        record { at = on.at; taken = on.taken; here = on.here ∙ followed.names p; across = on.across ∙ followed.names q }

    pub joined_kept : IsKept kinds origins t'
    joined_kept = record {
      valid = kept.valid;
      shaped = shaped';
      quiet = quiet';
      count = followed.count ∙ kept.count;
      kinds_there = kept.kinds_there;
      come = kept.come;
      met = λ c some made. renamed_named (unpack (origin_at origins c).across) (c, (origin_at origins c).own) (kept.met c some made);
      turns = λ c live. let fallen = followed.turns c live in divides_on (kind_at kinds (kind_of origins c)).sides (turn_at t.cells.items c) (turn_at t'.cells.items c) (kept.turns c fallen.was_live) fallen.divides;
      sound = sound';
    }

    pub joined_renamed : HasRenamed value (record { kinds = kinds; origins = origins; cells = t'.cells.items; slots = t'.slots.items })
    joined_renamed = record {
      kinds = refl;
      origins = refl;
      names = followed.names;
      kept = λ a b joined. named_joined t' shaped' quiet' (name t'.cells.items a) (name t'.cells.items b) (subst (λ p. AreNamed t'.cells.items t'.slots.items p (name t'.cells.items b)) (followed.names a) (followed.kept (name t.cells.items a) b (joined_named t kept.shaped kept.quiet a b joined)));
      turns = followed.turns;
    }
