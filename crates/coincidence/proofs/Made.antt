-- A cell is made across a dart: a live cell is added to the table, and the two darts are joined.
use Rattle.std.proofs.Common.{◌≡◌, ℕ, ◌+◌, ◌*◌, ◌/◌, ◌%◌, ◌<◌, ◌≤◌, cond, nat_eq, List, [], ◌∷◌, ◌++◌, length, replicate, Option, Some, None, refl, sym, ap, ap₂, ◌∙◌, subst, inl, inr, arith, append_assoc, mod-lt, mod-eq_of_lt}
use Rattle.std.proofs.lemmas.Bool.{cases_lt, cases_eq}
use Rattle.std.proofs.lemmas.List.{get_or_past, append-nil}
use Rattle.std.proofs.Math.Nat.{mod_self}
use Rattle.tile_model.specs.declared.Letter.{Letter}
use Rattle.tile_model.specs.declared.Letter.TheVariants.{L, R, X}
use Rattle.tile_model.specs.Tessellations.{TileKind, kind_at, IsType, cross, sides}
use Rattle.tile_model.specs.Validity.{IsValid}
use Rattle.tile_model.specs.Walks.{type_of}
use Rattle.tile_model.specs.Relation.{AreRelated}
use Rattle.tile_model.proofs.Types.{cross_type, repeat_le_sides}
use Rattle.tile_model.proofs.SameTile.{turned_full}
use Rattle.coincidence.specs.declared.origin.Origin.{Origin}
use Rattle.coincidence.specs.declared.table.Cell.{Cell}
use Rattle.coincidence.specs.declared.table.Table.{Table}
use Rattle.coincidence.specs.Darts.{nowhere, pack, unpack, slot_at, IsTaken}
use Rattle.coincidence.specs.Cells.{cell_at, turn_at, into_at, shift_at, IsLive, IsOrdered, live_count, name}
use Rattle.coincidence.specs.Atlases.{Atlas, AreOne, walk_of, HasPeriod, LieAcross, IsSound}
use Rattle.coincidence.specs.Followed.{AreNamed, IsSettled}
use Rattle.coincidence.specs.Pending.{last_link, HasChain, IsQuiet, IsShaped, IsExtended, HasMoved}
use Rattle.coincidence.specs.Tables.{JoinTable, origin_at, kind_of, atlas_of, walk_to, type_in, type_at, dart_in, joined_in, ComesFrom}
use Rattle.coincidence.specs.Joined.{IsKept, IsFirst, HasMade}
use Rattle.coincidence.proofs.Numbers.{zero_or_more, not_zero}
use Rattle.coincidence.proofs.Names.{named, name_live}
use Rattle.coincidence.proofs.Periods.{one_equal, one_back, one_on}
use Rattle.coincidence.proofs.Settled.{live_made, taken_made, unpack_pack}
use Rattle.coincidence.proofs.Origins.{AreEarlier, walk_on, walk_past, walk_first, walk_made, walk_old, origin_old, origin_new, more_length, come_earlier, side_type, walk_types, there_and_left}
use Rattle.coincidence.proofs.Extends.{MayGrow, empty_grows, shaped_grows, grown_length, grown_new, grown_other, grown_shaped, grown_quiet, grown_names, grown_sound}
use Rattle.coincidence.proofs.Kept.{is_joined}

-- a join by the turn and by what stands in the slot
abbrev read : ℕ → ℕ → Option (ℕ × ℕ)
read x m = cond (nat_eq x 0) None (dart_in m)

-- an empty slot is no join
pub unjoined_empty : (cells : List Cell) (slots : List ℕ) (d : ℕ × ℕ) → slot_at slots (pack (d.0, d.1 % turn_at cells d.0)) ≡ nowhere → joined_in cells slots d ≡ None
unjoined_empty cells slots d empty = elim (zero_or_more (turn_at cells d.0)) [
  | inl gone ↦ ap (λ n. cond (nat_eq n 0) None (dart_in (slot_at slots (pack (d.0, d.1 % turn_at cells d.0))))) gone
  | inr live ↦ ap (λ b. cond b None (dart_in (slot_at slots (pack (d.0, d.1 % turn_at cells d.0))))) (not_zero (turn_at cells d.0) live) ∙ ap (λ n. dart_in n) empty
]

-- a kind's full turn
pub period_of_kind : (kinds : List TileKind) (origins : List Origin) (c k : ℕ) → type_of kinds (kind_of origins 0, 0) (walk_to origins c) ≡ (k, 0) → HasPeriod (atlas_of kinds origins) c (kind_at kinds k).sides
period_of_kind kinds origins c k is =
    let full : AreOne (atlas_of kinds origins) (walk_of (atlas_of kinds origins) (c, sides kinds (type_of kinds (kind_of origins 0, 0) (walk_to origins c)))) (walk_to origins c) = record { related = turned_full kinds (kind_of origins 0, 0) (walk_to origins c) } in
    subst (λ d. HasPeriod (atlas_of kinds origins) c (sides kinds d)) is full

module _ (kinds : List TileKind) (valid : IsValid kinds) (k : ℕ) (there : k < length kinds) (t t' : Table) (no_cells : t.cells.items ≡ []) (no_slots : t.slots.items ≡ []) (head : t.head ≡ last_link) (none_live : t.live ≡ 0) (extended : IsExtended t t' (kind_at kinds k).sides) where
  abbrev first_sides : ℕ
  first_sides = (kind_at kinds k).sides

  abbrev only : List Origin
  only = record { kind = k; own = 0; across = 0 } ∷ []

  first_may : MayGrow t
  first_may = empty_grows t no_cells no_slots head none_live

  none : length t.cells.items ≡ 0
  none = ap (λ (xs : List Cell). length xs) no_cells

  first_some : 0 < first_sides
  first_some = omega (arith, (valid.sides k there).0)

  shaped' : IsShaped t'
  shaped' = grown_shaped t t' first_sides first_may extended first_some (valid.sides k there).1

  count' : length t'.cells.items ≡ 1
  count' = omega (arith, grown_length t t' first_sides first_may extended first_some (valid.sides k there).1, none)

  first_turn : turn_at t'.cells.items 0 ≡ first_sides
  first_turn = ap (turn_at t'.cells.items) (sym none) ∙ ap (λ (x : Cell). x.turn) (grown_new t t' first_sides first_may extended first_some (valid.sides k there).1)

  only_first : (c : ℕ) → c < 1 → c ≡ 0
  only_first c made = omega (arith, made)

  first_sound : IsSound (atlas_of kinds only) t'.cells.items t'.slots.items
  first_sound =
      let here = atlas_of kinds only in
      grown_sound t t' first_sides first_may extended first_some (valid.sides k there).1 here
      (λ n taken. absurd (taken (ap (λ ss. slot_at ss n) no_slots)))
      (λ c made _. absurd (omega (arith, made, none)))
      (λ c past. one_equal here (walk_past only c (omega (arith, past, none)) ∙ sym (append-nil (walk_to only 0) ∙ walk_first only)))
      (λ c made _. absurd (omega (arith, made, none)))
      (subst (λ c. HasPeriod here c first_sides) (sym none) (period_of_kind kinds only 0 k (ap (type_of kinds (k, 0)) (walk_first only))))

  pub first_kept : IsKept kinds (record { kind = k; own = 0; across = 0 } ∷ []) t'
  first_kept = record {
    valid = valid;
    shaped = shaped';
    quiet = grown_quiet t t' first_sides first_may extended first_some (valid.sides k there).1;
    count = count';
    kinds_there = λ c made. subst (λ x. kind_of only x < length kinds) (sym (only_first c made)) there;
    come = λ c some made. absurd (omega (arith, some, made));
    met = λ c some made. absurd (omega (arith, some, made));
    turns = λ c live.
        let made = live_made t'.cells.items c live in
        let e = only_first c (omega (arith, made, count')) in
        subst (λ x. (kind_at kinds (kind_of only x)).sides % turn_at t'.cells.items x ≡ 0) (sym e) (ap (λ n. first_sides % n) first_turn ∙ mod_self first_sides);
    sound = first_sound;
  }

  pub first_is : IsFirst kinds k (record { kinds = kinds; origins = record { kind = k; own = 0; across = 0 } ∷ []; cells = t'.cells.items; slots = t'.slots.items })
  first_is = record {
    same_kinds = refl;
    count = refl;
    kind = refl;
    turn = first_turn;
    live = sym shaped'.live ∙ (extended.live ∙ ap (λ n. n + 1) none_live);
    unjoined = λ d. unjoined_empty t'.cells.items t'.slots.items d (extended.same _ ∙ ap (λ ss. slot_at ss (pack (d.0, d.1 % turn_at t'.cells.items d.0))) no_slots);
  }

-- the dart across which the cell is made, its least side, is near; over is the type of the side across
module _ (kinds : List TileKind) (origins : List Origin) (t t1 : Table) (kept : IsKept kinds origins t) (d near over : ℕ × ℕ) (room : length origins < 1000000)
    (live : IsLive t.cells.items d.0) (near_is : near ≡ name t.cells.items d) (over_is : over ≡ cross kinds (type_in kinds origins near))
    (extended : IsExtended t t1 (kind_at kinds over.0).sides) where
  abbrev n : ℕ
  n = length origins

  abbrev turn : ℕ
  turn = (kind_at kinds over.0).sides

  abbrev new_origin : Origin
  new_origin = record { kind = over.0; own = over.1; across = pack near }

  abbrev after : List Origin
  after = origins ++ new_origin ∷ []

  abbrev there : Atlas
  there = atlas_of kinds after

  near_at : near ≡ (d.0, d.1 % turn_at t.cells.items d.0)
  near_at = near_is ∙ name_live t.cells.items kept.shaped.ordered d.0 d.1 live

  near_cell : near.0 ≡ d.0
  near_cell = ap (λ x. x.0) near_at

  pub near_made : near.0 < length origins
  near_made = let made = live_made t.cells.items d.0 live in omega (arith, made, near_cell, kept.count)

  pub near_settled : near.1 < turn_at t.cells.items near.0
  near_settled =
      let h = named t.cells.items kept.shaped.ordered d.0 d.1 in
      subst (λ x. x.1 < turn_at t.cells.items x.0) (sym near_is) h.below

  near_packed : unpack (pack near) ≡ near
  near_packed = let narrow = kept.shaped.turns near.0 in unpack_pack near (omega (arith, near_settled, narrow))

  over_type : IsType kinds over
  over_type = subst (IsType kinds) (sym over_is) (cross_type kinds kept.valid (type_in kinds origins near) (side_type kinds kept.valid origins kept.kinds_there kept.come near.0 near.1 near_made))

  wide : 3 ≤ turn
  wide = (kept.valid.sides over.0 over_type.0).0

  narrow : turn ≤ 64
  narrow = (kept.valid.sides over.0 over_type.0).1

  some_sides : 0 < turn
  some_sides = omega (arith, wide)

  own_below : over.1 < turn
  own_below =
      let small = repeat_le_sides (kind_at kinds over.0) (kept.valid.sides over.0 over_type.0) (kept.valid.repeat over.0 over_type.0) in
      omega (arith, small, over_type.1)

  may : MayGrow t
  may = shaped_grows t kept.shaped kept.quiet (omega (arith, room, kept.count))

  same_count : length t.cells.items ≡ n
  same_count = kept.count

  new_turn : turn_at t1.cells.items n ≡ turn
  new_turn = ap (turn_at t1.cells.items) (sym same_count) ∙ ap (λ (x : Cell). x.turn) (grown_new t t1 turn may extended some_sides narrow)

  old_cell : (c : ℕ) → c < n → cell_at t1.cells.items c ≡ cell_at t.cells.items c
  old_cell c made = grown_other t t1 turn may extended some_sides narrow c (λ e. omega (arith, e, made, same_count))

  old_name : (c i : ℕ) → c < n → name t1.cells.items (c, i) ≡ name t.cells.items (c, i)
  old_name c i made = grown_names t t1 turn may extended some_sides narrow kept.shaped.ordered c i (omega (arith, made, same_count))

  pub made_shaped : IsShaped t1
  made_shaped = grown_shaped t t1 turn may extended some_sides narrow

  pub near_settled_after : IsSettled t1.cells.items (pack near)
  near_settled_after =
      let same = ap (λ (x : Cell). x.turn) (old_cell near.0 near_made) in
      subst (λ x. x.1 < turn_at t1.cells.items x.0) (sym near_packed) (omega (arith, near_settled, same))

  over_packed : unpack (pack (n, over.1)) ≡ (n, over.1)
  over_packed = unpack_pack (n, over.1) (omega (arith, own_below, narrow))

  pub over_settled_after : IsSettled t1.cells.items (pack (n, over.1))
  over_settled_after = subst (λ x. x.1 < turn_at t1.cells.items x.0) (sym over_packed) (omega (arith, own_below, new_turn))

  -- of the origins after
  origin_after : (P : ℕ → Origin → Type 0) → P n new_origin → ((c : ℕ) → c < n → P c (origin_at origins c)) → (c : ℕ) → c < length after → P c (origin_at after c)
  origin_after P at_new others c made = elim (cases_lt c n) [
    | inl old ↦ subst (P c) (sym (origin_old origins new_origin c old)) (others c old)
    | inr past ↦
        let e : c ≡ n = let long = more_length origins new_origin in omega (arith, past, made, long) in
        subst (λ x. P x (origin_at after x)) (sym e) (subst (P n) (sym (origin_new origins new_origin)) at_new)
  ]

  kinds_after : (c : ℕ) → c < length after → kind_of after c < length kinds
  kinds_after = origin_after (λ c o. o.kind < length kinds) over_type.0 kept.kinds_there

  type_after : (b i : ℕ) → b < n → type_in kinds after (b, i) ≡ type_in kinds origins (b, i)
  type_after b i made = ap (λ (o : Origin). (o.kind, i % (kind_at kinds o.kind).repeat)) (origin_old origins new_origin b made)

  record Comes (c : ℕ) (o : Origin) : Type 0 where
    earlier : o.across / 64 < c
    own : o.own < 64
    across : (o.kind, o.own) ≡ cross kinds (type_in kinds after (unpack o.across))

  comes : (c : ℕ) → 0 < c → c < length after → Comes c (origin_at after c)
  comes c some made = origin_after (λ c o. 0 < c → Comes c o) (λ _. at_new) old c made some
    where
      at_new : Comes n new_origin
      at_new = record {
        earlier = omega (arith, ap (λ x. x.0) near_packed, near_made);
        own = omega (arith, own_below, narrow);
        across = over_is ∙ ap (cross kinds) (sym (type_after near.0 near.1 near_made) ∙ ap (type_in kinds after) (sym near_packed));
      }

      old : (c : ℕ) → c < n → 0 < c → Comes c (origin_at origins c)
      old c made some =
          let from = kept.come c some made in
          let before = from.earlier in
          record { earlier = from.earlier; own = from.own; across = from.across ∙ ap (cross kinds) (sym (type_after ((origin_at origins c).across / 64) ((origin_at origins c).across % 64) (omega (arith, before, made)))) }

  come_after : (c : ℕ) → 0 < c → c < length after → ComesFrom kinds after c
  come_after c some made = let h = comes c some made in record { earlier = h.earlier; own = h.own; across = h.across }

  earlier_before : AreEarlier origins
  earlier_before = come_earlier kinds kept.valid origins kept.kinds_there kept.come

  earlier_after : AreEarlier after
  earlier_after = come_earlier kinds kept.valid after kinds_after come_after

  pub walk_kept : (c : ℕ) → c < length origins → walk_to after c ≡ walk_to origins c
  walk_kept = walk_old origins new_origin earlier_before earlier_after

  first_kind : kind_of after 0 ≡ kind_of origins 0
  first_kind = ap (λ (o : Origin). o.kind) (origin_old origins new_origin 0 (omega (arith, kept.count, kept.shaped.some)))

  one_after : {u w : List Letter} → AreOne (atlas_of kinds origins) u w → AreOne there u w
  one_after {u} {w} h = record { related = subst (λ k. AreRelated kinds (k, 0) u w) (sym first_kind) h.related }

  walk_after : (c i : ℕ) → c < n → walk_of there (c, i) ≡ walk_of (atlas_of kinds origins) (c, i)
  walk_after c i made = ap (λ u. u ++ replicate i L) (walk_kept c made)

  across_after : (a b : ℕ × ℕ) → a.0 < n → b.0 < n → LieAcross (atlas_of kinds origins) a b → LieAcross there a b
  across_after a b made made' h = one_on there (one_equal there (ap (λ u. u ++ X ∷ []) (walk_after a.0 a.1 made))) (one_on there (one_after h) (one_equal there (sym (walk_after b.0 b.1 made'))))

  long_after : length after ≡ n + 1
  long_after = more_length origins new_origin

  type_new : type_of kinds (kind_of after 0, 0) (walk_to after n) ≡ (over.0, 0)
  type_new = walk_types kinds kept.valid after kinds_after come_after n (omega (arith, long_after)) ∙ ap (λ (o : Origin). (o.kind, 0)) (origin_new origins new_origin)

  pub sound_after : IsSound (atlas_of kinds (origins ++ record { kind = over.0; own = over.1; across = pack near } ∷ [])) t1.cells.items t1.slots.items
  sound_after =
      grown_sound t t1 turn may extended some_sides narrow there
      (λ m taken.
      let old = taken_made t.slots.items m taken in
      let old' = kept.shaped.made m taken in
      across_after (unpack m) (unpack (slot_at t.slots.items m)) (omega (arith, old, kept.shaped.slots, same_count)) (omega (arith, old', same_count)) (kept.sound.joined m taken))
      (λ c made gone.
      let before = kept.shaped.ordered c gone in
      one_on there (one_equal there (walk_kept c (omega (arith, made, same_count)))) (one_on there (one_after (kept.sound.renamed c gone)) (one_equal there (sym (walk_after (into_at t.cells.items c) (shift_at t.cells.items c) (omega (arith, before, made, same_count)))))))
      (λ c past. one_equal there (walk_past after c (omega (arith, past, same_count, long_after)) ∙ sym (append-nil (walk_to after 0) ∙ walk_first after)))
      (λ c made live.
      let made' : c < n = omega (arith, made, same_count) in
      one_on there (one_equal there (walk_after c (turn_at t.cells.items c) made')) (one_on there (one_after (kept.sound.turned c live)) (one_equal there (sym (walk_kept c made')))))
      (subst (λ c. HasPeriod there c turn) (sym same_count) (period_of_kind kinds after n over.0 type_new))

  walk_new : walk_to after n ≡ walk_of there near ++ X ∷ replicate over.1 R
  walk_new = walk_made after earlier_after n (omega (arith, near_made)) (omega (arith, long_after)) ∙ (ap (λ o. walk_on (walk_to after (o.across / 64)) o) (origin_new origins new_origin) ∙ ap (λ x. (walk_to after x.0 ++ replicate x.1 L) ++ X ∷ replicate over.1 R) near_packed)

  pub lies_across : LieAcross (atlas_of kinds (origins ++ record { kind = over.0; own = over.1; across = pack near } ∷ [])) (unpack (pack near)) (unpack (pack (length origins, over.1)))
  lies_across =
      let w = walk_of there near in
      let rest = replicate over.1 R ++ replicate over.1 L in
      let whole : (w ++ X ∷ replicate over.1 R) ++ replicate over.1 L ≡ (w ++ X ∷ []) ++ rest = append_assoc w (X ∷ replicate over.1 R) (replicate over.1 L) ∙ sym (append_assoc w (X ∷ []) rest) in
      let here : LieAcross there near (n, over.1) = one_back there (one_on there (one_equal there (ap (λ u. u ++ replicate over.1 L) walk_new ∙ whole)) (record { related = there_and_left kinds (kind_of after 0, 0) (w ++ X ∷ []) over.1 })) in
      subst (λ a. LieAcross there a (unpack (pack (n, over.1)))) (sym near_packed) (subst (LieAcross there near) (sym over_packed) here)

  -- and then both darts are joined
  module _ (t2 : Table) (cells_are : t2.cells ≡ t1.cells) (moved : HasMoved t1 t2) (slot : slot_at t2.slots.items (pack near) ≡ pack (length origins, over.1))
      (others : (m : ℕ) → ¬ (m ≡ pack near) → ¬ (m ≡ pack (length origins, over.1)) → slot_at t2.slots.items m ≡ slot_at t1.slots.items m)
      (sound : IsSound (atlas_of kinds (origins ++ record { kind = over.0; own = over.1; across = pack near } ∷ [])) t2.cells.items t2.slots.items) where
    same_cells : t2.cells.items ≡ t1.cells.items
    same_cells = ap (λ v. v.items) cells_are

    quiet_after : IsQuiet t2.cells.items t2.slots.items
    quiet_after m pending =
        let past : turn_at t1.cells.items (m / 64) ≤ m % 64 = subst (λ xs. turn_at xs (m / 64) ≤ m % 64) same_cells pending.past in
        elim (cases_eq m (pack near)) [
          | inl e ↦ let settled = subst (IsSettled t1.cells.items) (sym e) near_settled_after in omega (arith, settled, past)
          | inr not_near ↦ elim (cases_eq m (pack (n, over.1))) [
            | inl e ↦ let settled = subst (IsSettled t1.cells.items) (sym e) over_settled_after in omega (arith, settled, past)
            | inr not_over ↦ grown_quiet t t1 turn may extended some_sides narrow m (record { taken = λ none. pending.taken (others m not_near not_over ∙ none); past = past })
          ]
        ]

    named_after : (a b : ℕ × ℕ) → a.0 < n → b.0 < n → AreNamed t.cells.items t.slots.items (name t.cells.items a) (name t.cells.items b) → AreNamed t2.cells.items t2.slots.items (name t2.cells.items a) (name t2.cells.items b)
    named_after a b made made' holds =
        let m = holds.at in
        let e = slot_at t.slots.items m in
        let old = taken_made t.slots.items m holds.taken in
        let old' = kept.shaped.made m holds.taken in
        let first : AreNamed t1.cells.items t1.slots.items (name t1.cells.items a) (name t1.cells.items b) = record {
          at = m;
          taken = λ none. holds.taken (sym (extended.same m) ∙ none);
          here = old_name (m / 64) (m % 64) (omega (arith, old, kept.shaped.slots, same_count)) ∙ (holds.here ∙ sym (old_name a.0 a.1 made));
          across = ap (λ x. name t1.cells.items (unpack x)) (extended.same m) ∙ (old_name (e / 64) (e % 64) (omega (arith, old', same_count)) ∙ (holds.across ∙ sym (old_name b.0 b.1 made')));
        } in
        let on = moved.followed.kept (name t1.cells.items a) (name t1.cells.items b) first in
        record { at = on.at; taken = on.taken; here = on.here ∙ moved.followed.names a; across = on.across ∙ moved.followed.names b }

    some_slot : IsTaken t2.slots.items (pack near)
    some_slot none = omega (arith, slot, none, own_below, narrow, room)

    turn_after : (c : ℕ) → turn_at t2.cells.items c ≡ turn_at t1.cells.items c
    turn_after c = ap (λ xs. turn_at xs c) same_cells

    pub made_kept : IsKept kinds (origins ++ record { kind = over.0; own = over.1; across = pack near } ∷ []) t2
    made_kept = record {
      valid = kept.valid;
      shaped = moved.shaped;
      quiet = quiet_after;
      count = moved.followed.count ∙ (grown_length t t1 turn may extended some_sides narrow ∙ (ap (λ x. x + 1) same_count ∙ sym long_after));
      kinds_there = kinds_after;
      come = come_after;
      met = λ c some made. origin_after (λ c o. 0 < c → AreNamed t2.cells.items t2.slots.items (name t2.cells.items (unpack o.across)) (name t2.cells.items (c, o.own)))
          (λ _. record { at = pack near; taken = some_slot; here = refl; across = ap (λ x. name t2.cells.items (unpack x)) slot ∙ ap (name t2.cells.items) over_packed })
          (λ c old some.
          let before = (kept.come c some old).earlier in
          named_after (unpack (origin_at origins c).across) (c, (origin_at origins c).own) (omega (arith, before, old)) old (kept.met c some old)) c made some;
      turns = λ c live'.
          let made = live_made t2.cells.items c live' in
          let long : c < length after = omega (arith, made, moved.followed.count, grown_length t t1 turn may extended some_sides narrow, same_count, long_after) in
          origin_after (λ c o. IsLive t2.cells.items c → (kind_at kinds o.kind).sides % turn_at t2.cells.items c ≡ 0)
          (λ _. ap (λ x. turn % x) (turn_after n ∙ new_turn) ∙ mod_self turn)
          (λ c old live'.
          let same : turn_at t2.cells.items c ≡ turn_at t.cells.items c = turn_after c ∙ ap (λ (x : Cell). x.turn) (old_cell c old) in
          subst (λ x. (kind_at kinds (kind_of origins c)).sides % x ≡ 0) (sym same) (kept.turns c (subst (λ x. 0 < x) same live'))) c long live';
      sound = sound;
    }

    pub made_is : HasMade (record { kinds = kinds; origins = origins; cells = t.cells.items; slots = t.slots.items }) (record { kinds = kinds; origins = origins ++ record { kind = over.0; own = over.1; across = pack near } ∷ []; cells = t2.cells.items; slots = t2.slots.items }) d (length origins)
    made_is = record {
      kinds = refl;
      number = refl;
      count = long_after;
      origins = ap₂ (λ (p : ℕ × ℕ) (a : ℕ). origins ++ record { kind = p.0; own = p.1; across = a } ∷ []) (over_is ∙ ap (λ x. cross kinds (type_in kinds origins x)) near_is) (ap pack near_is);
      old_kinds = λ c old. ap (λ (o : Origin). o.kind) (origin_old origins new_origin c old);
      walks = walk_kept;
      walk = walk_new ∙ (ap (λ u. u ++ X ∷ replicate over.1 R) (walk_after near.0 near.1 near_made) ∙ ap₂ (λ (p : ℕ × ℕ) (i : ℕ). walk_of (atlas_of kinds origins) p ++ X ∷ replicate i R) near_is (ap (λ (o : Origin). o.own) (sym (origin_new origins new_origin))));
      across = ap (λ (o : Origin). (o.kind, o.own)) (origin_new origins new_origin) ∙ (over_is ∙ ap (λ x. cross kinds (type_in kinds origins x)) near_is);
      turns = λ c old. turn_after c ∙ ap (λ (x : Cell). x.turn) (old_cell c old);
      turn = turn_after n ∙ (new_turn ∙ ap (λ (o : Origin). (kind_at kinds o.kind).sides) (sym (origin_new origins new_origin)));
      names = λ e old. ap (λ xs. name xs e) same_cells ∙ old_name e.0 e.1 old;
      joined = made_joined;
      joins = made_joins;
      unjoined = made_unjoined;
      live = sym moved.shaped.live ∙ made_live;
    }
      where
        old_turn : (c : ℕ) → c < n → turn_at t2.cells.items c ≡ turn_at t.cells.items c
        old_turn c old = turn_after c ∙ ap (λ (x : Cell). x.turn) (old_cell c old)

        d_made : d.0 < n
        d_made = omega (arith, near_made, near_cell)

        place : pack (d.0, d.1 % turn_at t2.cells.items d.0) ≡ pack near
        place = ap pack (ap (λ x. (d.0, d.1 % x)) (old_turn d.0 d_made) ∙ sym near_at)

        made_joined : joined_in t2.cells.items t2.slots.items d ≡ Some (n, (origin_at after n).own)
        made_joined =
            is_joined t2.cells.items t2.slots.items d (subst (λ x. 0 < x) (sym (old_turn d.0 d_made)) live) (subst (IsTaken t2.slots.items) (sym place) some_slot)
            ∙ (ap (λ m. Some (unpack (slot_at t2.slots.items m))) place ∙ (ap (λ m. Some (unpack m)) slot ∙ (ap Some over_packed ∙ ap (λ (o : Origin). Some (n, o.own)) (sym (origin_new origins new_origin)))))

        slot_before : (m : ℕ) → ¬ (m ≡ pack near) → ¬ (m ≡ pack (n, over.1)) → slot_at t2.slots.items m ≡ slot_at t.slots.items m
        slot_before m not_near not_over = others m not_near not_over ∙ extended.same m

        made_joins : (e : ℕ × ℕ) → e.0 < n → ¬ (name t.cells.items e ≡ name t.cells.items d) → joined_in t2.cells.items t2.slots.items e ≡ joined_in t.cells.items t.slots.items e
        made_joins e old away =
            let x = turn_at t.cells.items e.0 in
            let x2 = turn_at t2.cells.items e.0 in
            let same = old_turn e.0 old in
            let m = pack (e.0, e.1 % x) in
            elim (zero_or_more x) [
              | inl gone ↦ ap (λ y. read y (slot_at t2.slots.items (pack (e.0, e.1 % x2)))) (same ∙ gone) ∙ sym (ap (λ y. read y (slot_at t.slots.items m)) gone)
              | inr live_e ↦
                  let below = mod-lt e.1 live_e in
                  let small = kept.shaped.turns e.0 in
                  let parts : unpack m ≡ (e.0, e.1 % x) = unpack_pack (e.0, e.1 % x) (omega (arith, below, small)) in
                  let not_near : ¬ (m ≡ pack near) = λ is. away (name_live t.cells.items kept.shaped.ordered e.0 e.1 live_e ∙ (sym parts ∙ (ap unpack is ∙ (near_packed ∙ near_is)))) in
                  let not_over : ¬ (m ≡ pack (n, over.1)) = λ is. omega (arith, is, below, small, old) in
                  ap₂ (λ y i. read y (slot_at t2.slots.items (pack (e.0, i)))) same (ap (λ y. e.1 % y) same) ∙ ap (read x) (slot_before m not_near not_over)
            ]

        made_unjoined : (i : ℕ) → i < turn_at t2.cells.items n → ¬ (i ≡ (origin_at after n).own) → joined_in t2.cells.items t2.slots.items (n, i) ≡ None
        made_unjoined i below away =
            let own = ap (λ (o : Origin). o.own) (origin_new origins new_origin) in
            let not_near : ¬ (64 * n + i ≡ pack near) = λ is. let small = kept.shaped.turns near.0 in omega (arith, is, near_made, near_settled, small) in
            let not_over : ¬ (64 * n + i ≡ pack (n, over.1)) = λ is. away (omega (arith, is, own)) in
            let empty : slot_at t.slots.items (64 * n + i) ≡ nowhere = get_or_past t.slots.items (64 * n + i) nowhere (omega (arith, kept.shaped.slots, same_count)) in
            unjoined_empty t2.cells.items t2.slots.items (n, i) (ap (λ j. slot_at t2.slots.items (64 * n + j)) (mod-eq_of_lt below) ∙ (slot_before (64 * n + i) not_near not_over ∙ empty))

        made_live : t2.live ≡ live_count t.cells.items + 1
        made_live = moved.shaped.live ∙ (ap live_count same_cells ∙ (sym made_shaped.live ∙ (extended.live ∙ ap (λ x. x + 1) kept.shaped.live)))

  -- before the call no dart was joined to d
  pub near_empty : joined_in t.cells.items t.slots.items d ≡ None → slot_at t1.slots.items (pack near) ≡ nowhere
  near_empty none = elim (cases_eq (slot_at t.slots.items (pack near)) nowhere) [
    | inl e ↦ extended.same (pack near) ∙ e
    | inr taken ↦
        let place : pack (d.0, d.1 % turn_at t.cells.items d.0) ≡ pack near = ap pack (sym near_at) in
        let some = is_joined t.cells.items t.slots.items d live (subst (IsTaken t.slots.items) (sym place) taken) in
        absurd (cc (none, some))
  ]

  pub over_empty : slot_at t1.slots.items (pack (length origins, over.1)) ≡ nowhere
  over_empty = extended.same (pack (n, over.1)) ∙ get_or_past t.slots.items (pack (n, over.1)) nowhere (omega (arith, kept.shaped.slots, same_count))

-- where nothing changed but the room in memory
pub kept_same : (kinds : List TileKind) (origins origins' : List Origin) (t t' : Table) → IsKept kinds origins t → origins' ≡ origins → t'.cells.items ≡ t.cells.items → t'.slots.items ≡ t.slots.items → t'.head ≡ t.head → t'.live ≡ t.live → IsKept kinds origins' t'
kept_same kinds origins origins' t t' kept origins_are cells_are slots_are head_is live_is =
    let shaped = kept.shaped in
    let shaped' : IsShaped t' = record {
      some = subst (λ (xs : List Cell). 0 < length xs) (sym cells_are) shaped.some;
      few = subst (λ (xs : List Cell). length xs ≤ 1000000) (sym cells_are) shaped.few;
      slots = ap (λ (xs : List ℕ). length xs) slots_are ∙ (shaped.slots ∙ ap (λ (xs : List Cell). 64 * length xs) (sym cells_are));
      turns = subst (λ xs. (c : ℕ) → turn_at xs c ≤ 64) (sym cells_are) shaped.turns;
      shifts = subst (λ xs. (c : ℕ) → shift_at xs c < 64) (sym cells_are) shaped.shifts;
      ordered = subst IsOrdered (sym cells_are) shaped.ordered;
      made = subst (λ ss. (n : ℕ) → IsTaken ss n → slot_at ss n < 64 * length t'.cells.items) (sym slots_are) (subst (λ (xs : List Cell). (n : ℕ) → IsTaken t.slots.items n → slot_at t.slots.items n < 64 * length xs) (sym cells_are) shaped.made);
      back = subst (λ ss. (n : ℕ) → IsTaken ss n → slot_at ss (slot_at ss n) ≡ n) (sym slots_are) shaped.back;
      live = live_is ∙ (shaped.live ∙ ap live_count (sym cells_are));
      chain = subst (HasChain t'.cells.items) (sym head_is) (subst (λ xs. HasChain xs t.head) (sym cells_are) shaped.chain);
    } in
    let same : IsKept kinds origins t' = record {
      valid = kept.valid;
      shaped = shaped';
      quiet = subst (λ ss. IsQuiet t'.cells.items ss) (sym slots_are) (subst (λ xs. IsQuiet xs t.slots.items) (sym cells_are) kept.quiet);
      count = ap (λ (xs : List Cell). length xs) cells_are ∙ kept.count;
      kinds_there = kept.kinds_there;
      come = kept.come;
      met = subst (λ ss. (c : ℕ) → 0 < c → c < length origins → AreNamed t'.cells.items ss (name t'.cells.items (unpack (origin_at origins c).across)) (name t'.cells.items (c, (origin_at origins c).own))) (sym slots_are) (subst (λ xs. (c : ℕ) → 0 < c → c < length origins → AreNamed xs t.slots.items (name xs (unpack (origin_at origins c).across)) (name xs (c, (origin_at origins c).own))) (sym cells_are) kept.met);
      turns = subst (λ xs. (c : ℕ) → IsLive xs c → (kind_at kinds (kind_of origins c)).sides % turn_at xs c ≡ 0) (sym cells_are) kept.turns;
      sound = subst (λ ss. IsSound (atlas_of kinds origins) t'.cells.items ss) (sym slots_are) (subst (λ xs. IsSound (atlas_of kinds origins) xs t.slots.items) (sym cells_are) kept.sound);
    } in
    subst (λ os. IsKept kinds os t') (sym origins_are) same

-- All that a call has found before the two darts are joined.
pub record IsReady (kinds : List TileKind) (origins : List Origin) (t t1 : Table) (d near over : ℕ × ℕ) : Type 0 where
  pub kept : IsKept kinds origins t
  pub room : length origins < 1000000
  pub live : IsLive t.cells.items d.0
  pub near_is : near ≡ name t.cells.items d
  pub over_is : over ≡ cross kinds (type_in kinds origins near)
  pub extended : IsExtended t t1 (kind_at kinds over.0).sides

pub ready : (v : JoinTable) (kinds : List TileKind) (origins : List Origin) (t t1 : Table) (d near over its_type : ℕ × ℕ) (n_sides : ℕ) → record { kinds = kinds; origins = origins; cells = t.cells.items; slots = t.slots.items } ≡ v → IsKept kinds origins t → IsLive v.cells d.0 → length v.origins < 1000000 → near ≡ name v.cells d → its_type ≡ type_at v near → over ≡ cross kinds its_type → n_sides ≡ sides kinds over → IsExtended t t1 n_sides → IsReady kinds origins t t1 d near over
ready v kinds origins t t1 d near over its_type n_sides view kept live room near_is type_is over_is sides_are extended = record {
  kept = kept;
  room = subst (λ w. length w.origins < 1000000) (sym view) room;
  live = subst (λ w. IsLive w.cells d.0) (sym view) live;
  near_is = near_is ∙ ap (λ w. name w.cells d) (sym view);
  over_is = over_is ∙ ap (cross kinds) (type_is ∙ ap (λ w. type_at w near) (sym view));
  extended = subst (IsExtended t t1) sides_are extended;
}

-- the least side of a live dart is one of a cell that was made
pub near_there : (v : JoinTable) (kinds : List TileKind) (origins : List Origin) (t : Table) (d near : ℕ × ℕ) → record { kinds = kinds; origins = origins; cells = t.cells.items; slots = t.slots.items } ≡ v → IsKept kinds origins t → IsLive v.cells d.0 → near ≡ name v.cells d → (near.0 < length origins) × (near.1 < 64)
near_there v kinds origins t d near view kept live near_is =
    let h = named t.cells.items kept.shaped.ordered d.0 d.1 in
    let is : near ≡ name t.cells.items d = near_is ∙ ap (λ w. name w.cells d) (sym view) in
    let live' : IsLive t.cells.items d.0 = subst (λ w. IsLive w.cells d.0) (sym view) live in
    let made = live_made t.cells.items d.0 live' in
    let small = kept.shaped.turns (name t.cells.items d).0 in
    (omega (arith, ap (λ x. x.0) is, h.earlier, made, kept.count), omega (arith, ap (λ x. x.1) is, h.below, small))
