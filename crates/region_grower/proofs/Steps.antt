-- Tables that grow: step after step, where cells are renamed, and where one is made.
use Rattle.std.proofs.Common.{◌≡◌, ℕ, suc, ◌%◌, ◌<◌, ◌≤◌, List, [], ◌∷◌, ◌++◌, length, Some, None, refl, sym, ap, ◌∙◌, subst, arith, append_assoc}
use Rattle.std.proofs.Math.Nat.{mod_self, mod-eq-zero_of_dvd, dvd_of_mod-eq-zero, dvd_trans}
use Rattle.std.proofs.lemmas.List.{append-nil, length-append, get_or_append_left}
use Rattle.tile_model.specs.Tessellations.{valence, kind_at}
use Rattle.coincidence.specs.declared.origin.Origin.{Origin}
use Rattle.coincidence.specs.Cells.{turn_at, IsLive, name}
use Rattle.coincidence.specs.Tables.{JoinTable, joined_to, origin_at, no_origin, type_in}
use Rattle.coincidence.specs.Joined.{IsTable, HasRenamed, HasMade, new_origin}
use Rattle.region_grower.specs.Ways.{IsWay, starts, crosses, IsWithin, IsDart}
use Rattle.region_grower.specs.Corners.{valence_at}
use Rattle.region_grower.specs.Growth.{HasGrown}
use Rattle.region_grower.proofs.Ways.{own_cell, dart_name, named_dart, over_dart, joined_named, join_made}

divides_on : (a b c : ℕ) → a % b ≡ 0 → b % c ≡ 0 → a % c ≡ 0
divides_on a b c e f = mod-eq-zero_of_dvd c (dvd_trans c (dvd_of_mod-eq-zero c f) (dvd_of_mod-eq-zero b e))

pub grown_same : (t : JoinTable) → IsTable t → HasGrown t t
grown_same t table = record {
  kinds = refl;
  origins = record { rest = []; whole = sym (append-nil t.origins) };
  names = λ d _. dart_name t table (name t.cells d) (named_dart t table d);
  kept = λ a b joined. joined_named t table a b joined ∙ ap Some (sym (table.joined_name a b joined).1);
  turns = λ c _ live. record { was_live = live; divides = mod_self (turn_at t.cells c) };
}

module _ (t t' : JoinTable) (grown : HasGrown t t') where
  pub grown_longer : length t.origins ≤ length t'.origins
  grown_longer = omega (arith, ap (λ (os : List Origin). length os) grown.origins.whole, length-append t.origins grown.origins.rest)

  -- cells that were there come from where they came
  pub grown_origin : (c : ℕ) → c < length t.origins → origin_at t'.origins c ≡ origin_at t.origins c
  grown_origin c made = ap (λ os. origin_at os c) grown.origins.whole ∙ get_or_append_left t.origins grown.origins.rest no_origin c made

  pub grown_valence : (d : ℕ × ℕ) → d.0 < length t.origins → valence_at t' d ≡ valence_at t d
  grown_valence d made =
      let same = ap (λ (o : Origin). o.kind) (grown_origin d.0 made) in
      ap (λ ks. valence ks (type_in ks t'.origins d)) grown.kinds ∙ ap (λ k. valence t.kinds (k, d.1 % (kind_at t.kinds k).repeat)) same

pub grown_on : (t t' t'' : JoinTable) → IsTable t → HasGrown t t' → HasGrown t' t'' → HasGrown t t''
grown_on t t' t'' table one two =
    let longer = grown_longer t t' one in
    record {
      kinds = two.kinds ∙ one.kinds;
      origins = record { rest = one.origins.rest ++ two.origins.rest; whole = two.origins.whole ∙ (ap (λ os. os ++ two.origins.rest) one.origins.whole ∙ append_assoc t.origins one.origins.rest two.origins.rest) };
      names = λ d made.
          let p = name t.cells d in
          let early = (table.named d).earlier in
          sym (two.names p (omega (arith, made, early, longer))) ∙ (ap (name t''.cells) (one.names d made) ∙ two.names d (omega (arith, made, longer)));
      kept = λ a b joined.
          let made = table.live_made a.0 (table.joined_name a b joined).0 in
          let made' = table.live_made b.0 (over_dart t table a b joined).live in
          let on = two.kept (name t'.cells a) (name t'.cells b) (one.kept a b joined) in
          subst (λ p. joined_to t'' p ≡ Some (name t''.cells b)) (two.names a (omega (arith, made, longer))) (on ∙ ap Some (two.names b (omega (arith, made', longer))));
      turns = λ c made live.
          let second = two.turns c (omega (arith, made, longer)) live in
          let first = one.turns c made second.was_live in
          record { was_live = first.was_live; divides = divides_on (turn_at t.cells c) (turn_at t'.cells c) (turn_at t''.cells c) first.divides second.divides };
    }

-- once more, twice
pub grown_settled : (t t1 t2 t3 : JoinTable) → IsTable t → HasGrown t t1 → HasGrown t1 t2 → HasGrown t2 t3 → HasGrown t t3
grown_settled t t1 t2 t3 table one two three = grown_on t t2 t3 table (grown_on t t1 t2 table one two) three

pub grown_renamed : (t t' : JoinTable) → HasRenamed t t' → HasGrown t t'
grown_renamed t t' renamed = record {
  kinds = renamed.kinds;
  origins = record { rest = []; whole = renamed.origins ∙ sym (append-nil t.origins) };
  names = λ d _. renamed.names d;
  kept = renamed.kept;
  turns = λ c _ live. renamed.turns c live;
}

pub grown_made : (t t' : JoinTable) → IsTable t → (d : ℕ × ℕ) (w : ℕ) → HasMade t t' d w → IsDart t d → joined_to t d ≡ None → HasGrown t t'
grown_made t t' table d w made is_dart unjoined = record {
  kinds = made.kinds;
  origins = record { rest = new_origin t d ∷ []; whole = made.origins };
  names = λ e old.
      let early = (table.named e).earlier in
      made.names (name t.cells e) (omega (arith, old, early, made.number)) ∙ (dart_name t table (name t.cells e) (named_dart t table e) ∙ sym (made.names e (omega (arith, old, made.number))));
  kept = λ a b joined.
      let there = table.live_made a.0 (table.joined_name a b joined).0 in
      let there' = table.live_made b.0 (over_dart t table a b joined).live in
      let after = join_made t t' table d w made is_dart unjoined (name t.cells a) b (joined_named t table a b joined) in
      ap (joined_to t') (made.names a (omega (arith, there, made.number))) ∙ (after ∙ ap Some (sym (made.names b (omega (arith, there', made.number)) ∙ (table.joined_name a b joined).1)));
  turns = λ c old live.
      let same = made.turns c (omega (arith, old, made.number)) in
      record { was_live = subst (λ x. 0 < x) same live; divides = ap (λ x. turn_at t.cells c % x) same ∙ mod_self (turn_at t.cells c) };
}

-- a way leads to what the cell is now
module _ (t t' : JoinTable) (table' : IsTable t') (grown : HasGrown t t') where
  pub way_grown : {n c : ℕ} → IsWay t n c → IsWay t' n (name t'.cells (c, 0)).0
  way_grown starts = subst (IsWay t' 0) (sym (own_cell t' table' 0 0 table'.first_live)) starts
  way_grown (crosses n d e way joined) =
      let rest = way_grown way in
      let here = subst (IsWay t' n) (table'.one_cell d.0 0 d.1) rest in
      subst (IsWay t' (suc n)) (table'.one_cell e.0 e.1 0) (crosses n (name t'.cells d) (name t'.cells e) here (grown.kept d e joined))

  pub within_grown : (n c : ℕ) → IsLive t'.cells c → IsWithin t n c → IsWithin t' n c
  within_grown n c live h = record { crossings = h.crossings; at_most = h.at_most; way = subst (IsWay t' h.crossings) (own_cell t' table' c 0 live) (way_grown h.way) }
