-- Darts of live cells, their neighbours to the left and right, and those joined to them.
use Rattle.std.proofs.Common.{◌≡◌, ℕ, ◌+◌, ◌-◌, ◌*◌, ◌/◌, ◌%◌, ◌<◌, ◌≤◌, ◌⊎◌, length, Option, Some, None, IfSome, refl, sym, ap, ap₂, ◌∙◌, subst, inl, inr, arith, mod-lt, mod-eq_of_lt}
use Rattle.std.proofs.lemmas.Bool.{cases_lt}
use Rattle.std.proofs.Math.Nat.{mod-add-mod, add-mod-mod}
use Rattle.coincidence.specs.Darts.{pack, unpack}
use Rattle.coincidence.specs.Cells.{turn_at, IsLive}
use Rattle.coincidence.specs.Tables.{joined_to, kind_of}
use Rattle.coincidence.specs.Joined.{IsTable}
use Rattle.region_grower.specs.Ways.{IsDart}
use Rattle.region_grower.specs.Regions.{RegionState}
use Rattle.look_classes.specs.Tree.{sides_of, dart_of, left_of, right_of}

pub unpack_pack : (d : ℕ × ℕ) → d.1 < 64 → unpack (pack d) ≡ d
unpack_pack d lt =
    let cell : (64 * d.0 + d.1) / 64 ≡ d.0 = omega (arith, lt) in
    let side : (64 * d.0 + d.1) % 64 ≡ d.1 = omega (arith, lt) in
    ap₂ (λ a b. (a, b)) cell side

pub pack_unpack : (n : ℕ) → pack (unpack n) ≡ n
pack_unpack n = omega arith

-- a divisor is no more
divides_le : (a b : ℕ) → 0 < a → a % b ≡ 0 → b ≤ a
divides_le a b some none = go (cases_lt a b)
  where
    go : (a < b) ⊎ (b ≤ a) → b ≤ a
    go (inr le) = le
    go (inl lt) = let same = mod-eq_of_lt lt in absurd (omega (arith, same, none, some))

module _ (r : RegionState) (table : IsTable r.table) where
  pub sides_wide : (c : ℕ) → c < length r.table.origins → (3 ≤ sides_of r c) × (sides_of r c ≤ 64)
  sides_wide c made = table.valid.sides (kind_of r.table.origins c) (table.kinds_there c made)

  pub dart_made : (d : ℕ × ℕ) → IsDart r.table d → d.0 < length r.table.origins
  dart_made d is_dart = table.live_made d.0 is_dart.live

  pub dart_side : (d : ℕ × ℕ) → IsDart r.table d → d.1 < 64
  dart_side d is_dart =
      let wide = sides_wide d.0 (dart_made d is_dart) in
      let le = divides_le (sides_of r d.0) (turn_at r.table.cells d.0) (omega (arith, wide.0)) (table.turns d.0 is_dart.live) in
      let low = is_dart.below in
      omega (arith, le, low, wide.1)

  pub dart_number : (d : ℕ × ℕ) → IsDart r.table d → pack d < 64 * length r.table.origins
  dart_number d is_dart = let a = dart_made d is_dart in let b = dart_side d is_dart in omega (arith, a, b)

  pub one_number : (d e : ℕ × ℕ) → IsDart r.table d → IsDart r.table e → pack d ≡ pack e → d ≡ e
  one_number d e a b same = sym (unpack_pack d (dart_side d a)) ∙ (ap unpack same ∙ unpack_pack e (dart_side e b))

  pub dart_there : (c i : ℕ) → IsLive r.table.cells c → IsDart r.table (dart_of r c i)
  dart_there c i live = record { live = live; below = mod-lt i live }

  pub own_dart : (d : ℕ × ℕ) → IsDart r.table d → dart_of r d.0 d.1 ≡ d
  own_dart d is_dart = ap (λ i. (d.0, i)) (mod-eq_of_lt is_dart.below)

  pub left_dart : (d : ℕ × ℕ) → IsDart r.table d → IsDart r.table (left_of r d)
  left_dart d is_dart = dart_there d.0 (d.1 + 1) is_dart.live

  pub right_dart : (d : ℕ × ℕ) → IsDart r.table d → IsDart r.table (right_of r d)
  right_dart d is_dart = dart_there d.0 (d.1 + (sides_of r d.0 - 1)) is_dart.live

  -- a whole turn of all sides
  whole : (d : ℕ × ℕ) → IsDart r.table d → (d.1 + sides_of r d.0) % turn_at r.table.cells d.0 ≡ d.1
  whole d is_dart =
      let t = turn_at r.table.cells d.0 in
      let n = sides_of r d.0 in
      let none : n % t ≡ 0 = table.turns d.0 is_dart.live in
      let e : (d.1 + n % t) % t ≡ (d.1 + n) % t = add-mod-mod d.1 n t in
      let f : d.1 + 0 ≡ d.1 = omega arith in
      sym e ∙ (ap (λ k. (d.1 + k) % t) none ∙ (ap (λ k. k % t) f ∙ mod-eq_of_lt is_dart.below))

  pub right_left : (d : ℕ × ℕ) → IsDart r.table d → right_of r (left_of r d) ≡ d
  right_left d is_dart =
      let t = turn_at r.table.cells d.0 in
      let n = sides_of r d.0 in
      let wide = (sides_wide d.0 (dart_made d is_dart)).0 in
      let e : (d.1 + 1) + (n - 1) ≡ d.1 + n = omega (arith, wide) in
      ap (λ i. (d.0, i)) (mod-add-mod (d.1 + 1) t (n - 1) ∙ (ap (λ k. k % t) e ∙ whole d is_dart))

  pub left_right : (d : ℕ × ℕ) → IsDart r.table d → left_of r (right_of r d) ≡ d
  left_right d is_dart =
      let t = turn_at r.table.cells d.0 in
      let n = sides_of r d.0 in
      let wide = (sides_wide d.0 (dart_made d is_dart)).0 in
      let e : (d.1 + (n - 1)) + 1 ≡ d.1 + n = omega (arith, wide) in
      ap (λ i. (d.0, i)) (mod-add-mod (d.1 + (n - 1)) t 1 ∙ (ap (λ k. k % t) e ∙ whole d is_dart))

  pub joined_dart : (d e : ℕ × ℕ) → joined_to r.table d ≡ Some e → IsDart r.table e
  joined_dart d e joined = let h = table.named e in subst (IsDart r.table) (table.joined_name d e joined).1 (record { live = h.live; below = h.below })

  pub joined_back : (d e : ℕ × ℕ) → IsDart r.table d → joined_to r.table d ≡ Some e → joined_to r.table e ≡ Some d
  joined_back d e is_dart joined = table.back d e joined ∙ ap Some (table.name_live d.0 d.1 is_dart.live ∙ own_dart d is_dart)

  -- nothing is joined to a cell that is not live
  pub dead_unjoined : (d : ℕ × ℕ) → (IsLive r.table.cells d.0 → ⊥) → joined_to r.table d ≡ None
  dead_unjoined d dead = go (joined_to r.table d) refl
    where
      go : (o : Option (ℕ × ℕ)) → joined_to r.table d ≡ o → joined_to r.table d ≡ None
      go None is = is
      go (Some e) is = absurd (dead (table.joined_name d e is).0)

pub over_some : (r : RegionState) (table : IsTable r.table) (d : ℕ × ℕ) (o : Option (ℕ × ℕ)) → o ≡ joined_to r.table d → IfSome o (IsDart r.table)
over_some r table d None e = tt
over_some r table d (Some x) e = joined_dart r table d x (sym e)

-- a side of a dart is one of its cell
pub side_low : (r : RegionState) (table : IsTable r.table) (d : ℕ × ℕ) → IsDart r.table d → d.1 < sides_of r d.0
side_low r table d is_dart =
    let wide = (sides_wide r table d.0 (dart_made r table d is_dart)).0 in
    let le = divides_le (sides_of r d.0) (turn_at r.table.cells d.0) (omega (arith, wide)) (table.turns d.0 is_dart.live) in
    let low = is_dart.below in
    omega (arith, le, low)
