-- The region of one cell.
use Rattle.std.proofs.Common.{◌≡◌, ℕ, List, [], ◌∷◌, ◌-◌, length, None, slice_index, sym, ap, subst, arith}
use Rattle.coincidence.specs.Cells.{IsLive}
use Rattle.coincidence.specs.Tables.{JoinTable, joined_to, type_at}
use Rattle.coincidence.specs.Joined.{IsTable}
use Rattle.region_grower.specs.Ways.{starts, IsWithin, IsRadius}
use Rattle.region_grower.specs.Corners.{left_of, valence_at, AllClosed}
use Rattle.region_grower.specs.Regions.{IsRegionFrom}
use Rattle.region_grower.proofs.Closing.{rounds_stuck, dart_type, closed_none}

-- where no dart is joined no corner is left to be closed
start_closed : (t : JoinTable) → IsTable t → ((d : ℕ × ℕ) → joined_to t d ≡ None) → AllClosed t
start_closed t table unjoined d is_dart =
    let wide = (table.valid.valence (type_at t d) (dart_type t table d is_dart)).0 in
    closed_none t table d is_dart (rounds_stuck t d 1 (valence_at t d - 1) (omega (arith, wide)) (unjoined (left_of d)))

pub start_region : (t : JoinTable) (radii : List ℕ) → IsTable t → length t.origins ≡ 1 → ((d : ℕ × ℕ) → joined_to t d ≡ None) → radii ≡ 0 ∷ [] → IsRegionFrom (record { table = t; radii = radii; layers = 0 }) 0
start_region t radii table one unjoined is =
    let first : slice_index radii 0 ≡ 0 = ap (λ (xs : List ℕ). slice_index xs 0) is in
    let only : (c : ℕ) → IsLive t.cells c → c ≡ 0 = λ c live. let made = table.live_made c live in omega (arith, made, one) in
    record {
      region = record {
        table = table;
        long = omega (arith, one, ap (λ (xs : List ℕ). length xs) is);
        radii = λ c live. subst (λ x. IsRadius t x (slice_index radii x)) (sym (only c live)) (subst (IsRadius t 0) (sym first) (record { way = starts; least = λ n way. omega arith }));
        corners = start_closed t table unjoined;
        within = λ c live. subst (IsWithin t 1) (sym (only c live)) (record { crossings = 0; at_most = omega arith; way = starts });
        few = omega arith;
      };
      whole = record { made = omega arith; whole = λ d _ low. absurd (omega (arith, low)) };
    }
