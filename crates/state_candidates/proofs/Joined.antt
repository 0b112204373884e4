-- Facts on the darts of a table, and on the distances of their cells.
use Rattle.std.proofs.Common.{◌≡◌, ℕ, suc, length, Bool, false, IsTrue, Option, IfSome, ◌+◌, ◌%◌, ◌<◌, ◌≤◌, Some, None, sym, ap, subst, inl, inr, arith}
use Rattle.std.proofs.Math.Nat.{mod-eq_of_lt}
use Rattle.std.proofs.lemmas.Bool.{cases_lt}
use Rattle.tile_model.specs.Tessellations.{kind_at}
use Rattle.coincidence.specs.Cells.{turn_at, IsLive, name}
use Rattle.coincidence.specs.Tables.{JoinTable, joined_to, kind_of}
use Rattle.coincidence.specs.Joined.{IsTable}
use Rattle.region_grower.specs.Ways.{IsWay, IsDart}
use Rattle.region_grower.specs.Corners.{further}
use Rattle.region_grower.specs.Regions.{RegionState}
use Rattle.look_classes.specs.Tree.{sides_of}
use Rattle.state_candidates.specs.Stops.{IsStop, IsNextStop}

-- what a number divides is 0 or not less
at_most : (a b : ℕ) → 0 < a → a % b ≡ 0 → b ≤ a
at_most a b some none = elim (cases_lt a b) [
  | inl less ↦ absurd (omega (arith, mod-eq_of_lt less, some, none))
  | inr more ↦ more
]

-- the turn of a live cell is not over 64
pub turn_few : (t : JoinTable) → IsTable t → (c : ℕ) → IsLive t.cells c → turn_at t.cells c ≤ 64
turn_few t ok c live =
    let kind = kind_of t.origins c in
    let sides = ok.valid.sides kind (ok.kinds_there c (ok.live_made c live)) in
    omega (arith, sides, at_most (kind_at t.kinds kind).sides (turn_at t.cells c) (omega (arith, sides)) (ok.turns c live))

pub dart_few : (t : JoinTable) → IsTable t → (d : ℕ × ℕ) → IsDart t d → d.1 < 64
dart_few t ok d dart = omega (arith, dart.below, turn_few t ok d.0 dart.live)

-- a dart that another one is joined to is one of a live cell
pub over_live : (t : JoinTable) → IsTable t → (a b : ℕ × ℕ) → joined_to t a ≡ Some b → IsLive t.cells b.0
over_live t ok a b joined = (ok.joined_name b (name t.cells a) (ok.back a b joined)).0

-- across a joined dart the distance is one more at most, or one less at least
pub next_stop : (r : RegionState) → IsTable r.table → (d : ℕ × ℕ) (n : ℕ) → IsStop r d n → (e : ℕ × ℕ) (m : ℕ)
    → further r.table d ≡ Some e → IsStop r e m → IsNextStop r d n e m
next_stop r ok d n at e m joined stop = record {
  stop = stop;
  joined = joined;
  more = omega (arith, stop.radius.least (suc n) (IsWay.crosses n (d.0, d.1 + 1) e at.radius.way joined));
  less = omega (arith, at.radius.least (suc m) back);
}
  where
    back : IsWay r.table (suc m) d.0
    back =
        let here : (name r.table.cells (d.0, d.1 + 1)).0 ≡ d.0 = ap (λ x. x.0) (ok.name_live d.0 (d.1 + 1) at.live) in
        subst (IsWay r.table (suc m)) here (IsWay.crosses m e (name r.table.cells (d.0, d.1 + 1)) stop.radius.way (ok.back (d.0, d.1 + 1) e joined))

pub over_all : (t : JoinTable) → IsTable t → (a : ℕ × ℕ) (o : Option (ℕ × ℕ)) → o ≡ joined_to t a → IfSome o (λ e. IsLive t.cells e.0)
over_all t ok a None is = tt
over_all t ok a (Some e) is = over_live t ok a e (sym is)

-- a cell that was made has sides
pub some_sides : (r : RegionState) → IsTable r.table → (c : ℕ) → c < length r.table.origins → 0 < sides_of r c
some_sides r ok c made = omega (arith, ok.valid.sides (kind_of r.table.origins c) (ok.kinds_there c made))

-- the turn of a cell that is not live is 0
pub not_live : (t : JoinTable) (c : ℕ) (b : Bool) → (IsLive t.cells c → IsTrue b) → b ≡ false → turn_at t.cells c ≡ 0
not_live t c b live is = elim (cases_lt 0 (turn_at t.cells c)) [
  | inl some ↦ let h = live some in absurd (cc (h, is))
  | inr none ↦ omega (arith, none)
]
