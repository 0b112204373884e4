-- The base of a dart, and what is read of its corner.
use Rattle.std.proofs.Common.{◌≡◌, ℕ, zero, suc, ◌+◌, ◌-◌, ◌*◌, ◌/◌, ◌%◌, ◌<◌, Bool, true, false, List, ℤ, Option, Some, None, refl, sym, ap, ap₂, ◌∙◌, subst, arith, if◌then◌else◌}
use Rattle.std.proofs.lemmas.Option.{same_Some}
use Rattle.std.proofs.Math.Nat.{mod-add-mod, mod-lt, mod-eq_of_lt, mod-add-div, add-mul-mod_self_left}
use Rattle.std.specs.Option.{option_map, option_and_then}
use Rattle.tree_model.specs.declared.Claim.{Claim}
use Rattle.coincidence.specs.Cells.{turn_at}
use Rattle.coincidence.specs.Tables.{joined_to}
use Rattle.coincidence.specs.Joined.{IsTable}
use Rattle.region_grower.specs.Ways.{IsDart}
use Rattle.region_grower.specs.Regions.{RegionState}
use Rattle.region_grower.specs.Corners.{valence_at}
use Rattle.look_classes.specs.Tree.{left_of, right_of, sides_of}
use Rattle.look_classes.specs.Places.{is_key, placed_within, placed, place, outer_side, back}
use Rattle.look_classes.specs.Looks.{both, CornerLook, distances_from, first_look, look_from}
use Rattle.look_classes.specs.Classes.{ClassLists}
use Rattle.state_candidates.specs.Reading.{corner_number, claim_of, corner_of}
use Rattle.state_candidates.proofs.Each.{both_none}
use Rattle.state_candidates.proofs.Joined.{over_live, some_sides}

right_dart : (r : RegionState) → IsTable r.table → (e : ℕ × ℕ) → 0 < turn_at r.table.cells e.0 → IsDart r.table (right_of r e)
right_dart r ok e live = record { live = live; below = mod-lt (e.1 + (sides_of r e.0 - 1)) live }

-- to the right and back to the left
pub left_right : (r : RegionState) → IsTable r.table → (b : ℕ × ℕ) → IsDart r.table b → left_of r (right_of r b) ≡ b
left_right r ok b dart =
    let n = sides_of r b.0 in
    let t = turn_at r.table.cells b.0 in
    let some : 0 < n = some_sides r ok b.0 (ok.live_made b.0 dart.live) in
    let whole : n ≡ t * (n / t) = omega (arith, mod-add-div n t, ok.turns b.0 dart.live) in
    let near : ((b.1 + (n - 1)) % t + 1) % t ≡ ((b.1 + (n - 1)) + 1) % t = mod-add-mod (b.1 + (n - 1)) t 1 in
    let on : (b.1 + (n - 1)) + 1 ≡ b.1 + n = omega (arith, some) in
    let round : (b.1 + n) % t ≡ b.1 % t = ap (λ m. (b.1 + m) % t) whole ∙ add-mul-mod_self_left b.1 t (n / t) in
    let all : ((b.1 + (n - 1)) % t + 1) % t ≡ b.1 = near ∙ (ap (λ m. m % t) on ∙ (round ∙ mod-eq_of_lt dart.below)) in
    ap (λ i. (b.0, i)) all

abbrev one_back : ℕ × (ℕ × ℕ) → ℕ × (ℕ × ℕ)
one_back b = (suc b.0, b.1)

-- the base is a dart of a live cell
base_step : (r : RegionState) (ok : IsTable r.table) (n : ℕ) (base : (e : ℕ × ℕ) → IsDart r.table e → (y : ℕ × (ℕ × ℕ)) → placed_within n r e ≡ Some y → IsDart r.table y.1)
    (d : ℕ × ℕ) → IsDart r.table d → (x : ℕ × (ℕ × ℕ)) → placed_within (suc n) r d ≡ Some x → IsDart r.table x.1
unfolding placed_within
base_step r ok n base d dart x is = at (is_key r d) is
  where
    behind : (o : Option (ℕ × (ℕ × ℕ))) (e : ℕ × ℕ) → placed_within n r e ≡ o → IsDart r.table e → option_map one_back o ≡ Some x → IsDart r.table x.1
    behind None e from live come = absurd (cc (come))
    behind (Some y) e from live come = let same : y.1 ≡ x.1 = ap (λ p. p.1) (same_Some (one_back y) x come) in subst (IsDart r.table) same (base e live y from)

    over : (o : Option (ℕ × ℕ)) → joined_to r.table d ≡ o → option_map one_back (option_and_then (placed_within n r) (option_map (right_of r) o)) ≡ Some x → IsDart r.table x.1
    over None joined come = absurd (cc (come))
    over (Some e) joined come = behind (placed_within n r (right_of r e)) (right_of r e) refl (right_dart r ok e (over_live r.table ok d e joined)) come

    at : (k : Bool) → (if k then Some (0, d) else option_map one_back (option_and_then (placed_within n r) (back r d))) ≡ Some x → IsDart r.table x.1
    at true come = subst (λ (y : ℕ × (ℕ × ℕ)). IsDart r.table y.1) (same_Some (0, d) x come) dart
    at false come = over (joined_to r.table d) refl come

base_dart : (r : RegionState) (ok : IsTable r.table) (n : ℕ) (d : ℕ × ℕ) → IsDart r.table d → (x : ℕ × (ℕ × ℕ)) → placed_within n r d ≡ Some x → IsDart r.table x.1
unfolding placed_within
base_dart r ok zero d dart x is = absurd (cc (is))
base_dart r ok (suc n) d dart x is = base_step r ok n (base_dart r ok n) d dart x is

-- a dart with an outer side has a base, to the left of it
record HasBase (r : RegionState) (d o : ℕ × ℕ) : Type 0 where
  pub at : ℕ × (ℕ × ℕ)
  pub is_placed : placed r d ≡ Some at
  pub base : left_of r o ≡ at.1
  pub outer : right_of r at.1 ≡ o

has_base : (r : RegionState) (ok : IsTable r.table) (d : ℕ × ℕ) → IsDart r.table d → (o : ℕ × ℕ) → outer_side r d ≡ Some o → HasBase r d o
has_base r ok d dart o is = go (placed r d) refl is
  where
    go : (p : Option (ℕ × (ℕ × ℕ))) → placed r d ≡ p → option_map (λ b. right_of r b.1) p ≡ Some o → HasBase r d o
    go None from come = absurd (cc (come))
    go (Some x) from come =
        let outer : right_of r x.1 ≡ o = same_Some (right_of r x.1) o come in
        let base : left_of r o ≡ x.1 = ap (left_of r) (sym outer) ∙ left_right r ok x.1 (base_dart r ok (valence_at r.table d) d dart x from) in
        record { at = x; is_placed = from; base = base; outer = outer }

abbrev corner_look_of : List ℤ → ℕ → CornerLook
corner_look_of ds p = record { distances = ds; outer_place = p }

look_of : (r : RegionState) (d o : ℕ × ℕ) → HasBase r d o → first_look r d ≡ both corner_look_of (distances_from r (left_of r o)) (place r o)
unfolding look_from
look_of r d o h =
    ap (option_and_then (λ (b : ℕ × (ℕ × ℕ)). look_from r b.1)) h.is_placed
    ∙ ap₂ (λ b e. both corner_look_of (distances_from r b) (place r e)) (sym h.base) h.outer

abbrev pub tables_of : CornerLook → Claim → List ℤ × Claim
tables_of look outer = (look.distances, outer)

pub corner_without_outer : (r : RegionState) (x : ClassLists) (g : ℕ) (d : ℕ × ℕ) → outer_side r d ≡ None → corner_of r x g d ≡ None
unfolding corner_of
corner_without_outer r x g d none = ap (λ o. both tables_of (first_look r d) (option_and_then (claim_of r x g) o)) none ∙ both_none tables_of (first_look r d)

pub corner_without_claim : (r : RegionState) (x : ClassLists) (g : ℕ) (d o : ℕ × ℕ) → outer_side r d ≡ Some o → claim_of r x g o ≡ None → corner_of r x g d ≡ None
unfolding corner_of
corner_without_claim r x g d o is none = ap (both tables_of (first_look r d)) (ap (option_and_then (claim_of r x g)) is ∙ none) ∙ both_none tables_of (first_look r d)

pub corner_without_distances : (r : RegionState) (ok : IsTable r.table) (x : ClassLists) (g : ℕ) (d : ℕ × ℕ) → IsDart r.table d → (o : ℕ × ℕ) → outer_side r d ≡ Some o
    → distances_from r (left_of r o) ≡ None → corner_of r x g d ≡ None
unfolding corner_of
corner_without_distances r ok x g d dart o is none =
    let look : first_look r d ≡ None = look_of r d o (has_base r ok d dart o is) ∙ ap (λ ds. both corner_look_of ds (place r o)) none in
    ap (λ l. both tables_of l (option_and_then (claim_of r x g) (outer_side r d))) look

-- a claim has a place
claim_place : (r : RegionState) (x : ClassLists) (g : ℕ) (o : ℕ × ℕ) (c : Claim) → claim_of r x g o ≡ Some c → (p : ℕ) × (place r o ≡ Some p)
unfolding claim_of
claim_place r x g o c is = go (corner_number r x o) (place r o) refl is
  where
    go : (m p : Option ℕ) → place r o ≡ p → both (λ m p. record { corner = g + m; place = p }) m p ≡ Some c → (p : ℕ) × (place r o ≡ Some p)
    go None p from come = absurd (cc (come))
    go (Some m) None from come = absurd (cc (come))
    go (Some m) (Some p) from come = (p, from)

pub corner_with : (r : RegionState) (ok : IsTable r.table) (x : ClassLists) (g : ℕ) (d : ℕ × ℕ) → IsDart r.table d → (o : ℕ × ℕ) → outer_side r d ≡ Some o
    → (c : Claim) → claim_of r x g o ≡ Some c → (ds : List ℤ) → distances_from r (left_of r o) ≡ Some ds → corner_of r x g d ≡ Some (ds, c)
unfolding corner_of
corner_with r ok x g d dart o is c claim ds some =
    let at = claim_place r x g o c claim in
    let look : first_look r d ≡ Some (corner_look_of ds at.0) = look_of r d o (has_base r ok d dart o is) ∙ ap₂ (both corner_look_of) some at.1 in
    ap₂ (both tables_of) look (ap (option_and_then (claim_of r x g)) is ∙ claim)
