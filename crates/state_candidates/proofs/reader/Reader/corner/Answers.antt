-- A corner type, or nothing where its outer side or its distances are not there.
use Rattle.std.proofs.Common.{◌≡◌, ℤ, Option, Some, None, Vec, Global, sym, ap, ap₂, ◌∙◌, subst}
use Rattle.std.specs.Option.{option_map}
use Rattle.coincidence.specs.Cells.{turn_at}
use Rattle.region_grower.specs.Regions.{RegionState}
use Rattle.region_grower.specs.Ways.{IsDart}
use Rattle.look_classes.specs.Tree.{dart_of, left_of}
use Rattle.look_classes.specs.Places.{outer_side}
use Rattle.look_classes.specs.Looks.{distances_from}
use Rattle.state_candidates.specs.Reading.{claim_of}
use Rattle.state_candidates.proofs.Joined.{not_live}
use Rattle.state_candidates.proofs.Bases.{corner_without_outer, corner_without_claim, corner_without_distances, corner_with}
use Rattle.state_candidates.proofs.Renamed.{no_corner_type}
use Rattle.state_candidates.proofs.reader.Reader.corner.Goals as goal

pub returns-then-not-is_live : goal.returns-then-not-is_live
returns-then-not-is_live c =
    let v = c.args.self.now in
    let gone : turn_at v.region.table.cells c.args.cell ≡ 0 = not_live v.region.table c.args.cell c.is_live.result c.is_live.ensures.value.1 c.if-not-is_live.true in
    sym (no_corner_type v.region v.lists v.first_corner (dart_of v.region c.args.cell c.args.side) gone)

pub returns-in_default : goal.returns-in_default
returns-in_default c =
    let v = c.args.self.now in
    let same : c.region-region.result.now ≡ v.region = c.region-region.ensures ∙ ap (λ v. v.region) c.self.view_is in
    let d : c.dart.result ≡ dart_of v.region c.args.cell c.args.side = c.dart.ensures.value ∙ ap (λ r. dart_of r c.args.cell c.args.side) same in
    let none : outer_side v.region (dart_of v.region c.args.cell c.args.side) ≡ None = sym (c.outer_side.ensures.value ∙ ap₂ outer_side (ap (λ v. v.region) c.self.view_is) d) ∙ c.in_default.is in
    sym (corner_without_outer v.region v.lists v.first_corner (dart_of v.region c.args.cell c.args.side) none)

pub returns-in_default-claim : goal.returns-in_default-claim
returns-in_default-claim c =
    let v = c.args.self.now in
    let same : c.region-region.result.now ≡ v.region = c.region-region.ensures ∙ ap (λ v. v.region) c.self.view_is in
    let d : c.dart.result ≡ dart_of v.region c.args.cell c.args.side = c.dart.ensures.value ∙ ap (λ r. dart_of r c.args.cell c.args.side) same in
    let some : outer_side v.region (dart_of v.region c.args.cell c.args.side) ≡ Some c.in-Some.next = sym (c.outer_side.ensures.value ∙ ap₂ outer_side (ap (λ v. v.region) c.self.view_is) d) ∙ c.in-Some.is in
    sym (corner_without_claim v.region v.lists v.first_corner (dart_of v.region c.args.cell c.args.side) c.in-Some.next some (sym c.claim.ensures ∙ c.in_default-claim.is))

pub returns-in_default-2 : goal.returns-in_default-2
returns-in_default-2 c =
    let v = c.args.self.now in
    let same : c.region-region.result.now ≡ v.region = c.region-region.ensures ∙ ap (λ v. v.region) c.self.view_is in
    let d : c.dart.result ≡ dart_of v.region c.args.cell c.args.side = c.dart.ensures.value ∙ ap (λ r. dart_of r c.args.cell c.args.side) same in
    let dart : IsDart v.region.table (dart_of v.region c.args.cell c.args.side) = subst (λ (r : RegionState). IsDart r.table (dart_of r c.args.cell c.args.side)) same (subst (IsDart c.region-region.result.now.table) c.dart.ensures.value c.dart.ensures.dart) in
    let some : outer_side v.region (dart_of v.region c.args.cell c.args.side) ≡ Some c.in-Some.next = sym (c.outer_side.ensures.value ∙ ap₂ outer_side (ap (λ v. v.region) c.self.view_is) d) ∙ c.in-Some.is in
    let base : c.left.result ≡ left_of v.region c.in-Some.next = c.left.ensures.value ∙ ap (λ r. left_of r c.in-Some.next) same in
    let none : distances_from v.region (left_of v.region c.in-Some.next) ≡ None = sym (ap₂ distances_from same base) ∙ (sym c.in_ok-offsets.ensures ∙ ap (λ (o : Option (Vec ℤ Global)). option_map (λ w. w.items) o) c.in_default-2.is) in
    sym (corner_without_distances v.region c.is_live.ensures.table v.lists v.first_corner (dart_of v.region c.args.cell c.args.side) dart c.in-Some.next some none)

pub returns : goal.returns
returns c =
    let v = c.args.self.now in
    let same : c.region-region.result.now ≡ v.region = c.region-region.ensures ∙ ap (λ v. v.region) c.self.view_is in
    let d : c.dart.result ≡ dart_of v.region c.args.cell c.args.side = c.dart.ensures.value ∙ ap (λ r. dart_of r c.args.cell c.args.side) same in
    let dart : IsDart v.region.table (dart_of v.region c.args.cell c.args.side) = subst (λ (r : RegionState). IsDart r.table (dart_of r c.args.cell c.args.side)) same (subst (IsDart c.region-region.result.now.table) c.dart.ensures.value c.dart.ensures.dart) in
    let some : outer_side v.region (dart_of v.region c.args.cell c.args.side) ≡ Some c.in-Some.next = sym (c.outer_side.ensures.value ∙ ap₂ outer_side (ap (λ v. v.region) c.self.view_is) d) ∙ c.in-Some.is in
    let base : c.left.result ≡ left_of v.region c.in-Some.next = c.left.ensures.value ∙ ap (λ r. left_of r c.in-Some.next) same in
    let whole : distances_from v.region (left_of v.region c.in-Some.next) ≡ Some c.in-Some-2.offsets.items = sym (ap₂ distances_from same base) ∙ (sym c.in_ok-offsets.ensures ∙ ap (λ (o : Option (Vec ℤ Global)). option_map (λ w. w.items) o) c.in-Some-2.is) in
    let claim : claim_of v.region v.lists v.first_corner c.in-Some.next ≡ Some c.in-Some-claim.outer = sym c.claim.ensures ∙ c.in-Some-claim.is in
    sym (corner_with v.region c.is_live.ensures.table v.lists v.first_corner (dart_of v.region c.args.cell c.args.side) dart c.in-Some.next some c.in-Some-claim.outer claim c.in-Some-2.offsets.items whole)
