-- One tile after the other.
use Rattle.std.proofs.Common.{◌≡◌, suc, ◌+◌, [], ◌∷◌, ◌++◌, Some, IfSome, sym, ap, ap₂, ◌∙◌, subst, arith}
use Rattle.std.specs.Option.{option_map, option_and_then}
use Rattle.coincidence.specs.Tables.{joined_to}
use Rattle.region_grower.specs.Ways.{IsDart}
use Rattle.region_grower.specs.Corners.{rounds, further, valence_at}
use Rattle.look_classes.specs.Tree.{distance}
use Rattle.look_classes.specs.Codes.{distance_code, difference_code}
use Rattle.look_classes.proofs.Darts.{dart_side}
use Rattle.look_classes.proofs.Dead.{each_more, each_none}
use Rattle.look_classes.proofs.corners.distances.Goals as goal

pub returns-in_default : goal.returns-in_default
returns-in_default c =
    let r = c.args.places.now in
    let b = c.args.base in
    let t = c.loop-tile.tile in
    let all : c.valence-tile-end.result ≡ valence_at r.table b = c.valence-tile-end.ensures ∙ ap (λ s. valence_at s.table b) c.region-region.ensures.value in
    each_none (valence_at r.table b) t (λ j. option_map (distance_code r b) (rounds j r.table b)) (omega (arith, c.loop-tile-test.true, all)) (ap (option_map (distance_code r b)) (sym c.loop-tile.invariant.at ∙ c.in_default.is))

pub overflow_add-here-inside : goal.overflow_add-here-inside
overflow_add-here-inside c =
    let r = c.args.places.now in
    let is_dart : IsDart r.table c.in-Some.here = subst (λ o. IfSome o (IsDart r.table)) c.in-Some.is c.loop-tile.invariant.dart in
    let low = dart_side r c.region-region.ensures.table c.in-Some.here is_dart in
    omega (arith, low, ap (λ d. d.1) c.here.view_is)

pub loop-tile-preserved : goal.loop-tile-preserved
loop-tile-preserved c =
    let r = c.args.places.now in
    let b = c.args.base in
    let t = c.loop-tile.tile in
    let here = c.in-Some.here in
    let here_is : rounds t r.table b ≡ Some here = sym c.loop-tile.invariant.at ∙ c.in-Some.is in
    let one : t + 1 ≡ suc t = omega arith in
    let near : c.distance-in-loop-tile.result ≡ distance r b.0 = c.distance-in-loop-tile.ensures.value ∙ (ap (λ s. distance s c.base.inside.cell) c.region-region.ensures.value ∙ ap (λ d. distance r d.0) c.base.view_is) in
    let far : c.distance.result ≡ distance r here.0 = c.distance.ensures.value ∙ (ap (λ s. distance s c.here.inside.cell) c.region-region.ensures.value ∙ ap (λ d. distance r d.0) c.here.view_is) in
    let code : c.difference.result ≡ distance_code r b here = c.difference.ensures ∙ ap₂ difference_code far near in
    record {
      at = c.over-at.ensures.value ∙ (ap (λ s. joined_to s.table (c.here.inside.cell, c.here.inside.side + 1)) c.region-region.ensures.value ∙ (ap (λ d. joined_to r.table (d.0, d.1 + 1)) c.here.view_is ∙ sym (ap (λ k. rounds k r.table b) one ∙ ap (option_and_then (further r.table)) here_is)));
      dart = subst (λ s. IfSome c.over-at.result (IsDart s.table)) c.region-region.ensures.value c.over-at.ensures.dart;
      codes = each_more t (λ j. option_map (distance_code r b) (rounds j r.table b)) c.loop-tile.codes.items (distance_code r b here) c.loop-tile.invariant.codes (ap (option_map (distance_code r b)) here_is) ∙ ap (λ x. Some (c.loop-tile.codes.items ++ x ∷ [])) (sym code) ∙ ap Some (sym c.in_ok-push.ensures.items);
    }
