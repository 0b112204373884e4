-- Back from dart to dart.
use Rattle.std.proofs.Common.{◌≡◌, suc, ◌+◌, ◌-◌, Some, None, true, false, sym, ap, ◌∙◌, subst, arith}
use Rattle.std.specs.Option.{option_map}
use Rattle.coincidence.specs.Tables.{joined_to}
use Rattle.region_grower.specs.Ways.{IsDart}
use Rattle.region_grower.specs.Corners.{valence_at}
use Rattle.look_classes.specs.Tree.{right_of}
use Rattle.look_classes.specs.Places.{is_key, placed, placed_within}
use Rattle.look_classes.proofs.Rounds.{on, on_next, on_none, within_key, within_next, within_end, within_none}
use Rattle.look_classes.proofs.places.Places.placed.Goals as goal

pub loop-place-init : goal.loop-place-init
loop-place-init c =
    let none : valence_at c.args.self.now.table c.args.d - 0 ≡ valence_at c.args.self.now.table c.args.d = omega arith in
    record {
      dart = c.requires;
      rest = sym (ap (λ k. option_map (on 0) (placed_within k c.args.self.now c.args.d)) none ∙ on_none (placed c.args.self.now c.args.d));
    }

pub returns-then-is_key-clause-value : goal.returns-then-is_key-clause-value
returns-then-is_key-clause-value c =
    let r = c.args.self.now in
    let t = c.loop-place.place in
    let v = valence_at r.table c.args.d in
    let all : c.valence-place-end.result ≡ v = c.valence-place-end.ensures ∙ ap (λ s. valence_at s.table c.args.d) c.region-region.ensures.value in
    let n : v - t ≡ suc (v - t - 1) = omega (arith, c.loop-place-test.true, all) in
    let key : is_key r c.loop-place.at ≡ true = sym c.is_key.ensures ∙ c.if-is_key.true in
    let zero_more : t + 0 ≡ t = omega arith in
    sym (c.loop-place.invariant.rest ∙ (ap (option_map (on t)) (ap (λ k. placed_within k r c.loop-place.at) n ∙ within_key r (v - t - 1) c.loop-place.at key) ∙ ap (λ k. Some (k, c.loop-place.at)) zero_more))

pub returns-in-None-clause-value : goal.returns-in-None-clause-value
returns-in-None-clause-value c =
    let r = c.args.self.now in
    let t = c.loop-place.place in
    let off : is_key r c.loop-place.at ≡ false = sym c.is_key.ensures ∙ c.if-is_key.false in
    let none : joined_to r.table c.loop-place.at ≡ None = sym (c.over.ensures.value ∙ ap (λ s. joined_to s.table c.loop-place.at) c.region-region.ensures.value) ∙ c.in-None.is in
    sym (c.loop-place.invariant.rest ∙ ap (option_map (on t)) (within_end r (valence_at r.table c.args.d - t) c.loop-place.at off none))

pub loop-place-preserved : goal.loop-place-preserved
loop-place-preserved c =
    let r = c.args.self.now in
    let t = c.loop-place.place in
    let v = valence_at r.table c.args.d in
    let all : c.valence-place-end.result ≡ v = c.valence-place-end.ensures ∙ ap (λ s. valence_at s.table c.args.d) c.region-region.ensures.value in
    let n : v - t ≡ suc (v - (t + 1)) = omega (arith, c.loop-place-test.true, all) in
    let off : is_key r c.loop-place.at ≡ false = sym c.is_key.ensures ∙ c.if-is_key.false in
    let joined : joined_to r.table c.loop-place.at ≡ Some c.in-Some.over = sym (c.over.ensures.value ∙ ap (λ s. joined_to s.table c.loop-place.at) c.region-region.ensures.value) ∙ c.in-Some.is in
    let next : c.right-at.result ≡ right_of r c.in-Some.over = c.right-at.ensures.value ∙ ap (λ s. right_of s c.in-Some.over) c.region-region.ensures.value in
    record {
      dart = subst (λ s. IsDart s.table c.right-at.result) c.region-region.ensures.value c.right-at.ensures.dart;
      rest = c.loop-place.invariant.rest ∙ (ap (option_map (on t)) (ap (λ k. placed_within k r c.loop-place.at) n ∙ within_next r (v - (t + 1)) c.loop-place.at c.in-Some.over off joined) ∙ (on_next t (placed_within (v - (t + 1)) r (right_of r c.in-Some.over)) ∙ ap (λ x. option_map (on (t + 1)) (placed_within (v - (t + 1)) r x)) (sym next)));
    }

pub returns-clause-value : goal.returns-clause-value
returns-clause-value c =
    let r = c.args.self.now in
    let t = c.loop-place.place in
    let v = valence_at r.table c.args.d in
    let all : c.valence-place-end.result ≡ v = c.valence-place-end.ensures ∙ ap (λ s. valence_at s.table c.args.d) c.region-region.ensures.value in
    let n : v - t ≡ 0 = omega (arith, c.loop-place-test.false, all) in
    sym (c.loop-place.invariant.rest ∙ ap (option_map (on t)) (ap (λ k. placed_within k r c.loop-place.at) n ∙ within_none r c.loop-place.at))
