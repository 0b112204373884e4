-- The first side that passes.
use Rattle.std.proofs.Common.{◌≡◌, true, false, sym, ap, ◌∙◌, arith, add-one}
use Rattle.look_classes.specs.Tree.{least_below, leads_nearer, dart_of, sides_of}
use Rattle.look_classes.proofs.Parents.{least_none, least_found, least_more}
use Rattle.look_classes.proofs.tree.near_side.Goals as goal

pub loop-side-init : goal.loop-side-init
loop-side-init c = least_none (λ i. leads_nearer c.args.region.now (dart_of c.args.region.now c.args.cell i))

pub returns-then-leads_nearer : goal.returns-then-leads_nearer
returns-then-leads_nearer c =
    let r = c.args.region.now in
    let passes : leads_nearer r (dart_of r c.args.cell c.loop-side.side) ≡ true = ap (leads_nearer r) (sym c.dart.ensures.value) ∙ (sym c.leads_nearer.ensures ∙ c.if-leads_nearer.true) in
    sym (least_found (sides_of r c.args.cell) c.loop-side.side (λ i. leads_nearer r (dart_of r c.args.cell i)) c.loop-side.invariant passes (omega (arith, c.loop-side-test.true, c.sides-side-end.ensures.value)))

pub loop-side-preserved : goal.loop-side-preserved
loop-side-preserved c =
    let r = c.args.region.now in
    let fails : leads_nearer r (dart_of r c.args.cell c.loop-side.side) ≡ false = ap (leads_nearer r) (sym c.dart.ensures.value) ∙ (sym c.leads_nearer.ensures ∙ c.if-leads_nearer.false) in
    rw add-one (least_more c.loop-side.side (λ i. leads_nearer r (dart_of r c.args.cell i)) c.loop-side.invariant fails)

pub returns : goal.returns
returns c =
    let e : c.loop-side.side ≡ sides_of c.args.region.now c.args.cell = omega (arith, c.loop-side-test.false, c.sides-side-end.ensures.value, c.loop-side.auto.side-end) in
    sym (ap (λ n. least_below n (λ i. leads_nearer c.args.region.now (dart_of c.args.region.now c.args.cell i))) (sym e) ∙ c.loop-side.invariant)
