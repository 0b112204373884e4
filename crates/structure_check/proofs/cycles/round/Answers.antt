use Rattle.std.proofs.Common.{◌≡◌, ◌+◌, suc, sym, ap, ◌∙◌, arith, min, ◌+ℤ◌, to_z, of_z, w64}
use Rattle.std.proofs.lemmas.Int.{ints, to_z-of_z}
use Rattle.tree_model.specs.Automata.{outer}
use Rattle.tree_model.specs.OuterLinks.{entered}
use Rattle.structure_check.proofs.Rounding.{rounding_is, rounding_on, room}
use Rattle.structure_check.proofs.cycles.round.Goals as goal

pub entering-sum-requires-clause-least : goal.entering-sum-requires-clause-least
entering-sum-requires-clause-least c =
    (room c.args.a.now c.requires.outers c.args.x c.loop-link.link c.loop-link.y (to_z w64 c.loop-link.sum-bits) c.loop-link.least c.requires.corner c.loop-link.invariant (omega (arith, c.loop-link-test.true, c.requires.few))).0

pub entering-sum-requires-clause-most : goal.entering-sum-requires-clause-most
entering-sum-requires-clause-most c =
    (room c.args.a.now c.requires.outers c.args.x c.loop-link.link c.loop-link.y (to_z w64 c.loop-link.sum-bits) c.loop-link.least c.requires.corner c.loop-link.invariant (omega (arith, c.loop-link-test.true, c.requires.few))).1

pub loop-link-preserved : goal.loop-link-preserved
loop-link-preserved c =
    let sum = to_z w64 c.loop-link.sum-bits in
    let on = rounding_on c.args.a.now c.requires.outers c.args.x c.loop-link.link c.loop-link.y sum c.loop-link.least c.loop-link.invariant c.if-y-x.false in
    let total : (sum +ℤ entered c.args.a.now c.loop-link.y) ≡ to_z w64 (of_z w64 c.entering-sum.result) = sym (to_z-of_z w64 c.entering-sum.result (omega (arith, ints, c.entering-sum.type_inv)) ∙ c.entering-sum.ensures) in
    rounding_is c.args.a.now c.args.x (suc c.loop-link.link) (c.loop-link.link + 1) (outer c.args.a.now c.loop-link.y).corner c.outer-y-in-loop-link.result.corner (sum +ℤ entered c.args.a.now c.loop-link.y) (to_z w64 (of_z w64 c.entering-sum.result)) (min c.loop-link.least c.loop-link.y) c.min-least.result on (omega arith) (sym (ap (λ q. q.corner) c.outer-y-in-loop-link.ensures)) total (sym c.min-least.ensures)
