use Rattle.std.proofs.Common.{◌≡◌, ◌+◌, ◌-◌, ◌%◌, sym, ap, ◌∙◌, arith}
use Rattle.std.proofs.Math.Nat.{add-mod_right}
use Rattle.turn_rules.proofs.sides.left_by.Goals as goal

pub loop-there-preserved : goal.loop-there-preserved
loop-there-preserved c =
    let n = c.side_count-sides.result in
    let over : c.loop-there.there ≡ (c.loop-there.there - c.side_count-sides.result) + c.side_count-sides.result = omega (arith, c.loop-there-test.true) in
    record { same = sym (ap (λ t. t % n) over ∙ add-mod_right (c.loop-there.there - n) n) ∙ c.loop-there.invariant.same; few = omega (arith, c.loop-there.invariant.few) }
