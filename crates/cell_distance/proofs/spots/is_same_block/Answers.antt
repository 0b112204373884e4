use Rattle.std.proofs.Common.{ℕ, List, take, drop, ◌-◌, ◌+◌, ◌≡◌, arith, subst, sym, ◌∙◌}
use Rattle.std.specs.Cmp.Lexicographic.{pointwise, same_text}
use Rattle.cell_distance.proofs.spots.is_same_block.Goals as goal

pub returns-then-n-at-ge-BLOCK-clause-same : goal.returns-then-n-at-ge-BLOCK-clause-same
returns-then-n-at-ge-BLOCK-clause-same c = λ yes.
    let at = c.args.at in
    let block : at + 64 - at ≡ 64 = omega (arith) in
    subst (λ (k : ℕ). take k (drop at c.args.m.now) ≡ take k (drop at c.args.n.now)) block
    (same_text _ _ (sym yes ∙ c.eq.ensures))
