use Rattle.std.proofs.Common.{ℕ, ◌<◌, refl, arith}
use Rattle.tree_model.specs.Automata.{side_count}
use Rattle.structure_check.specs.Search.{HasTargetsAt}
use Rattle.structure_check.proofs.Numbers.{below_more}
use Rattle.structure_check.proofs.table.has_targets.Goals as goal

pub loop-i-preserved : goal.loop-i-preserved
loop-i-preserved c = below_more (HasTargetsAt c.args.a.now c.args.s) c.loop-i.i c.loop-i.invariant (c.has_targets_at.ensures.0 c.if-not-has_targets_at.false)

pub returns : goal.returns
returns c =
    let all : (i : ℕ) → i < side_count c.args.tess.now c.args.a.now c.args.s → HasTargetsAt c.args.a.now c.args.s i
    = λ i less. c.loop-i.invariant i (omega arith) in
    (λ _. record { child = λ i c' less e. (all i less).child c' e; claim = λ i less. ((all i less).corner, (all i less).place) }, λ _. refl)
