-- A side of a kind below the next is of the kind just tried, all whose residues pass, or of one below it.
use Rattle.std.proofs.Common.{ℕ, ◌<◌, ◌≤◌, inl, inr, arith}
use Rattle.std.proofs.Math.Nat.{eq-or-lt_of_le}
use Rattle.handed_kinds.specs.Handed.{handed_at}
use Rattle.handed_kinds.specs.Checks.{Passes}
use Rattle.handed_kinds.proofs.checks.failing_side.Goals as goal

pub loop-k-preserved : goal.loop-k-preserved
loop-k-preserved c = λ e is_side lt.
    let le : e.0 ≤ c.loop-k.k = omega arith in
    elim (eq-or-lt_of_le le) [
      | inl same ↦
          let here : (s : ℕ) → s < (handed_at c.args.kinds.now c.loop-k.k).repeat → Passes c.args.check c.args.kinds.now (c.loop-k.k, s) = c.in_default.ensures.none in
          let there : (s : ℕ) → s < (handed_at c.args.kinds.now e.0).repeat → Passes c.args.check c.args.kinds.now (e.0, s) = rw same here in
          there e.1 is_side.1
      | inr lower ↦ c.loop-k.invariant e is_side lower
    ]
