use Rattle.std.proofs.Common.{◌≢◌, ◌≤◌, ◌+◌, ℕ, sym, subst, arith}
use Rattle.structure_check.specs.Cycles.{stamp_at, AreJudged}
use Rattle.structure_check.proofs.Judging.{own, kept, begun, stamps_most, ended_before, judged_old, judged_own}
use Rattle.structure_check.proofs.cycles.judge.Goals as goal

pub returns-then-seen-x-clause-kept : goal.returns-then-seen-x-clause-kept
returns-then-seen-x-clause-kept c =
    let a = c.args.a.now in
    let given : c.args.g + 1 ≢ 0 = λ e. omega (arith, e) in
    kept a c.requires.outers c.args.g (c.args.g + 1) c.args.seen.now c.pass-x.new.seen c.pass-x.result.0 c.pass-x.result.1 c.pass-x.ensures given

pub returns-then-seen-x-clause-passed : goal.returns-then-seen-x-clause-passed
returns-then-seen-x-clause-passed c =
    let a = c.args.a.now in
    let given : c.args.g + 1 ≢ 0 = λ e. omega (arith, e) in
    begun a c.requires.outers c.args.g (c.args.g + 1) c.args.seen.now c.pass-x.new.seen c.pass-x.result.0 c.pass-x.result.1 c.pass-x.ensures given

pub returns-then-falling-clause-kept : goal.returns-then-falling-clause-kept
returns-then-falling-clause-kept c =
    let a = c.args.a.now in
    let given : c.args.g + 1 ≢ 0 = λ e. omega (arith, e) in
    kept a c.requires.outers c.args.g (c.args.g + 1) c.args.seen.now c.pass-x.new.seen c.pass-x.result.0 c.pass-x.result.1 c.pass-x.ensures given

pub returns-then-falling-clause-passed : goal.returns-then-falling-clause-passed
returns-then-falling-clause-passed c =
    let a = c.args.a.now in
    let given : c.args.g + 1 ≢ 0 = λ e. omega (arith, e) in
    begun a c.requires.outers c.args.g (c.args.g + 1) c.args.seen.now c.pass-x.new.seen c.pass-x.result.0 c.pass-x.result.1 c.pass-x.ensures given

pub returns-else-falling-clause-kept : goal.returns-else-falling-clause-kept
returns-else-falling-clause-kept c =
    let a = c.args.a.now in
    let given : c.args.g + 1 ≢ 0 = λ e. omega (arith, e) in
    kept a c.requires.outers c.args.g (c.args.g + 1) c.args.seen.now c.pass-x.new.seen c.pass-x.result.0 c.pass-x.result.1 c.pass-x.ensures given

pub returns-else-falling-clause-passed : goal.returns-else-falling-clause-passed
returns-else-falling-clause-passed c =
    let a = c.args.a.now in
    let given : c.args.g + 1 ≢ 0 = λ e. omega (arith, e) in
    begun a c.requires.outers c.args.g (c.args.g + 1) c.args.seen.now c.pass-x.new.seen c.pass-x.result.0 c.pass-x.result.1 c.pass-x.ensures given

pub returns-then-falling-clause-stamps : goal.returns-then-falling-clause-stamps
returns-then-falling-clause-stamps c =
    let a = c.args.a.now in
    let given : c.args.g + 1 ≢ 0 = λ e. omega (arith, e) in
    let low : (y : ℕ) → stamp_at c.args.seen.now y ≤ c.args.g + 1 = λ y. omega (arith, c.requires.stamps y) in
    λ y. omega (arith, stamps_most a c.requires.outers c.args.g (c.args.g + 1) c.args.seen.now c.pass-x.new.seen c.pass-x.result.0 c.pass-x.result.1 c.pass-x.ensures given low y)

pub returns-then-seen-x-clause-judged : goal.returns-then-seen-x-clause-judged
returns-then-seen-x-clause-judged c =
    let a = c.args.a.now in
    let given : c.args.g + 1 ≢ 0 = λ e. omega (arith, e) in
    judged_old a c.requires.outers c.args.g (c.args.g + 1) c.args.seen.now c.pass-x.new.seen c.pass-x.result.0 c.pass-x.result.1 c.pass-x.ensures given c.args.least c.requires.judged (ended_before a c.requires.outers c.args.g (c.args.g + 1) c.args.seen.now c.pass-x.new.seen c.pass-x.result.0 c.pass-x.result.1 c.pass-x.ensures given c.if-seen-x.true)

pub round-falling-requires-clause-back : goal.round-falling-requires-clause-back
round-falling-requires-clause-back c =
    let a = c.args.a.now in
    let given : c.args.g + 1 ≢ 0 = λ e. omega (arith, e) in
    let fresh : (y : ℕ) → stamp_at c.args.seen.now y ≢ c.args.g + 1 = λ y e. omega (arith, c.requires.stamps y, e) in
    own a c.requires.outers c.args.g (c.args.g + 1) c.args.seen.now c.pass-x.new.seen c.pass-x.result.0 c.pass-x.result.1 c.pass-x.ensures given fresh c.if-seen-x.false

pub returns-then-falling-clause-judged : goal.returns-then-falling-clause-judged
returns-then-falling-clause-judged c =
    let a = c.args.a.now in
    let given : c.args.g + 1 ≢ 0 = λ e. omega (arith, e) in
    (judged_own a c.requires.outers c.args.g (c.args.g + 1) c.args.seen.now c.pass-x.new.seen c.pass-x.result.0 c.pass-x.result.1 c.pass-x.ensures given c.args.least c.requires.judged c.round-falling.ensures.sum c.round-falling.result.1 c.round-falling.ensures.round).0 (c.round-falling.ensures.low c.if-falling.true)

pub returns-else-falling-clause-judged : goal.returns-else-falling-clause-judged
returns-else-falling-clause-judged c =
    let a = c.args.a.now in
    let given : c.args.g + 1 ≢ 0 = λ e. omega (arith, e) in
    let j = (judged_own a c.requires.outers c.args.g (c.args.g + 1) c.args.seen.now c.pass-x.new.seen c.pass-x.result.0 c.pass-x.result.1 c.pass-x.ensures given c.args.least c.requires.judged c.round-falling.ensures.sum c.round-falling.result.1 c.round-falling.ensures.round).1 (c.round-falling.ensures.high c.if-falling.false) in
    subst (AreJudged a c.pass-x.new.seen) (sym c.min.ensures) j
