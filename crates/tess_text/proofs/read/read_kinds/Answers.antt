use Rattle.std.proofs.Common.{take}
use Rattle.tess_text.specs.FileLines.{word_lines}
use Rattle.tess_text.proofs.Reading.{stops, goes_on, read_all, end_says, end_stops}
use Rattle.tess_text.proofs.read.read_kinds.Goals as goal

pub returns-then-not-branch : goal.returns-then-not-branch
returns-then-not-branch c =
    let answer = c.in_ok-read_line.ensures (take c.loop-line.count (word_lines c.args.bytes.now)) c.loop-line.invariant.read in
    let bad = rw c.if-not-branch.true at answer in
    stops _ _ c.loop-line.count _ _ c.loop-line.invariant c.in-Some.line.now c.in-Some.after.now c.in-Some.ensures.lines bad

pub loop-line-preserved : goal.loop-line-preserved
loop-line-preserved c =
    let answer = c.in_ok-read_line.ensures (take c.loop-line.count (word_lines c.args.bytes.now)) c.loop-line.invariant.read in
    let good = rw c.if-not-branch.false at answer in
    goes_on _ _ c.loop-line.count _ _ c.loop-line.invariant c.in-Some.line.now c.in-Some.after.now _ _ c.in-Some.ensures.lines c.in-Some.ensures.shorter good.0 good.1

pub returns-in-Some-2 : goal.returns-in-Some-2
returns-in-Some-2 c =
    let answer = c.in_ok-said.ensures (word_lines c.args.bytes.now) (read_all _ _ c.loop-line.count _ _ c.loop-line.invariant c.in_default.ensures.lines) in
    let good = rw c.in-Some-2.is at answer in
    end_says _ _ c.loop-line.count _ _ c.loop-line.invariant _ _ c.in_default.ensures.lines good

pub returns : goal.returns
returns c =
    let answer = c.in_ok-said.ensures (word_lines c.args.bytes.now) (read_all _ _ c.loop-line.count _ _ c.loop-line.invariant c.in_default.ensures.lines) in
    let bad = rw c.in-None.is at answer in
    end_stops _ _ c.loop-line.count _ _ c.loop-line.invariant c.in_default.ensures.lines bad
