use Rattle.std.proofs.Common.{◌∙◌, ap, sym}
use Rattle.log_checker.specs.Footprints.{TypedLetter}
use Rattle.log_checker.proofs.LetterTypes.{other_letter}
use Rattle.log_checker.proofs.checking.without.Goals as goal

pub returns-then-not-are_same-clause-none : goal.returns-then-not-are_same-clause-none
returns-then-not-are_same-clause-none c = λ r whole.
    let other = other_letter c.args.footprints.now c.loop-footprint.footprint-index c.footprint-item.result c.args.w.now c.loop-footprint.rest.now c.in-Some.behind.now r c.in-Some.first.now c.loop-footprint-test.true c.footprint-item.is c.loop-footprint.invariant c.in-Some.ensures.cases.0 whole in
    let letter = ap (λ (x : TypedLetter). x.0) c.footprint.view_is in
    let same = c.are_same.ensures.1 (other ∙ sym letter) in
    absurd (cc (same, c.if-not-are_same.true))
