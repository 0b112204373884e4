-- One rule more.
use Rattle.std.proofs.Common.{◌≡◌, Some, sym, ap, ◌∙◌, arith}
use Rattle.look_classes.specs.Tree.{sides_of}
use Rattle.look_classes.specs.Looks.{each_below}
use Rattle.state_candidates.specs.Reading.{rule_at_side, rules_of}
use Rattle.state_candidates.proofs.Each.{each_none, each_more, each_missing}
use Rattle.state_candidates.proofs.reader.Reader.rules.Goals as goal

pub loop-j-init : goal.loop-j-init
loop-j-init c =
    let v = c.args.self.now in
    each_none (rule_at_side v.region v.lists v.first_state c.args.cell) ∙ ap (λ xs. Some xs) (sym c.new-rules.ensures.items)

pub returns-in_default : goal.returns-in_default
unfolding rules_of
returns-in_default c =
    let v = c.args.self.now in
    let of = rule_at_side v.region v.lists v.first_state c.args.cell in
    let all : c.sides-j-end.result ≡ sides_of v.region c.args.cell = c.sides-j-end.ensures.value ∙ ap (λ r. sides_of r c.args.cell) (c.region.ensures ∙ ap (λ v. v.region) c.self.view_is) in
    sym (each_missing of (sides_of v.region c.args.cell) c.loop-j.j (omega (arith, c.loop-j-test.true, all)) (sym c.rule.ensures ∙ c.in_default.is))

pub loop-j-preserved : goal.loop-j-preserved
loop-j-preserved c =
    let v = c.args.self.now in
    let of = rule_at_side v.region v.lists v.first_state c.args.cell in
    each_more of c.loop-j.j c.loop-j.rules.items c.in-Some.rule c.loop-j.invariant (sym c.rule.ensures ∙ c.in-Some.is) ∙ ap (λ xs. Some xs) (sym c.in_ok-push.ensures.items)

pub returns : goal.returns
unfolding rules_of
returns c =
    let v = c.args.self.now in
    let of = rule_at_side v.region v.lists v.first_state c.args.cell in
    let all : c.sides-j-end.result ≡ sides_of v.region c.args.cell = c.sides-j-end.ensures.value ∙ ap (λ r. sides_of r c.args.cell) (c.region.ensures ∙ ap (λ v. v.region) c.self.view_is) in
    let end : c.loop-j.j ≡ sides_of v.region c.args.cell = omega (arith, c.loop-j-test.false, c.loop-j.auto.j-end, all) in
    sym (ap (λ n. each_below n of) (sym end) ∙ c.loop-j.invariant)
