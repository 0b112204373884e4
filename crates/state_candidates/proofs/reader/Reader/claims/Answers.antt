-- One claim more.
use Rattle.std.proofs.Common.{◌≡◌, Some, sym, ap, ◌∙◌, arith}
use Rattle.look_classes.specs.Tree.{sides_of}
use Rattle.look_classes.specs.Looks.{each_below}
use Rattle.state_candidates.specs.Reading.{claim_at_side, claims_of}
use Rattle.state_candidates.proofs.Each.{each_none, each_more, each_missing}
use Rattle.state_candidates.proofs.reader.Reader.claims.Goals as goal

pub loop-j-init : goal.loop-j-init
loop-j-init c =
    let v = c.args.self.now in
    each_none (claim_at_side v.region v.lists v.first_corner c.args.cell) ∙ ap (λ xs. Some xs) (sym c.new-claims.ensures.items)

pub returns-in_default : goal.returns-in_default
unfolding claims_of
returns-in_default c =
    let v = c.args.self.now in
    let of = claim_at_side v.region v.lists v.first_corner c.args.cell in
    let all : c.sides-j-end.result ≡ sides_of v.region c.args.cell = c.sides-j-end.ensures.value ∙ ap (λ r. sides_of r c.args.cell) (c.region.ensures ∙ ap (λ v. v.region) c.self.view_is) in
    sym (each_missing of (sides_of v.region c.args.cell) c.loop-j.j (omega (arith, c.loop-j-test.true, all)) (sym c.side_claim.ensures ∙ c.in_default.is))

pub loop-j-preserved : goal.loop-j-preserved
loop-j-preserved c =
    let v = c.args.self.now in
    let of = claim_at_side v.region v.lists v.first_corner c.args.cell in
    each_more of c.loop-j.j c.loop-j.claims.items c.in-Some.claim c.loop-j.invariant (sym c.side_claim.ensures ∙ c.in-Some.is) ∙ ap (λ xs. Some xs) (sym c.in_ok-push.ensures.items)

pub returns : goal.returns
unfolding claims_of
returns c =
    let v = c.args.self.now in
    let of = claim_at_side v.region v.lists v.first_corner c.args.cell in
    let all : c.sides-j-end.result ≡ sides_of v.region c.args.cell = c.sides-j-end.ensures.value ∙ ap (λ r. sides_of r c.args.cell) (c.region.ensures ∙ ap (λ v. v.region) c.self.view_is) in
    let end : c.loop-j.j ≡ sides_of v.region c.args.cell = omega (arith, c.loop-j-test.false, c.loop-j.auto.j-end, all) in
    sym (ap (λ n. each_below n of) (sym end) ∙ c.loop-j.invariant)
