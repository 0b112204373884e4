use Rattle.std.proofs.Common.{◌<◌, arith, sym, subst, ◌∙◌}
use Rattle.tree_model.specs.declared.Claim.{Claim}
use Rattle.regular_maker.proofs.Shapes.{shape_of}
use Rattle.regular_maker.proofs.Claims.{told, claim_right, claim_left, claim_middle}
use Rattle.regular_maker.proofs.symbol.Symbol.claim.Goals as goal

pub returns-then-i-rights-clause-place : goal.returns-then-i-rights-clause-place
returns-then-i-rights-clause-place c =
    let below = (told c.args.self.p c.args.self.q
    (shape_of c.args.self.p c.args.self.q c.requires.symbol) c.args.pair c.requires.pair c.args.i c.requires.side).place in
    let e = claim_right c.args.self.p c.args.self.q c.args.pair c.args.i (omega arith)
    ∙ sym c.right_claim.ensures in
    subst (λ (d : Claim). d.place < c.args.self.q) e below

pub returns-then-self-i-clause-place : goal.returns-then-self-i-clause-place
returns-then-self-i-clause-place c =
    let below = (told c.args.self.p c.args.self.q
    (shape_of c.args.self.p c.args.self.q c.requires.symbol) c.args.pair c.requires.pair c.args.i c.requires.side).place in
    let e = claim_left c.args.self.p c.args.self.q c.args.pair c.args.i (omega arith) (omega arith)
    ∙ sym c.left_claim.ensures in
    subst (λ (d : Claim). d.place < c.args.self.q) e below

pub returns-else-self-i-clause-place : goal.returns-else-self-i-clause-place
returns-else-self-i-clause-place c =
    let below = (told c.args.self.p c.args.self.q
    (shape_of c.args.self.p c.args.self.q c.requires.symbol) c.args.pair c.requires.pair c.args.i c.requires.side).place in
    let e = claim_middle c.args.self.p c.args.self.q c.args.pair c.args.i (omega arith)
    (omega arith) ∙ sym c.lowest.ensures.value in
    subst (λ (d : Claim). d.place < c.args.self.q) e below
