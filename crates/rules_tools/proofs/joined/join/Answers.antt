use Rattle.std.proofs.Common.{◌≡◌, sym, subst, arith}
use Rattle.std.proofs.lemmas.Bool.Decides.{nat_tests}
use Rattle.rules_tools.specs.Pairs.{IsPair}
use Rattle.rules_tools.specs.Joined.{Linked}
use Rattle.rules_tools.proofs.Joining.{linked_on, linked_back}
use Rattle.rules_tools.proofs.joined.join.Goals as goal

pub returns-then-first-second-clause-one : goal.returns-then-first-second-clause-one
returns-then-first-second-clause-one c = λ q h _.
    let e : c.root-first.result ≡ c.root-second.result = grind (arith, nat_tests, c.if-first-second.true) in
    linked_on (IsPair q) c.args.x c.root-first.result c.args.y (c.root-first.ensures.linked q h)
    (subst (λ z. Linked (IsPair q) z c.args.y) (sym e) (linked_back (IsPair q) c.args.y c.root-second.result (c.root-second.ensures.linked q (c.root-first.ensures.links q h))))

pub returns-then-first-second-2-clause-joined : goal.returns-then-first-second-2-clause-joined
returns-then-first-second-2-clause-joined c = λ q h l.
    let links = c.root-first.ensures.links q h in
    c.hang.ensures.links q (c.root-second.ensures.links q links)
    (linked_on (IsPair q) c.root-second.result c.args.y c.root-first.result (linked_back (IsPair q) c.args.y c.root-second.result (c.root-second.ensures.linked q links))
    (linked_on (IsPair q) c.args.y c.args.x c.root-first.result (linked_back (IsPair q) c.args.x c.args.y l) (c.root-first.ensures.linked q h)))

pub returns-else-first-second-2-clause-joined : goal.returns-else-first-second-2-clause-joined
returns-else-first-second-2-clause-joined c = λ q h l.
    let links = c.root-first.ensures.links q h in
    c.hang-else-first-second-2.ensures.links q (c.root-second.ensures.links q links)
    (linked_on (IsPair q) c.root-first.result c.args.x c.root-second.result (linked_back (IsPair q) c.args.x c.root-first.result (c.root-first.ensures.linked q h))
    (linked_on (IsPair q) c.args.x c.args.y c.root-second.result l (c.root-second.ensures.linked q links)))
