use Rattle.std.proofs.Common.{◌∙◌}
use Rattle.rules_tools.proofs.Refining.{first_apart}
use Rattle.rules_tools.proofs.rounds.settled.Goals as goal

pub returns-then-branch-clause-apart : goal.returns-then-branch-clause-apart
returns-then-branch-clause-apart c = λ kinds ok.
    first_apart kinds c.args.a.now ok c.deref.result.now c.in_ok-faces.faces.items c.len.result c.in_ok-faces.field-0-1 (c.deref.ensures.value ∙ c.in_ok-start.ensures) c.in_ok-faces.ensures

pub returns-then-branch-2-clause-apart : goal.returns-then-branch-2-clause-apart
returns-then-branch-2-clause-apart c = λ kinds ok.
    c.in_ok-class.ensures.apart kinds ok
    (first_apart kinds c.args.a.now ok c.deref.result.now c.in_ok-faces.faces.items c.len.result c.in_ok-faces.field-0-1 (c.deref.ensures.value ∙ c.in_ok-start.ensures) c.in_ok-faces.ensures)

pub returns-clause-apart : goal.returns-clause-apart
returns-clause-apart c = λ kinds ok.
    c.settle.ensures.apart kinds ok
    (c.in_ok-class.ensures.apart kinds ok
    (first_apart kinds c.args.a.now ok c.deref.result.now c.in_ok-faces.faces.items c.len.result c.in_ok-faces.field-0-1 (c.deref.ensures.value ∙ c.in_ok-start.ensures) c.in_ok-faces.ensures))
