use Rattle.std.proofs.Common.{sym, subst}
use Rattle.std.specs.Prelude.{Option, ◌↔◌, IsNone}
use Rattle.tree_model.specs.Conditions.{IsAccepted}
use Rattle.structure_check.specs.declared.broken.Broken.{Broken}
use Rattle.structure_check.proofs.First.{none_exactly, every_found}
use Rattle.structure_check.proofs.rules.first_broken.Goals as goal

pub returns-clause-exactly : goal.returns-clause-exactly
returns-clause-exactly c =
    subst (λ (o : Option Broken). IsNone o ↔ IsAccepted c.args.tess.now c.args.a.now) (sym c.err.ensures.value) (none_exactly c.args.tess.now c.args.a.now c.check_all.result c.check_all.ensures.ok c.check_all.ensures.err)

pub returns-clause-every : goal.returns-clause-every
returns-clause-every c = λ condition first second broken.
    let found = every_found c.args.tess.now c.args.a.now c.check_all.result condition first second c.check_all.ensures.ok c.check_all.ensures.err broken in
    rw c.err.ensures.value found
