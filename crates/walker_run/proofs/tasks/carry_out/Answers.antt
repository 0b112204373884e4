use Rattle.std.proofs.Common.{refl, sym, subst}
use Rattle.call_words.specs.declared.forms.Form.{Form}
use Rattle.call_words.specs.Tasks.{TeachesFor}
use Rattle.call_words.specs.Forms.{task_of, rules_from}
use Rattle.walker_run.proofs.Carrying.{no_teacher}
use Rattle.walker_run.proofs.tasks.carry_out.Goals as goal

pub returns-in-Run-clause-untaught : goal.returns-in-Run-clause-untaught
returns-in-Run-clause-untaught g c = λ none.
    no_teacher c.in-Run.tess.now c.in-Run.kind (rules_from c.in-Run.rules) _
    (λ file cells teaches. none file cells (subst (λ (f : Form). TeachesFor (task_of f) file cells) (sym c.in-Run.is) teaches))
    c.open_session.ensures.untaught

pub returns-in-Learn-clause-untaught : goal.returns-in-Learn-clause-untaught
returns-in-Learn-clause-untaught g c = λ none.
    absurd (none c.in-Learn.tess.now c.in-Learn.cells (subst (λ (f : Form). TeachesFor (task_of f) c.in-Learn.tess.now c.in-Learn.cells) (sym c.in-Learn.is) (refl, refl)))
