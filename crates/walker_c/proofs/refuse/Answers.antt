use Rattle.std.proofs.Common.{sym, ap, ◌∙◌, subst}
use Rattle.walker_run.specs.Lines.{code_of}
use Rattle.walker_c.specs.Seats.{filled}
use Rattle.walker_c.specs.Opening.{HasOpened, refused, lacking}
use Rattle.walker_c.proofs.refuse.Goals as goal

pub returns-in_default : goal.returns-in_default
returns-in_default c = λ end says.
    subst (HasOpened c.args.line.now c.args.line.now end) (sym (c.from.ensures ∙ c.code.ensures))
    lacking

pub returns-in_default-text : goal.returns-in_default-text
returns-in_default-text c = λ end says.
    subst (HasOpened c.args.line.now c.args.line.now end)
    (sym (c.from-in_default-text.ensures ∙ c.code-in_default-text.ensures))
    lacking

pub returns : goal.returns
returns c = λ end says.
    let room = c.args.line.now in
    let put = c.fill.ensures ∙ ap (filled room) (c.deref.ensures.value ∙ c.in-Ok.ensures) in
    subst (HasOpened room c.fill.new.room end)
    (sym (c.from-2.ensures ∙ c.code-2.ensures ∙ ap code_of c.status.ensures))
    (refused c.in-Say.said (says c.in-Say.said c.in-Say.is) put)
