use Rattle.std.proofs.Common.{◌∙◌, subst}
use Rattle.rules_tools.specs.Classes.{AreByKey}
use Rattle.rules_tools.proofs.Refining.{are_faces}
use Rattle.rules_tools.proofs.first_path.faces.Goals as goal

pub returns : goal.returns
returns c =
    are_faces c.args.a.now c.in_ok-faces.faces.items c.in_ok-faces.field-0-1
    (subst (λ b. AreByKey c.args.a.now b c.in_ok-faces.faces.items c.in_ok-faces.field-0-1) (c.deref.ensures.value ∙ c.in_ok-start.ensures) c.in_ok-faces.ensures)
