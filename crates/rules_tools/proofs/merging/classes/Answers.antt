use Rattle.std.proofs.Common.{sym, subst}
use Rattle.rules_tools.specs.Reached.{AreReached}
use Rattle.rules_tools.specs.Classes.{AreApart, AreStable}
use Rattle.rules_tools.proofs.merging.classes.Goals as goal

pub returns : goal.returns
returns c =
    c.number_classes.ensures c.args.tess.now c.requires
    (subst (AreReached c.args.tess.now c.args.a.now) (sym c.deref.ensures.value) c.in_ok-marks.ensures)
    (subst (AreApart c.args.tess.now c.args.a.now) (sym c.deref-2.ensures.value) (c.in_ok-class.ensures.apart c.args.tess.now c.requires))
    (subst (AreStable c.args.tess.now c.args.a.now) (sym c.deref-2.ensures.value) (c.in_ok-class.ensures.stable c.args.tess.now c.requires))
