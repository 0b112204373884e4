use Rattle.structure_check.proofs.Places.{parts_hold}
use Rattle.structure_check.proofs.conditions.check_table.Goals as goal

pub returns-clause-ok : goal.returns-clause-ok
returns-clause-ok c = parts_hold c.args.tess.now c.args.a.now c.in_ok-check_part-6.ensures.ok
