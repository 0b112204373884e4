-- The object of the members that were taken.
use Rattle.std.proofs.Common.{vec_items, sym, subst, arith}
use Rattle.rules_file.specs.Parts.{HasTables}
use Rattle.rules_file.proofs.Taking.{object_whole}
use Rattle.rules_file.proofs.read.take_tables.Goals as goal

pub returns-clause-passed : goal.returns-clause-passed
returns-clause-passed c = (object_whole 127 _ _ _ (c.in_ok-opens_object.ensures.opens (grind arith)) c.in_ok-tables.ensures.passed).0

pub returns-clause-some : goal.returns-clause-some
returns-clause-some c =
    let all = object_whole 127 _ _ _ (c.in_ok-opens_object.ensures.opens (grind arith)) c.in_ok-tables.ensures.passed in
    let t = c.in_ok-tables.tables in
    subst (λ d. HasTables vec_items vec_items vec_items c.args.ranked d t.version t.scale t.roots t.corners t.states) (sym all.1) c.in_ok-tables.ensures.fits

pub returns-clause-object : goal.returns-clause-object
returns-clause-object c none =
    none _ (object_whole 127 _ _ _ (c.in_ok-opens_object.ensures.opens (grind arith)) c.in_ok-tables.ensures.passed).1
