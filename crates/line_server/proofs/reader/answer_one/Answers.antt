use Rattle.std.specs.Prelude.{None, Some}
use Rattle.line_server.specs.Readers.{of_none, of_ring}
use Rattle.line_server.proofs.Answering.{on_ok, on_err, then_err, fails_before, measured, now_named, passes, breaks}
use Rattle.line_server.proofs.reader.answer_one.Goals as goal

pub returns-in_ok-names_of_ring-in-Some-clause-replied : goal.returns-in_ok-names_of_ring-in-Some-clause-replied
returns-in_ok-names_of_ring-in-Some-clause-replied g c = λ dropped whole d told.
    let line = measured c.is_too_long-is_long.result c.args.lost dropped c.args.text.now c.args.line.now whole d
    (c.is_too_long-is_long.ensures dropped d) told in
    let answered = c.in_ok-d.ensures.replied _ whole line in
    let named = now_named _ _ _ _ _ _ _ (Some c.in-Some.d) c.in-Some.is answered in
    let names = of_ring c.in-Some.d _ c.names_of_ring.ensures.session c.in_ok-names_of_ring-in-Some.ensures.names in
    on_ok c.pass_names.result (passes _ _ _ _ _ _ _ _ _ named _ names _ _) c.pass_names.ensures.said

pub returns-in_err-d-clause-failed : goal.returns-in_err-d-clause-failed
returns-in_err-d-clause-failed g c = λ dropped whole d told.
    on_err _ (fails_before _ _ _ _ _ _)

pub returns-in_ok-names_of_ring-in-Some-clause-failed : goal.returns-in_ok-names_of_ring-in-Some-clause-failed
returns-in_ok-names_of_ring-in-Some-clause-failed g c = λ dropped whole d told.
    let line = measured c.is_too_long-is_long.result c.args.lost dropped c.args.text.now c.args.line.now whole d
    (c.is_too_long-is_long.ensures dropped d) told in
    let answered = c.in_ok-d.ensures.replied _ whole line in
    let named = now_named _ _ _ _ _ _ _ (Some c.in-Some.d) c.in-Some.is answered in
    let names = of_ring c.in-Some.d _ c.names_of_ring.ensures.session c.in_ok-names_of_ring-in-Some.ensures.names in
    then_err c.pass_names.result (breaks _ _ _ _ _ _ _ _ _ named _ names _) c.pass_names.ensures.broken

pub returns-in_ok-write_if_full-in-None-clause-replied :
    goal.returns-in_ok-write_if_full-in-None-clause-replied
returns-in_ok-write_if_full-in-None-clause-replied g c = λ dropped whole d told.
    let line = measured c.is_too_long-is_long.result c.args.lost dropped c.args.text.now c.args.line.now whole d
    (c.is_too_long-is_long.ensures dropped d) told in
    let answered = c.in_ok-d.ensures.replied _ whole line in
    let named = now_named _ _ _ _ _ _ _ None c.in-None.is answered in
    passes _ _ _ _ _ _ _ _ _ named _ of_none _ _ c.in_ok-write_if_full-in-None.ensures.said

pub returns-in_err-write_if_full-in-None-clause-failed :
    goal.returns-in_err-write_if_full-in-None-clause-failed
returns-in_err-write_if_full-in-None-clause-failed g c = λ dropped whole d told.
    let line = measured c.is_too_long-is_long.result c.args.lost dropped c.args.text.now c.args.line.now whole d
    (c.is_too_long-is_long.ensures dropped d) told in
    let answered = c.in_ok-d.ensures.replied _ whole line in
    let named = now_named _ _ _ _ _ _ _ None c.in-None.is answered in
    on_err _ (breaks _ _ _ _ _ _ _ _ _ named _ of_none _ c.in_err-write_if_full-in-None.ensures.broken)

pub returns-in_err-names_of_ring-in-Some-clause-failed :
    goal.returns-in_err-names_of_ring-in-Some-clause-failed
returns-in_err-names_of_ring-in-Some-clause-failed g c = λ dropped whole d told.
    on_err _ (fails_before _ _ _ _ _ _)
