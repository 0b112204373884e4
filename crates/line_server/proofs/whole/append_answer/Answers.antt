use Rattle.std.proofs.Common.{[], ◌++◌, sym, ap, ◌∙◌}
use Rattle.std.proofs.lemmas.List.{append_assoc, append-nil}
use Rattle.std.specs.Prelude.{None, Some}
use Rattle.line_server.specs.Readers.{of_none, of_ring}
use Rattle.line_server.proofs.Answering.{on_ok}
use Rattle.line_server.proofs.OneLine.{whole_measured, whole_of}
use Rattle.line_server.proofs.whole.append_answer.Goals as goal

pub returns-in_ok-names_of_ring-in-Some-clause-answered : goal.returns-in_ok-names_of_ring-in-Some-clause-answered
returns-in_ok-names_of_ring-in-Some-clause-answered c =
    let line = c.args.line.now in
    let told = c.in_ok-d.ensures.replied line c.text_of.result.now
    (whole_measured c.is_too_long-is_long.result line c.text_of.result.now c.is_too_long-is_long.ensures) in
    on_ok c.append_names.result
    (whole_of _ _ line c.text_of.result.now _ _ _ _ (Some c.in-Some.d) _ c.text_of.ensures.text
    c.in-Some.is told
    (of_ring c.in-Some.d _ c.names_of_ring.ensures.session c.in_ok-names_of_ring-in-Some.ensures.names))
    c.append_names.ensures.named

pub returns-in_ok-names_of_ring-in-Some-clause-kept : goal.returns-in_ok-names_of_ring-in-Some-clause-kept
returns-in_ok-names_of_ring-in-Some-clause-kept c =
    let line = c.args.line.now in
    let told = c.in_ok-d.ensures.replied line c.text_of.result.now
    (whole_measured c.is_too_long-is_long.result line c.text_of.result.now c.is_too_long-is_long.ensures) in
    let more = c.append_names.ensures.kept in (
      told.front ++ more.0,
      more.1 ∙ ap (λ l. l ++ more.0) told.waits
          ∙ append_assoc c.args.waiting.now.items told.front more.0,
    )

pub returns-in-None-clause-answered : goal.returns-in-None-clause-answered
returns-in-None-clause-answered c =
    let line = c.args.line.now in
    let told = c.in_ok-d.ensures.replied line c.text_of.result.now
    (whole_measured c.is_too_long-is_long.result line c.text_of.result.now c.is_too_long-is_long.ensures) in
    whole_of _ _ line c.text_of.result.now _ _ _ _ None [] c.text_of.ensures.text
    c.in-None.is told of_none (sym (append-nil c.answer_line.new.waiting.items))

pub returns-in-None-clause-kept : goal.returns-in-None-clause-kept
returns-in-None-clause-kept c =
    let line = c.args.line.now in
    let told = c.in_ok-d.ensures.replied line c.text_of.result.now
    (whole_measured c.is_too_long-is_long.result line c.text_of.result.now c.is_too_long-is_long.ensures) in
    (told.front, told.waits)

pub returns-in_err-names_of_ring-in-Some-clause-kept :
    goal.returns-in_err-names_of_ring-in-Some-clause-kept
returns-in_err-names_of_ring-in-Some-clause-kept c =
    let line = c.args.line.now in
    let told = c.in_ok-d.ensures.replied line c.text_of.result.now
    (whole_measured c.is_too_long-is_long.result line c.text_of.result.now c.is_too_long-is_long.ensures) in
    (told.front, told.waits)
