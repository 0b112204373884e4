use Rattle.std.proofs.Common.{◌≢◌, [], ◌++◌, Err, sym, ap, ◌∙◌, subst, ◌≡◌, arith}
use Rattle.std.proofs.lemmas.Bool.Decides.{nat_tests}
use Rattle.std.proofs.lemmas.List.{append-nil}
use Rattle.command_text.specs.CommandLines.{IsSpelling}
use Rattle.line_server.specs.Outputs.{too_long, empty, bad, too_long_text, bad_text}
use Rattle.line_server.proofs.Answering.{no_bytes, answers_so}
use Rattle.line_server.proofs.answer.answer_line.Goals as goal

pub returns-then-is_long-clause-replied : goal.returns-then-is_long-clause-replied
returns-then-is_long-clause-replied c = λ line whole m.
    answers_so c.args.session.now line whole _ too_long_text _
    (λ h. too_long (m.long c.if-is_long.true))
    (c.in_ok-extend_from_slice.ensures.items ∙ ap (λ l. c.args.waiting.now.items ++ l) c.too_long_line.ensures)

pub returns-then-is_empty-clause-replied : goal.returns-then-is_empty-clause-replied
returns-then-is_empty-clause-replied c = λ line whole m.
    let none : c.args.text.now ≡ [] = no_bytes _ (grind (arith, nat_tests)) in
    answers_so c.args.session.now line whole _ [] _
    (λ h. empty (m.short c.if-is_long.false) (m.same c.if-is_long.false ∙ none))
    (sym (append-nil c.args.waiting.now.items))

pub returns-in_ok-extend_from_slice-in-Err-Bad-clause-replied :
    goal.returns-in_ok-extend_from_slice-in-Err-Bad-clause-replied
returns-in_ok-extend_from_slice-in-Err-Bad-clause-replied c = λ line whole m.
    let same = m.same c.if-is_long.false in
    let none = c.read_command.ensures.bad (c.in-Err-Bad.is ∙ ap Err c.in-Err-Bad.field-0-is) in
    let some : c.args.text.now ≢ [] = λ e. absurd (grind (arith, nat_tests)) in
    answers_so c.args.session.now line whole _ bad_text _
    (λ h. bad (m.short c.if-is_long.false) (λ e. some (sym same ∙ e)) (λ d s. none d (subst (λ t. IsSpelling t d) same s)))
    (c.in_ok-extend_from_slice-in-Err-Bad.ensures.items ∙ ap (λ l. c.args.waiting.now.items ++ l) c.bad_line.ensures)
