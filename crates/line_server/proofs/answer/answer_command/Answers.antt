use Rattle.std.proofs.Common.{◌++◌, refl, ap, ◌∙◌, subst}
use Rattle.command_text.specs.Replies.{reply_text}
use Rattle.session_core.specs.Answered.{IsBrief}
use Rattle.std.specs.Prelude.{None}
use Rattle.line_server.proofs.Answering.{answers_command, names_unlisted}
use Rattle.line_server.proofs.answer.answer_command.Goals as goal

pub returns-in-Some-clause-replied : goal.returns-in-Some-clause-replied
returns-in-Some-clause-replied c = λ line text short spelt.
    let x = c.in_ok-reply.reply in
    answers_command _ _ line text _ _ c.args.command.now x None short spelt
    c.readings.ensures c.readings-2.ensures c.in_ok-reply.ensures.answered
    (λ names named. names_unlisted _ x names (λ d size e. subst IsBrief e c.in-Some.ensures.one) refl named)
    (c.in_ok-extend_from_slice.ensures.items
    ∙ ap (λ l. c.reserve.new.self.items ++ l) c.in-Some.ensures.line
    ∙ ap (λ l. l ++ reply_text x) c.reserve.ensures.items)

pub returns-clause-replied : goal.returns-clause-replied
returns-clause-replied c = λ line text short spelt.
    let x = c.in_ok-reply.reply in
    answers_command _ _ line text _ _ c.args.command.now x _ short spelt
    c.readings.ensures c.readings-2.ensures c.in_ok-reply.ensures.answered (c.ring_behind.ensures _)
    (c.in_ok-write_reply.ensures.written ∙ ap (λ l. l ++ reply_text x) c.reserve.ensures.items)
