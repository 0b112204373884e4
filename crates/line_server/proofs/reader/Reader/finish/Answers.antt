use Rattle.std.proofs.Common.{take, ap}
use Rattle.line_server.proofs.Answering.{on_err}
use Rattle.line_server.proofs.LastLine.{replied_last, failed_last, ends, fails_writing}
use Rattle.line_server.proofs.reader.Reader.finish.Goals as goal

pub returns-in_err-answer_one-clause-failed : goal.returns-in_err-answer_one-clause-failed
returns-in_err-answer_one-clause-failed g c = λ line k.
    on_err _
    (failed_last _ _ c.args.self.now line _ _ _ _ c.requires.written k (ap (take c.args.self.now.kept) c.deref.ensures.value) c.in_err-answer_one.ensures.failed)

pub returns-in_err-write_all-clause-failed : goal.returns-in_err-write_all-clause-failed
returns-in_err-write_all-clause-failed g c = λ line k.
    let said =
    replied_last _ _ _ c.args.self.now line _ _ _ _ _ k
    (ap (take c.args.self.now.kept) c.deref.ensures.value) c.in_ok-answer_one.ensures.replied in
    on_err _
    (fails_writing _ _ _ line _ _ _ _ c.requires.written said _ c.in_err-write_all.ensures.broken)

pub returns-clause-ended : goal.returns-clause-ended
returns-clause-ended g c = λ line k.
    let said =
    replied_last _ _ _ c.args.self.now line _ _ _ _ _ k
    (ap (take c.args.self.now.kept) c.deref.ensures.value) c.in_ok-answer_one.ensures.replied in
    ends _ _ _ line _ _ _ _ c.requires.written said _ _ c.in_ok-write_all.ensures.said
    c.in_ok-write_all.ensures.empty
