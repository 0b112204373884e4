use Rattle.std.proofs.Common.{◌+◌, take, refl, ap, subst}
use Rattle.line_server.specs.Readers.{HasComeTo}
use Rattle.line_server.proofs.Answering.{on_err}
use Rattle.line_server.proofs.Keeping.{stopped_at, has_read}
use Rattle.line_server.proofs.reader.Reader.answer.Goals as goal

pub returns-in_err-rest-clause-stopped : goal.returns-in_err-rest-clause-stopped
returns-in_err-rest-clause-stopped g c = λ line k.
    on_err _
    (stopped_at _ _ c.args.self.now line c.args.fresh _ _ k (ap (take (c.args.self.now.kept + c.args.fresh)) c.deref.ensures.value) _ c.in_err-rest.ensures.stopped)

pub returns-clause-answered : goal.returns-clause-answered
returns-clause-answered g c = λ line k.
    let end = c.args.self.now.kept + c.args.fresh in
    has_read _ _ c.args.self.now line c.args.fresh (take end c.args.self.now.buffer.items) _ k refl
    _ _ c.in_ok-rest.rest c.in_ok-rest.lost _
    (λ dropped d. subst (λ bytes. HasComeTo g.O.Sink.tells c.args.session.now dropped (take end bytes) (g.O.Sink.taken c.args.out.now) c.answer_lines.new.session c.in_ok-rest.rest c.in_ok-rest.lost (g.O.Sink.taken c.answer_lines.new.out)) c.deref.ensures.value (c.in_ok-rest.ensures.answered dropped d))
    c.keep.ensures.keeps
