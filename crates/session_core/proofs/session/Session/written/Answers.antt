use Rattle.std.proofs.Common.{length, ap, ◌∙◌, subst}
use Rattle.lazy_map.specs.Texts.{HasNoDoubles}
use Rattle.session_core.specs.Sessions.{SessionState}
use Rattle.session_core.proofs.Written.{have_texts}
use Rattle.session_core.proofs.session.Session.written.Goals as goal

pub returns-clause-tiles : goal.returns-clause-tiles
returns-clause-tiles c = λ history stands.
    let same = ap (λ (s : SessionState). s.texts) c.self.view_is in
    have_texts _ _ history stands c.len.result (c.len.ensures.count ∙ ap length same)
    (subst HasNoDoubles same c.len.ensures.no_doubles)
