use Rattle.std.proofs.Common.{Ok, ap}
use Rattle.walker_run.specs.declared.tasks.Work.{Work}
use Rattle.walker_run.specs.Effects.{end_of}
use Rattle.walker_run.proofs.Opened.{opened, nothing_due}
use Rattle.walker_run.proofs.top.carry_through.Goals as goal

pub serve_walkers-requires : goal.serve_walkers-requires
serve_walkers-requires g c =
    (opened _ _ _ _ _ _ c.in-Ok-Serve.rules.kinds c.in-Ok-Serve.rules.automaton c.in-Ok-Serve.kind c.in-Ok-Serve.ensures.decided (ap (λ (w : Work). end_of (Ok w)) c.in-Ok-Serve.field-0-is)).is_kind

pub returns-in-Ok-Serve-clause-unasked : goal.returns-in-Ok-Serve-clause-unasked
returns-in-Ok-Serve-clause-unasked g c = λ none.
    absurd ((opened _ _ _ _ _ _ c.in-Ok-Serve.rules.kinds c.in-Ok-Serve.rules.automaton c.in-Ok-Serve.kind c.in-Ok-Serve.ensures.decided (ap (λ (w : Work). end_of (Ok w)) c.in-Ok-Serve.field-0-is)).of_form none)

pub returns-in-Ok-Serve-clause-unread : goal.returns-in-Ok-Serve-clause-unread
returns-in-Ok-Serve-clause-unread g c = λ told line due.
    absurd (nothing_due _ _ _ _ _ _ c.in-Ok-Serve.rules.kinds c.in-Ok-Serve.rules.automaton c.in-Ok-Serve.kind c.laws_below.ensures c.in-Ok-Serve.ensures.decided (ap (λ (w : Work). end_of (Ok w)) c.in-Ok-Serve.field-0-is) told line due)
