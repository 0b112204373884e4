-- What a dart is joined to is live.
use Rattle.std.proofs.Common.{ℕ, ◌+◌, ap, ap₂, ◌∙◌}
use Rattle.coincidence.specs.Tables.{joined_to}
use Rattle.state_candidates.proofs.Joined.{over_all}
use Rattle.state_candidates.proofs.darts.further.Goals as goal

pub returns-clause-live : goal.returns-clause-live
returns-clause-live c = over_all c.args.region.now.table c.joins.ensures.table (c.args.d.0, c.args.d.1 + 1) c.joined.result (c.joined.ensures.value ∙ ap₂ joined_to c.joins.ensures.value (ap (λ (d : ℕ × ℕ). (d.0, d.1 + 1)) c.d.view_is))
