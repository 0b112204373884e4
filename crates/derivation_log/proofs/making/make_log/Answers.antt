use Rattle.derivation_log.proofs.Far.{one_position}
use Rattle.spot_laws.specs.Spots.{position}
use Rattle.derivation_log.proofs.making.make_log.Goals as goal

pub returns-then-not-stand_together-clause-apart : goal.returns-then-not-stand_together-clause-apart
returns-then-not-stand_together-clause-apart c = λ related.
    let same = one_position c.args.r.now c.accepted.ensures c.args.kind c.requires c.args.u.now c.args.w.now (position c.in_ok-first.first) (position c.in_ok-second.second) c.in_ok-first.ensures.leads c.in_ok-second.ensures.leads related in
    let together = c.stand_together.ensures.1 same in
    absurd (cc)
