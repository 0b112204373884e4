use Rattle.std.proofs.Common.{◌∙◌, ◌++◌, ap}
use Rattle.log_checker.specs.declared.trail.TheConstants.{LIMIT}
use Rattle.log_checker.specs.Trails.{joined}
use Rattle.log_checker.proofs.Pieces.{joined_push, cut_from}
use Rattle.log_checker.proofs.trail.pieces_of.Goals as goal

pub loop-rest-preserved : goal.loop-rest-preserved
loop-rest-preserved c =
    cut_from c.loop-rest.pieces.items c.push.new.self.items LIMIT c.in_ok-copied.field-0 c.split_at.result.0.now c.split_at.result.1.now c.loop-rest.rest.now c.in_ok-push.ensures.items c.in_ok-copied.ensures c.split_at.ensures.front c.split_at.ensures.back ∙ c.loop-rest.invariant

pub returns-clause-joined : goal.returns-clause-joined
returns-clause-joined c =
    ap joined c.in_ok-push-2.ensures.items ∙ joined_push c.loop-rest.pieces.items c.in_ok-copied-2.field-0 ∙ ap (λ m. joined c.loop-rest.pieces.items ++ m) c.in_ok-copied-2.ensures ∙ c.loop-rest.invariant
