-- One side after the other.
use Rattle.std.proofs.Common.{sym, subst}
use Rattle.coincidence.specs.Joined.{IsTable}
use Rattle.region_grower.specs.Passes.{HasPassed}
use Rattle.region_grower.proofs.Passes.{passed_none, passed_on}
use Rattle.region_grower.proofs.corners.close_round.Goals as goal

pub loop-side-init : goal.loop-side-init
loop-side-init c = passed_none c.args.joins.now c.requires c.requires

pub loop-side-preserved : goal.loop-side-preserved
loop-side-preserved c =
    let first = c.args.joins.now in
    let last = c.close_whole-now.new.joins in
    let on = passed_on {F = IsTable} first c.loop-side.joins last c.loop-side.changed c.close_whole-now.result c.requires (λ table _. table) c.loop-side.invariant c.close_whole-now.ensures in
    subst (λ b. HasPassed first last b IsTable) (sym c.either-changed.ensures) on
