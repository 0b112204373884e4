-- A side is below 64.
use Rattle.std.proofs.Common.{◌≡◌, ap, ◌∙◌, subst}
use Rattle.region_grower.specs.Ways.{IsRadius}
use Rattle.look_classes.specs.Tree.{distance}
use Rattle.state_candidates.proofs.Joined.{dart_few}
use Rattle.state_candidates.proofs.darts.Stop.at.Goals as goal

pub returns-clause-stop : goal.returns-clause-stop
returns-clause-stop c =
    let r = c.args.region.now in
    let cell : c.d.inside.cell ≡ c.args.d.0 = ap (λ d. d.0) c.d.view_is in
    record {
      live = c.requires.dart.live;
      side = dart_few r.table c.requires.table c.args.d c.requires.dart;
      value = c.distance.ensures.value ∙ ap (distance r) cell;
      radius = subst (λ x. IsRadius r.table x c.distance.result) cell c.distance.ensures.radius;
      few = c.distance.ensures.at_most;
    }
