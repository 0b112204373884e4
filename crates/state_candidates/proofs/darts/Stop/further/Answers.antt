-- One tile further.
use Rattle.std.proofs.Common.{◌≡◌, ap, ◌∙◌, sym, subst, Some}
use Rattle.region_grower.specs.Ways.{IsRadius}
use Rattle.region_grower.specs.Corners.{further}
use Rattle.look_classes.specs.Tree.{distance}
use Rattle.state_candidates.proofs.Joined.{next_stop}
use Rattle.state_candidates.proofs.darts.Stop.further.Goals as goal

pub returns-clause-some : goal.returns-clause-some
returns-clause-some c =
    let r = c.args.region.now in
    let cell : c.next.inside.cell ≡ c.in_ok-next.next.0 = ap (λ d. d.0) c.next.view_is in
    let joined : further r.table c.args.self.dart ≡ Some c.in_ok-next.next = sym c.further.ensures.value ∙ c.in_ok-next.was in
    next_stop r c.further.ensures.table c.args.self.dart c.args.self.distance c.requires c.in_ok-next.next c.distance.result joined record {
      live = c.in_ok-next.ensures.live;
      side = c.in_ok-next.ensures.side;
      value = c.distance.ensures.value ∙ ap (distance r) cell;
      radius = subst (λ x. IsRadius r.table x c.distance.result) cell c.distance.ensures.radius;
      few = c.distance.ensures.at_most;
    }
