-- The first cell alone.
use Rattle.std.proofs.Common.{ℕ, List, [], ◌∷◌, ◌++◌, refl, ap, ◌∙◌}
use Rattle.region_grower.specs.Calls.{started}
use Rattle.region_grower.proofs.Starting.{start_region}
use Rattle.region_grower.proofs.region.Region.start.Goals as goal

pub invariant_of-result : goal.invariant_of-result
invariant_of-result c = start_region c.in_ok-joins.joins c.push.new.self.items c.in_ok-joins.ensures.table c.in_ok-joins.ensures.first.count c.in_ok-joins.ensures.first.unjoined (c.in_ok-push.ensures.items ∙ ap (λ (xs : List ℕ). xs ++ 0 ∷ []) c.new-radii.ensures.items)

pub returns-clause-from : goal.returns-clause-from
returns-clause-from c = started (record { table = c.in_ok-joins.joins; radii = c.push.new.self.items; layers = 0 }) (record {
  first = c.in_ok-joins.ensures.first;
  layers = refl;
  region = (start_region c.in_ok-joins.joins c.push.new.self.items c.in_ok-joins.ensures.table c.in_ok-joins.ensures.first.count c.in_ok-joins.ensures.first.unjoined (c.in_ok-push.ensures.items ∙ ap (λ (xs : List ℕ). xs ++ 0 ∷ []) c.new-radii.ensures.items)).region;
})
