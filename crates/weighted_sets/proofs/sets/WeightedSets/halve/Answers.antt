use Rattle.std.proofs.Common.{rules}
use Rattle.weighted_sets.proofs.Halving.{halved_sets, halved_same_of}
use Rattle.weighted_sets.proofs.sets.WeightedSets.halve.Goals as goal

-- src/sets.rt:100:5
pub invariant_of-self : goal.invariant_of-self
invariant_of-self c = halved_sets _ _ _ (record {
  under = search rules;
  before = search rules;
  further = search rules;
  above = search rules;
  place = search rules;
  depth = search rules;
}) _ (search rules)

-- src/sets.rt:100:5
pub returns-clause-same : goal.returns-clause-same
returns-clause-same c = halved_same_of _ c.self.inside.links.items c.args.at (record { above = c.over.inside.above; shift = c.in_ok-plus.field-0 }) (search rules) (record {
  under = search rules;
  before = search rules;
  further = search rules;
  above = search rules;
  place = search rules;
  depth = search rules;
})
