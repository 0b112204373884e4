use Rattle.std.proofs.Common.{rules, ◌-◌, arith, ap}
use Rattle.weighted_sets.proofs.Hanging.{hung_sets, hung_more_of, some_set}
use Rattle.weighted_sets.proofs.sets.WeightedSets.hang.Goals as goal

-- src/sets.rt:162:9
pub overflow_sub-self : goal.overflow_sub-self
overflow_sub-self c = some_set c.self.inside.links.items c.self.inside.count c.args.root c.self.invariant
    (search rules) (search rules) (omega (arith, c.requires.before))

-- src/sets.rt:154:5
pub invariant_of-self : goal.invariant_of-self
invariant_of-self c = hung_sets c.self.inside.links.items c.args.root
    (record { above = c.args.above; shift = c.args.shift })
    (record { under = search rules; root = search rules; leads = c.requires.before })
    c.self.inside.count (c.self.inside.count - 1) c.self.invariant
    (let some = some_set c.self.inside.links.items c.self.inside.count c.args.root c.self.invariant
    (search rules) (search rules) (omega (arith, c.requires.before)) in omega (arith, some))

-- src/sets.rt:154:5
pub returns-clause-more : goal.returns-clause-more
returns-clause-more c = hung_more_of _ c.self.inside.links.items c.args.root
    (record { above = c.args.above; shift = c.args.shift }) (search rules)
    (record { under = search rules; root = search rules; leads = c.requires.before })
    c.self.inside.count c.self.invariant

-- src/sets.rt:154:5
pub returns-clause-count : goal.returns-clause-count
returns-clause-count c =
    let some = some_set c.self.inside.links.items c.self.inside.count c.args.root c.self.invariant
    (search rules) (search rules) (omega (arith, c.requires.before)) in
    omega (arith, some, ap (λ s. s.count) c.self.view_is)
