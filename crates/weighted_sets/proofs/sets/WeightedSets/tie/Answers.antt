use Rattle.std.proofs.Common.{rules}
use Rattle.weighted_sets.proofs.Apart.{already, contradicted}
use Rattle.weighted_sets.proofs.sets.WeightedSets.tie.Goals as goal

-- src/sets.rt:231:17
pub returns-then-eq-clause-more : goal.returns-then-eq-clause-more
returns-then-eq-clause-more c = already c.args.self.now.links c.find_both.new.self.links
    c.in_ok-first.first.root c.args.x c.args.y c.in_ok-first.first.shift c.in_ok-first.second.shift
    c.args.shift (search rules) (search rules) (search rules) (search rules) (search rules)

-- src/sets.rt:233:13
pub returns-then-first-second-clause-contradiction :
    goal.returns-then-first-second-clause-contradiction
returns-then-first-second-clause-contradiction c _ = contradicted c.args.self.now.links
    c.find_both.new.self.links c.in_ok-first.first.root c.args.x c.args.y c.in_ok-first.first.shift
    c.in_ok-first.second.shift c.args.shift (search rules) (search rules) (search rules)
    c.in_ok-wanted.wanted (search rules) (search rules) (search rules)
