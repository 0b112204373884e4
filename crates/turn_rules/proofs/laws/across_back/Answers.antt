use Rattle.tree_laws.proofs.Together.{across_one, across_is_back, across_partner}
use Rattle.turn_rules.proofs.laws.across_back.Goals as goal

pub returns-clause-one : goal.returns-clause-one
returns-clause-one c =
    let s = c.accepted.ensures in
    across_one c.args.r.now.kinds c.args.r.now.automaton c.args.kind s.valid s.accepted c.requires.kind

pub returns-clause-back : goal.returns-clause-back
returns-clause-back c =
    let s = c.accepted.ensures in
    across_is_back c.args.r.now.kinds c.args.r.now.automaton c.args.kind s.valid s.accepted c.requires.kind

pub returns-clause-partner : goal.returns-clause-partner
returns-clause-partner c =
    let s = c.accepted.ensures in
    across_partner c.args.r.now.kinds c.args.r.now.automaton c.args.kind s.valid s.accepted c.requires.kind
