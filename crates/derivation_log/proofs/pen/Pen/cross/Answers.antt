use Rattle.derivation_log.proofs.Steps.{crossed_tree, crossed_left}
use Rattle.derivation_log.proofs.pen.Pen.cross.Goals as goal

pub returns-in_ok-hop-in-Parent-clause-crossed : goal.returns-in_ok-hop-in-Parent-clause-crossed
returns-in_ok-hop-in-Parent-clause-crossed c =
    crossed_tree c.args.r.now c.rule.ensures.sound c.args.self.now c.hop.new.self c.requires c.in_ok-hop-in-Parent.ensures

pub returns-in_ok-go_round-in-Left-clause-crossed : goal.returns-in_ok-go_round-in-Left-clause-crossed
returns-in_ok-go_round-in-Left-clause-crossed c =
    crossed_left c.args.r.now c.rule.ensures.sound c.args.self.now c.go_round.new.self c.requires c.in_ok-go_round-in-Left.ensures
