use Rattle.session_core.proofs.Going.{empty_session, empty_stands}
use Rattle.session_core.proofs.session.Session.new.Goals as goal

pub invariant_of-result : goal.invariant_of-result
invariant_of-result c = record {
  session = empty_session _ c.automaton-automaton.ensures.sound c.requires c.in_ok-no_walkers.ensures;
  rules = c.new-2.ensures.rules;
  kind = c.new-2.ensures.kind;
}

pub returns-clause-stands : goal.returns-clause-stands
returns-clause-stands c =
    empty_stands _ _ c.in_ok-no_walkers.ensures c.in_ok-new.ensures.empty

pub returns-clause-stands_over_walks : goal.returns-clause-stands_over_walks
returns-clause-stands_over_walks c =
    empty_stands _ _ c.in_ok-no_walkers.ensures c.in_ok-new.ensures.empty
