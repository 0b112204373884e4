use Rattle.reply_laws.proofs.Together as together
use Rattle.session_core.proofs.laws.interleaving.Goals as goal

pub returns-clause-one_reply : goal.returns-clause-one_reply
returns-clause-one_reply c =
    let s = c.automaton-automaton.ensures.sound in
    together.one_reply_over_tree _ _ c.args.kind s.valid s.accepted c.requires

pub returns-clause-interleavings : goal.returns-clause-interleavings
returns-clause-interleavings c =
    let s = c.automaton-automaton.ensures.sound in
    together.interleavings_over_tree _ _ c.args.kind s.valid s.accepted c.requires

pub returns-clause-one_reply_over_walks : goal.returns-clause-one_reply_over_walks
returns-clause-one_reply_over_walks c =
    let s = c.automaton-automaton.ensures.sound in
    together.one_reply_over_walks _ _ c.args.kind s.valid s.accepted c.requires

pub returns-clause-interleavings_over_walks : goal.returns-clause-interleavings_over_walks
returns-clause-interleavings_over_walks c =
    let s = c.automaton-automaton.ensures.sound in
    together.interleavings_over_walks _ _ c.args.kind s.valid s.accepted c.requires
