use Rattle.command_text.proofs.Begins.{on_ok}
use Rattle.command_text.proofs.Forms.{one_word, spells, spells_none, unknown}
use Rattle.command_text.proofs.command.read_command.Goals as goal

pub returns-in_default-clause-bad : goal.returns-in_default-clause-bad
returns-in_default-clause-bad c = λ _. one_word c.args.line.now c.in_default.ensures.none

pub returns-in_default-verb_of-clause-bad : goal.returns-in_default-verb_of-clause-bad
returns-in_default-verb_of-clause-bad c = λ _.
    unknown c.args.line.now c.in-Some.word.now c.in-Some.rest.now c.in-Some.ensures.split
    c.in-Some.ensures.first c.in_default-verb_of.ensures.none

pub returns-clause-bad : goal.returns-clause-bad
returns-clause-bad c = λ is_bad.
    spells_none c.args.line.now c.in-Some.word.now c.in-Some.rest.now c.in-Some.ensures.split
    c.in-Some.ensures.first c.in-Some-verb_of.verb c.in-Some-verb_of.ensures.some
    (c.read_told.ensures.bad is_bad)

pub returns-clause-spelt : goal.returns-clause-spelt
returns-clause-spelt c =
    on_ok c.read_told.result
    (λ command. spells c.args.line.now c.in-Some.word.now c.in-Some.rest.now c.in-Some-verb_of.verb command c.in-Some.ensures.split c.in-Some-verb_of.ensures.some)
    c.read_told.ensures.told
