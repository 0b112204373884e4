use Rattle.std.proofs.Common.{◌∙◌, rules}
use Rattle.cell_names.proofs.Reading.{root_alone, spelling_unique}
use Rattle.cell_names.proofs.text.read_name.Goals as goal

pub returns-then-eq-clause-complete : goal.returns-then-eq-clause-complete
returns-then-eq-clause-complete c = λ name spelt short. c.root.ensures ∙ root_alone c.args.bytes.now name (search rules) spelt

pub returns-then-eq-clause-unspelt : goal.returns-then-eq-clause-unspelt
returns-then-eq-clause-unspelt c = λ none. absurd (none c.root.result (search rules))

pub returns-then-eq-clause-unique : goal.returns-then-eq-clause-unique
returns-then-eq-clause-unique c = spelling_unique c.args.bytes.now

pub returns-in_err-name-clause-unique : goal.returns-in_err-name-clause-unique
returns-in_err-name-clause-unique c = spelling_unique c.args.bytes.now
