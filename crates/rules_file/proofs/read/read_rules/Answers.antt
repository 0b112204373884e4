-- A text has one answer.
use Rattle.rules_file.proofs.Unique.{complete_answer, misshapen_answer}
use Rattle.rules_file.proofs.read.read_rules.Goals as goal

pub returns-in-Ok-clause-complete : goal.returns-in-Ok-clause-complete
returns-in-Ok-clause-complete c =
    let told = c.read_text.ensures in
    λ a. complete_answer c.in-Ok.text.now c.args.bytes.now c.read_text.result a c.in-Ok.ensures.cases.0 told.text told.ok told.err

pub returns-in-Ok-clause-misshapen : goal.returns-in-Ok-clause-misshapen
returns-in-Ok-clause-misshapen c =
    let told = c.read_text.ensures in
    λ d part i. misshapen_answer c.in-Ok.text.now c.args.bytes.now d c.read_text.result part i c.in-Ok.ensures.cases.0 told.text told.ok told.err
