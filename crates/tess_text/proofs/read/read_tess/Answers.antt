use Rattle.std.proofs.Common.{rules, IfErr}
use Rattle.tess_text.specs.Spelling.{IsFaultOf}
use Rattle.tess_text.proofs.OneAnswer.{answer_of, err_answer, answer_spelling, answer_cause, answer_kinds, answer_line, answer_fault}
use Rattle.tess_text.proofs.KindCount.{no_count, err_not_count}
use Rattle.tess_text.proofs.read.read_tess.Goals as goal

pub returns-in_err-version-clause-every_spelling : goal.returns-in_err-version-clause-every_spelling
returns-in_err-version-clause-every_spelling c = λ kinds spelling valid.
    let cause : IfErr c.from_residual.result (IsFaultOf c.args.bytes.now) = search rules in
    answer_kinds c.outcome_law.ensures.not_refused c.args.bytes.now c.from_residual.result kinds (err_answer c.args.bytes.now c.from_residual.result c.from_residual.ensures.0 cause) spelling valid

pub returns-in_err-version-clause-every_refusal : goal.returns-in_err-version-clause-every_refusal
returns-in_err-version-clause-every_refusal c = λ fault refused.
    let cause : IfErr c.from_residual.result (IsFaultOf c.args.bytes.now) = search rules in
    answer_fault c.outcome_law.ensures.not_refused c.outcome_law.ensures.one_refusal c.args.bytes.now c.from_residual.result fault (err_answer c.args.bytes.now c.from_residual.result c.from_residual.ensures.0 cause) refused

pub returns-in_err-version-clause-no_count : goal.returns-in_err-version-clause-no_count
returns-in_err-version-clause-no_count c = no_count c.args.bytes.now

pub returns-in_err-version-clause-never_count : goal.returns-in_err-version-clause-never_count
returns-in_err-version-clause-never_count c =
    let cause : IfErr c.from_residual.result (IsFaultOf c.args.bytes.now) = search rules in
    err_not_count c.args.bytes.now c.from_residual.result cause

pub returns-clause-spelling : goal.returns-clause-spelling
returns-clause-spelling c = answer_spelling c.args.bytes.now c.tess_of.result (answer_of c.args.bytes.now _ _ c.tess_of.result c.in_ok-version.ensures c.tess_of.ensures.made c.tess_of.ensures.valid c.tess_of.ensures.cause)

pub returns-clause-cause : goal.returns-clause-cause
returns-clause-cause c = answer_cause c.args.bytes.now c.tess_of.result (answer_of c.args.bytes.now _ _ c.tess_of.result c.in_ok-version.ensures c.tess_of.ensures.made c.tess_of.ensures.valid c.tess_of.ensures.cause)

pub returns-clause-every_spelling : goal.returns-clause-every_spelling
returns-clause-every_spelling c = λ kinds spelling valid. answer_kinds c.outcome_law.ensures.not_refused c.args.bytes.now c.tess_of.result kinds (answer_of c.args.bytes.now _ _ c.tess_of.result c.in_ok-version.ensures c.tess_of.ensures.made c.tess_of.ensures.valid c.tess_of.ensures.cause) spelling valid

pub returns-clause-every_bad_line : goal.returns-clause-every_bad_line
returns-clause-every_bad_line c = λ n bad. answer_line c.args.bytes.now c.tess_of.result n (answer_of c.args.bytes.now _ _ c.tess_of.result c.in_ok-version.ensures c.tess_of.ensures.made c.tess_of.ensures.valid c.tess_of.ensures.cause) bad

pub returns-clause-every_refusal : goal.returns-clause-every_refusal
returns-clause-every_refusal c = λ fault refused. answer_fault c.outcome_law.ensures.not_refused c.outcome_law.ensures.one_refusal c.args.bytes.now c.tess_of.result fault (answer_of c.args.bytes.now _ _ c.tess_of.result c.in_ok-version.ensures c.tess_of.ensures.made c.tess_of.ensures.valid c.tess_of.ensures.cause) refused

pub returns-clause-no_count : goal.returns-clause-no_count
returns-clause-no_count c = no_count c.args.bytes.now

pub returns-clause-never_count : goal.returns-clause-never_count
returns-clause-never_count c =
    let cause : IfErr c.tess_of.result (IsFaultOf c.args.bytes.now) = answer_cause c.args.bytes.now c.tess_of.result (answer_of c.args.bytes.now _ _ c.tess_of.result c.in_ok-version.ensures c.tess_of.ensures.made c.tess_of.ensures.valid c.tess_of.ensures.cause) in
    err_not_count c.args.bytes.now c.tess_of.result cause
