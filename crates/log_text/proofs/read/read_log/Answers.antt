-- Bytes that are left begin with the first bad line, which the laws tell apart from all else.
use Rattle.std.proofs.Common.{◌+◌, ap, inl, arith}
use Rattle.std.proofs.lemmas.Bool.Decides.{nat_tests}
use Rattle.log_text.specs.declared.read.LogTextFault.TheVariants.{Line}
use Rattle.log_text.proofs.Logs.{bad_behind, all_read}
use Rattle.log_text.proofs.read.read_log.Goals as goal

pub returns-then-not-is_empty-clause-every_text : goal.returns-then-not-is_empty-clause-every_text
returns-then-not-is_empty-clause-every_text c = λ log texts text.
    let read = c.in_ok-log.ensures in
    let bad = bad_behind c.args.bytes.now c.in_ok-log.rest.now c.in_ok-log.log.items (c.len.result + 1) read.texts read.split read.bad (grind (arith, nat_tests)) (omega arith) in
    absurd (c.text_laws.ensures.no_log c.args.bytes.now (c.len.result + 1) bad log texts text)

pub returns-then-not-is_empty-clause-every_bad_line : goal.returns-then-not-is_empty-clause-every_bad_line
returns-then-not-is_empty-clause-every_bad_line c = λ n given.
    let read = c.in_ok-log.ensures in
    let bad = bad_behind c.args.bytes.now c.in_ok-log.rest.now c.in_ok-log.log.items (c.len.result + 1) read.texts read.split read.bad (grind (arith, nat_tests)) (omega arith) in
    inl (ap Line (c.text_laws.ensures.one_line c.args.bytes.now (c.len.result + 1) n bad given))

pub returns-clause-every_bad_line : goal.returns-clause-every_bad_line
returns-clause-every_bad_line c = λ n bad.
    let read = c.in_ok-log.ensures in
    let text = all_read c.args.bytes.now c.in_ok-log.rest.now c.in_ok-log.log.items read.split (grind (arith, nat_tests)) in
    c.text_laws.ensures.no_log c.args.bytes.now n bad c.in_ok-log.log.items read.texts text
