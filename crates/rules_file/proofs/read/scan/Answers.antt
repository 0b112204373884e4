-- One value, and nothing behind it.
use Rattle.std.proofs.Common.{◌≡◌, None, IfSome, IfNone, vec_items, sym, subst, arith}
use Rattle.json.specs.Reads.{token_of}
use Rattle.rules_file.specs.Faults.{IsNoObject}
use Rattle.rules_file.specs.Parts.{HasTables}
use Rattle.rules_file.specs.Taking.{value_read}
use Rattle.rules_file.proofs.Taking.{text_broken}
use Rattle.rules_file.proofs.Fitting.{has_ended, has_more}
use Rattle.rules_file.proofs.read.scan.Goals as goal

pub returns-in_err-tables-clause-err : goal.returns-in_err-tables-clause-err
returns-in_err-tables-clause-err c refused =
    text_broken c.args.text.now (subst (λ ts. value_read 127 ts ≡ None) c.in_ok-reader.ensures.ok (c.in_err-tables.ensures.err (grind arith)))

pub returns-then-is_some-clause-err : goal.returns-then-is_some-clause-err
returns-then-is_some-clause-err c refused =
    has_more token_of c.args.text.now c.in_ok-reader.reader _ _ c.next.result c.in_ok-reader.ensures.ok c.in_ok-tables.ensures.passed c.next.ensures.value c.if-is_some.ensures

pub returns-clause-text : goal.returns-clause-text
returns-clause-text c =
    let end = has_ended token_of c.args.text.now c.in_ok-reader.reader _ _ c.next.result c.in_ok-reader.ensures.ok c.in_ok-tables.ensures.passed c.next.ensures.value c.if-is_some.ensures in
    end.0

pub returns-clause-some : goal.returns-clause-some
returns-clause-some c =
    let end = has_ended token_of c.args.text.now c.in_ok-reader.reader _ _ c.next.result c.in_ok-reader.ensures.ok c.in_ok-tables.ensures.passed c.next.ensures.value c.if-is_some.ensures in
    subst (λ d. IfSome c.in_ok-tables.tables (λ t. HasTables vec_items vec_items vec_items c.args.ranked d t.version t.scale t.roots t.corners t.states))
    (sym end.1) c.in_ok-tables.ensures.some

pub returns-clause-object : goal.returns-clause-object
returns-clause-object c =
    let end = has_ended token_of c.args.text.now c.in_ok-reader.reader _ _ c.next.result c.in_ok-reader.ensures.ok c.in_ok-tables.ensures.passed c.next.ensures.value c.if-is_some.ensures in
    subst (λ d. IfSome c.in_ok-tables.tables (λ t. ¬ IsNoObject d)) (sym end.1) c.in_ok-tables.ensures.object

pub returns-clause-none : goal.returns-clause-none
returns-clause-none c =
    let end = has_ended token_of c.args.text.now c.in_ok-reader.reader _ _ c.next.result c.in_ok-reader.ensures.ok c.in_ok-tables.ensures.passed c.next.ensures.value c.if-is_some.ensures in
    subst (λ d. IfNone c.in_ok-tables.tables (IsNoObject d)) (sym end.1) c.in_ok-tables.ensures.none
