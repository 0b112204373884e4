use Rattle.std.proofs.Common.{◌≡◌, None, Some, ◌∙◌}
use Rattle.short_numbers.specs.Numbers.{number}
use Rattle.tess_text.proofs.Numbers.{word_none, word_byte}
use Rattle.tess_text.proofs.entry.small_number.Goals as goal

pub returns-in_err-read_number : goal.returns-in_err-read_number
returns-in_err-read_number c =
    let none : None ≡ number c.args.word.now = c.in_err-read_number.ensures.value in
    c.from_residual.ensures ∙ word_none c.args.word.now none

pub returns : goal.returns
returns c =
    let some : Some c.in_ok-read_number.field-0 ≡ number c.args.word.now = c.in_ok-read_number.ensures.value in
    word_byte c.args.word.now c.in_ok-read_number.field-0 c.try_from.result some c.try_from.ensures c.ok.ensures.value
