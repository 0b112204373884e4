-- What is printed is the walk's text, and no other walk has it.
use Rattle.std.proofs.Common.{map, ap, sym, ◌∙◌}
use Rattle.tile_model.specs.WalkTexts.{letter_code}
use Rattle.tile_model.proofs.WalkTexts.{one_walk}
use Rattle.walk_words.proofs.Codes.{text_of_codes}
use Rattle.walk_words.proofs.Ended.{all_written}
use Rattle.walk_words.proofs.text.print_walk.Goals as goal

pub returns-clause-no_other : goal.returns-clause-no_other
returns-clause-no_other c = λ walk is.
    let written = all_written letter_code c.loop-x.text.items c.letters-x-items.result.now c.loop-x.x-index c.loop-x-test.false c.loop-x.invariant in
    let codes = text_of_codes c.args.w.now (λ empty. absurd (cc (c.is_empty.ensures.1 empty, c.if-is_empty.false))) in
    one_walk walk c.args.w.now (is ∙ (written ∙ (ap (map letter_code) c.letters-x-items.ensures ∙ sym codes)))
