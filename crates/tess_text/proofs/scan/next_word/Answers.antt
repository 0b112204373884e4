use Rattle.std.proofs.Common.{arith}
use Rattle.std.proofs.lemmas.Bool.Decides.{nat_tests}
use Rattle.tess_text.proofs.Cutting.{word_first, word_later, words_none}
use Rattle.tess_text.proofs.scan.next_word.Goals as goal

pub returns-then-end-gt0 : goal.returns-then-end-gt0
returns-then-end-gt0 c = cc (word_first c.loop-rest.rest.now (omega (arith, c.word_end-end.ensures)), c.word_end-end.ensures, c.behind-after.ensures)

pub loop-rest-preserved : goal.loop-rest-preserved
loop-rest-preserved c = cc (word_later c.loop-rest.rest.now (omega (arith, c.word_end-end.ensures)) (grind (arith, nat_tests)), c.word_end-end.ensures, c.behind-after.ensures)

pub returns : goal.returns
returns c = cc (words_none c.loop-rest.rest.now (grind (arith, nat_tests)))
