use Rattle.std.proofs.Common.{◌≡◌, ◌++◌, drop}
use Rattle.tess_text.specs.Text.{numbers_text}
use Rattle.tess_text.proofs.print.push_numbers.Given as goal

abbrev pub invariant-loop-n : goal.invariant-loop-n
invariant-loop-n l = l.out.items ++ numbers_text (drop l.n-index l.numbers) ≡ l.initial.out.items ++ numbers_text l.numbers
