use Rattle.std.proofs.Common.{◌≡◌, ◌++◌, drop}
use Rattle.walker_run.specs.Lines.{numbers_text, numbered}
use Rattle.walker_run.proofs.line.print_line.Given as goal

abbrev pub invariant-loop-n : goal.invariant-loop-n
invariant-loop-n l = l.line.items ++ numbers_text (drop l.n-index l.numbers) ≡ numbered l.text l.numbers
