-- What is printed, and the text of the changes that are left, are the text of the log.
use Rattle.std.proofs.Common.{◌≡◌, ◌++◌, drop}
use Rattle.log_model.specs.LogTexts.{log_text}
use Rattle.log_text.proofs.print.print_log.Given as goal

abbrev pub invariant-loop-change : goal.invariant-loop-change
invariant-loop-change l = l.text.items ++ log_text (drop l.change-index l.log) ≡ log_text l.log
