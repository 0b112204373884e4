-- The text of the changes so far, and the bytes that are left, are all bytes.
use Rattle.std.proofs.Common.{◌≡◌, ◌++◌, length}
use Rattle.std.specs.Prelude.{All}
use Rattle.log_model.specs.LogTexts.{HasText, log_text}
use Rattle.log_text.proofs.read.read_changes.Given as goal

abbrev pub invariant-loop-line : goal.invariant-loop-line
invariant-loop-line l = record {
  have_text : All HasText l.log.items;
  split : l.bytes ≡ log_text l.log.items ++ l.rest;
}

abbrev pub decreases-loop-line : goal.decreases-loop-line
decreases-loop-line l = length l.rest
