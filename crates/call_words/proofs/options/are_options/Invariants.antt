use Rattle.std.proofs.Common.{map, length}
use Rattle.std.specs.String.{string_bytes}
use Rattle.call_words.proofs.Pairs.{Same}
use Rattle.call_words.proofs.options.are_options.Given as goal

abbrev pub invariant-loop-rest : goal.invariant-loop-rest
invariant-loop-rest l = Same l.one l.other (map string_bytes l.rest) (map string_bytes l.fn.words)

abbrev pub decreases-loop-rest : goal.decreases-loop-rest
decreases-loop-rest l = length l.rest
