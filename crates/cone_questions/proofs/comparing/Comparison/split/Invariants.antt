-- No cone type was split yet.
use Rattle.std.proofs.Common.{◌≡◌}
use Rattle.cone_questions.specs.Comparisons.{split_count}
use Rattle.cone_questions.proofs.comparing.Comparison.split.Given as goal

abbrev pub invariant-loop-from : goal.invariant-loop-from
invariant-loop-from l = record {
  splits : split_count l.self ≡ split_count l.fn.self;
  most : l.patches.most ≡ l.fn.patches.most;
}
