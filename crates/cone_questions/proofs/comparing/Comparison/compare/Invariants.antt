-- No cone type was split yet.
use Rattle.std.proofs.Common.{◌≡◌}
use Rattle.cone_questions.specs.Comparisons.{split_count}
use Rattle.cone_questions.proofs.comparing.Comparison.compare.Given as goal

abbrev pub invariant-loop-length : goal.invariant-loop-length
invariant-loop-length l = record {
  splits : split_count l.self ≡ split_count l.fn.self;
  most : l.patches.most ≡ l.fn.patches.most;
}
