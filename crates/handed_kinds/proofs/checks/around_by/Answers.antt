-- One tile further is once more `around`.
use Rattle.std.proofs.Common.{ap, sym, ◌∙◌}
use Rattle.handed_kinds.specs.Handed.{around}
use Rattle.handed_kinds.proofs.Sized.{around_next}
use Rattle.handed_kinds.proofs.checks.around_by.Goals as goal

pub loop-tile-preserved : goal.loop-tile-preserved
loop-tile-preserved c = record {
  is_type = c.around_of-at.ensures.is_type;
  value = c.around_of-at.ensures.value ∙ (ap (λ d. around c.args.kinds.now d) c.loop-tile.invariant.value ∙ sym (around_next c.args.kinds.now c.loop-tile.tile c.args.t));
}
