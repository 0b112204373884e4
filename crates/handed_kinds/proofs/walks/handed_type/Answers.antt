-- Where the walk leads in the expansion.
use Rattle.std.proofs.Common.{◌≡◌, ap, ◌∙◌}
use Rattle.handed_kinds.specs.HandedWalks.{handed_type}
use Rattle.handed_kinds.specs.Expansion.{flat}
use Rattle.handed_kinds.proofs.FlatWalks.{walk_flat, arrived}
use Rattle.handed_kinds.proofs.walks.handed_type.Goals as goal

pub returns-clause-flat : goal.returns-clause-flat
returns-clause-flat c =
    let value : c.loop-x.at ≡ handed_type c.args.h.now c.args.from c.args.w.now = arrived c.args.h.now c.loop-x.at c.args.from c.letters-x-items.result.now c.args.w.now c.loop-x.x-index c.loop-x-test.false c.loop-x.invariant.reached in
    ap (λ t. flat c.args.h.now t) value ∙ walk_flat c.args.h.now c.kinds-valid.ensures.valid c.args.from c.args.w.now
