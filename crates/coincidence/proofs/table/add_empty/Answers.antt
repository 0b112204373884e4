-- The slots that are added are empty.
use Rattle.std.proofs.Common.{◌++◌, cond, ap, ◌∙◌, replicate}
use Rattle.coincidence.specs.Darts.{nowhere, slot_at}
use Rattle.coincidence.proofs.Empty.{slots_added}
use Rattle.coincidence.proofs.table.add_empty.Goals as goal

pub returns-clause-same : goal.returns-clause-same
returns-clause-same c = λ ok n.
    let xs = c.args.slots.now.items in
    ap (λ ss. slot_at ss n) (c.extend_from_slice.ensures.items ∙ ap (λ b. cond b (xs ++ replicate 64 nowhere) xs) ok) ∙ slots_added xs 64 n
