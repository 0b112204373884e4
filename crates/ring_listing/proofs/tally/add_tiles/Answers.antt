use Rattle.std.proofs.Common.{◌≡◌, ◌+◌, ◌*◌, refl, ap, ◌∙◌, arith}
use Rattle.ring_listing.specs.Populations.{tiles_sum}
use Rattle.ring_listing.proofs.Sums.{one_of_all, sum_with}
use Rattle.ring_listing.proofs.tally.add_tiles.Goals as goal

pub overflow_add-next : goal.overflow_add-next
overflow_add-next c = omega (arith, one_of_all 0 c.args.next.now c.args.state, c.requires.few)

pub returns : goal.returns
returns c = λ f.
    let place : 0 + c.args.state ≡ c.args.state = omega arith in
    sum_with f 0 c.args.next.now c.args.state _ c.args.more c.requires.state refl ∙ ap (λ s. tiles_sum f 0 c.args.next.now + c.args.more * f s) place
