use Rattle.std.proofs.Common.{sym}
use Rattle.ring_listing.specs.Rings.{IsFirstTooBigRing}
use Rattle.ring_listing.proofs.Told.{of_tree}
use Rattle.ring_listing.proofs.sizes.count.Goals as goal

pub returns-clause-too_big : goal.returns-clause-too_big
returns-clause-too_big c = λ q e.
    of_tree (λ x k. IsFirstTooBigRing x.kinds x.automaton k c.args.d q) c.new.result.rules c.args.r.now c.new.result.kind c.args.kind c.new.ensures.rules c.new.ensures.kind (c.count.ensures.too_big q e)

pub returns-clause-big : goal.returns-clause-big
returns-clause-big c = λ q near h.
    c.count.ensures.big q near (of_tree (λ x k. IsFirstTooBigRing x.kinds x.automaton k c.args.d q) c.args.r.now c.new.result.rules c.args.kind c.new.result.kind (sym c.new.ensures.rules) (sym c.new.ensures.kind) h)
