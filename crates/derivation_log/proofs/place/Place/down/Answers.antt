use Rattle.std.proofs.Common.{ap, arith, length}
use Rattle.tree_model.specs.Names.{word}
use Rattle.tree_model.specs.Positions.{Position}
use Rattle.tree_model.specs.Places.{position_word}
use Rattle.spot_laws.specs.Spots.{TreeSpot, position}
use Rattle.derivation_log.proofs.Letters.{word_down}
use Rattle.derivation_log.proofs.place.Place.down.Goals as goal

pub invariant_of-self-2 : goal.invariant_of-self-2
invariant_of-self-2 c =
    let s = c.self.inside.spot in
    let name = ap (λ (p : Position). length (word p.name)) c.in_ok-down.ensures.child.stands in
    let here = ap (λ (t : TreeSpot). length (position_word (position t))) c.self.view_is in
    omega (arith, name, here, word_down s.name s.spin, c.in_ok-letters.ensures, c.in_ok-end.ensures)
