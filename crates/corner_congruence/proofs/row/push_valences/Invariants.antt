-- The side that the loop has come to has a type.
use Rattle.tile_model.specs.Tessellations.{IsType}
use Rattle.corner_congruence.proofs.row.push_valences.Given as goal

abbrev pub invariant-loop : goal.invariant-loop
invariant-loop l = IsType l.tess l.at
