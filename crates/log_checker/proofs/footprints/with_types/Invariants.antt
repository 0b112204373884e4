-- What stands there, and the letters left from the type reached, are the whole.
use Rattle.std.proofs.Common.{◌≡◌, ◌++◌, drop}
use Rattle.tile_model.specs.Tessellations.{IsType}
use Rattle.log_checker.specs.Footprints.{typed}
use Rattle.log_checker.proofs.footprints.with_types.Given as goal

abbrev pub invariant-loop-x : goal.invariant-loop-x
invariant-loop-x l = record { is_type : IsType l.t l.at; whole : l.footprints.items ++ typed l.t l.at (drop l.x-index l.letters) ≡ typed l.t l.fn.from l.letters }
