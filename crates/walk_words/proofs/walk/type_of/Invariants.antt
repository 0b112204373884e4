-- From the type reached, the letters that are left lead where the walk leads.
use Rattle.std.proofs.Common.{◌≡◌, drop}
use Rattle.tile_model.specs.Tessellations.{IsType}
use Rattle.tile_model.specs.Walks.{type_of}
use Rattle.walk_words.proofs.walk.type_of.Given as goal

abbrev pub invariant-loop-x : goal.invariant-loop-x
invariant-loop-x l = record { is_type : IsType l.t l.at; reached : type_of l.t l.at (drop l.x-index l.x-items) ≡ type_of l.t l.fn.from l.w }
