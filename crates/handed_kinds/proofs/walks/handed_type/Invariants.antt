-- From the type reached, the letters that are left lead where the walk leads.
use Rattle.std.proofs.Common.{◌≡◌, drop}
use Rattle.handed_kinds.specs.Handed.{IsHandedType}
use Rattle.handed_kinds.specs.HandedWalks.{handed_type}
use Rattle.handed_kinds.proofs.walks.handed_type.Given as goal

abbrev pub invariant-loop-x : goal.invariant-loop-x
invariant-loop-x l = record { is_type : IsHandedType l.h l.at; reached : handed_type l.h l.at (drop l.x-index l.x-items) ≡ handed_type l.h l.fn.from l.w }
