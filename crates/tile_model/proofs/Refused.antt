-- A list of kinds with a fault is not valid.
use Rattle.std.proofs.Common.{List}
use Rattle.tile_model.specs.Tessellations.{TileKind}
use Rattle.tile_model.specs.Validity.{IsValid}
use Rattle.tile_model.specs.declared.fault.KindFault.{KindFault}
use Rattle.tile_model.specs.declared.fault.KindFault.TheVariants.{Count, Sides, Repeat, Partner, Valence, Involution, Corner}
use Rattle.tile_model.specs.Faults.{IsFault}

pub refuted : (kinds : List TileKind) (fault : KindFault) → IsFault kinds fault → IsValid kinds → ⊥
refuted kinds Count h valid = h valid.count
refuted kinds (Sides k s) h valid = h.2.fails (valid.sides k h.2.is_kind)
refuted kinds (Repeat k s) h valid = h.3.fails (valid.repeat k h.3.is_kind)
refuted kinds (Partner k s) h valid = h.1.fails (valid.partner (k, s) h.1.is_type)
refuted kinds (Valence k s) h valid = h.2.fails (valid.valence (k, s) h.2.is_type)
refuted kinds (Involution k s) h valid = h.3.fails (valid.involution (k, s) h.3.is_type)
refuted kinds (Corner k s) h valid = h.4.fails (valid.corner (k, s) h.4.is_type)
