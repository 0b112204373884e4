-- A list of handed kinds with a fault is not valid.
use Rattle.std.proofs.Common.{List}
use Rattle.handed_kinds.specs.Handed.{HandedKind}
use Rattle.handed_kinds.specs.HandedValidity.{IsHandedValid}
use Rattle.tile_model.specs.declared.fault.KindFault.{KindFault}
use Rattle.tile_model.specs.declared.fault.KindFault.TheVariants.{Count, Sides, Repeat, Partner, Valence, Involution, Corner}
use Rattle.handed_kinds.specs.HandedFaults.{IsHandedFault}

pub refuted : (hs : List HandedKind) (fault : KindFault) → IsHandedFault hs fault → IsHandedValid hs → ⊥
refuted hs Count h valid = h valid.count
refuted hs (Sides k s) h valid = h.2.fails (valid.sides k h.2.is_kind)
refuted hs (Repeat k s) h valid = h.3.fails (valid.repeat k h.3.is_kind)
refuted hs (Partner k s) h valid = h.1.fails (valid.partner (k, s) h.1.is_side)
refuted hs (Valence k s) h valid = h.2.fails (valid.valence (k, s) h.2.is_side)
refuted hs (Involution k s) h valid = h.3.fails (valid.involution (k, s) h.3.is_side)
refuted hs (Corner k s) h valid = h.4.fails (valid.corner (k, s) h.4.is_side)
