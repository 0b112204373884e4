-- The fault of a list for the fault of a count.
use Rattle.ring_listing.specs.declared.fault.CountFault.{CountFault}
use Rattle.ring_listing.specs.declared.fault.CountFault.TheVariants as count
use Rattle.ring_listing.specs.declared.fault.RingFault.{RingFault}
use Rattle.ring_listing.specs.declared.fault.RingFault.TheVariants as ring

abbrev pub ring_fault : CountFault → RingFault
ring_fault count.Far = ring.Far
ring_fault (count.TooBig r) = ring.TooBig r
ring_fault count.Memory = ring.Memory
