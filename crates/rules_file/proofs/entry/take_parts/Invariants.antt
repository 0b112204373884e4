-- The parts are those of the members so far, and what is left reads as the whole did.
use Rattle.std.proofs.Common.{◌≡◌, length}
use Rattle.serde_json.specs.Data.{object, Members, no_members}
use Rattle.rules_file.specs.Taking.{members_read}
use Rattle.rules_file.proofs.entry.take_parts.Given as goal

abbrev pub invariant-members : goal.invariant-members
invariant-members g l =
    (found : Members) × (members_read l.depth no_members l.initial.reader ≡ members_read l.depth found l.reader) × g.P.Parts.fits l.ranked (object found) l.parts

abbrev pub decreases-members : goal.decreases-members
decreases-members g l = length l.reader
