-- What has been taken so far.
use Rattle.std.proofs.Common.{length}
use Rattle.rules_file.proofs.Entries.{HasTaken}
use Rattle.rules_file.proofs.entry.take_entries.Given as goal

abbrev pub invariant-entries : goal.invariant-entries
invariant-entries g l = HasTaken (g.T.Entry.spells l.ranked) l.depth l.initial.reader l.reader l.found.items

abbrev pub decreases-entries : goal.decreases-entries
decreases-entries g l = length l.reader
