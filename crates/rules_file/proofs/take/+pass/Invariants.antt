-- What is left reads as the whole did.
use Rattle.std.proofs.Common.{◌≡◌, ℕ, ◌+◌, ◌*◌, length}
use Rattle.json.specs.Json.{parse_map}
use Rattle.serde_json.specs.Data.{Items, Members, no_members}
use Rattle.rules_file.specs.Taking.{items_read, members_read}
use Rattle.rules_file.proofs.take.+pass.Given as goal

abbrev pub decreases-pass : goal.decreases-pass
decreases-pass l = 2 * l.depth

abbrev pub decreases-pass_items : goal.decreases-pass_items
decreases-pass_items l = 2 * l.depth + 1

abbrev pub decreases-pass_members : goal.decreases-pass_members
decreases-pass_members l = 2 * l.depth + 1

abbrev pub invariant-pass_items-items : goal.invariant-pass_items-items
invariant-pass_items-items l = (front : Items → Items) × (items_read l.depth l.initial.reader ≡ parse_map front (items_read l.depth l.reader))

abbrev pub decreases-pass_items-items : goal.decreases-pass_items-items
decreases-pass_items-items l = length l.reader

abbrev pub invariant-pass_members-members : goal.invariant-pass_members-members
invariant-pass_members-members l = (found : Members) × (members_read l.depth no_members l.initial.reader ≡ members_read l.depth found l.reader)

abbrev pub decreases-pass_members-members : goal.decreases-pass_members-members
decreases-pass_members-members l = length l.reader
