-- What the fields keep is what the table promises.
use Rattle.std.proofs.Common.{subst}
use Rattle.coincidence.specs.Joined.{IsTable}
use Rattle.coincidence.proofs.Kept.{kept_table}
use Rattle.coincidence.proofs.joins.Joins.made.Goals as goal

pub returns-clause-table : goal.returns-clause-table
returns-clause-table c = subst IsTable c.self.view_is (kept_table c.self.inside.tessellation.now c.self.inside.origins.items c.self.inside.table c.self.invariant)
