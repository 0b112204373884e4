-- The dart come to has the name of the first one, and no greater number.
use Rattle.std.proofs.Common.{◌≡◌, ◌+◌, ◌*◌, ◌<◌, ◌≤◌, length}
use Rattle.coincidence.specs.Cells.{name, cell_at}
use Rattle.coincidence.proofs.table.Table.name.Given as goal

abbrev pub invariant-loop-here : goal.invariant-loop-here
invariant-loop-here l = record {
  here : l.here ≡ cell_at l.self.cells.items l.at;
  made : l.at < length l.self.cells.items;
  small : l.turned + 64 * l.at ≤ l.side + 64 * l.cell;
  same : name l.self.cells.items (l.at, l.turned) ≡ name l.self.cells.items (l.cell, l.side);
}

abbrev pub decreases-loop-here : goal.decreases-loop-here
decreases-loop-here l = l.at
