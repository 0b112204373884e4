use Rattle.std.proofs.Common.{◌≡◌, ◌++◌, map, drop}
use Rattle.tess_text.specs.Tables.{table_of}
use Rattle.tess_text.proofs.tables.Tables.finish.Given as goal

abbrev pub invariant-loop-table : goal.invariant-loop-table
invariant-loop-table l = map table_of l.kinds.items ++ drop l.table-index l.self ≡ l.self
