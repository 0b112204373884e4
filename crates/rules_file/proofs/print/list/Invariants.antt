-- The values printed so far, with what is left, are the whole list, and the numbers of those printed fit.
use Rattle.std.proofs.Common.{◌≡◌, ◌++◌, ℕ, ◌<◌, get_or, drop, map}
use Rattle.serde_json.specs.View.{view}
use Rattle.rules_file.proofs.print.list.Given as goal

abbrev pub invariant-loop-value : goal.invariant-loop-value
invariant-loop-value g l = record {
  json : map view l.printed.items ++ map g.T.Printed.json (drop l.value-index l.values) ≡ map g.T.Printed.json l.values;
  fits : (k : ℕ) (d : g.row.T.Denot) → k < l.value-index → g.T.Printed.fits (get_or l.values k d);
}
