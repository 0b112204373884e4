-- To a call at most one line is due, or it serves walkers over one automaton and in the tree of one
-- kind, or it writes a log, and never two of these.
use Rattle.std.specs.Prelude.{◌≡◌, ℕ, List}
use Rattle.tile_model.specs.Tessellations.{TileKind}
use Rattle.tree_model.specs.Automata.{TreeAutomaton}
use Rattle.walker_run.specs.declared.line.Line.{Line}
use Rattle.walker_run.specs.Runs.{Call}
use Rattle.walker_run.specs.Due.{IsDue, Serves, Logs}

abbrev pub OneLineIsDue : Type 0
OneLineIsDue =
    (call : Call) (line other : Line) → IsDue call line → IsDue call other → line ≡ other

abbrev pub OneSessionIsServed : Type 0
OneSessionIsServed =
    (call : Call) (kinds kinds' : List TileKind) (a a' : TreeAutomaton) (k k' : ℕ)
    → Serves call kinds a k → Serves call kinds' a' k'
    → (kinds ≡ kinds') × (a ≡ a') × (k ≡ k')

abbrev pub NeverBoth : Type 0
NeverBoth =
    (call : Call) (line : Line) (kinds : List TileKind) (a : TreeAutomaton) (k : ℕ)
    → IsDue call line → Serves call kinds a k → ⊥

abbrev pub NeverALogToo : Type 0
NeverALogToo = (call : Call) (line : Line) → IsDue call line → Logs call → ⊥
