-- What sessions are opened over.
use Rattle.std.proofs.Common.{◌≡◌, ℕ, ◌<◌, List, length}
use Rattle.tile_model.specs.Tessellations.{TileKind}
use Rattle.tree_model.specs.Automata.{TreeAutomaton}
use Rattle.walker_run.specs.Effects.{End, Opens}
use Rattle.walker_c.specs.Opening.{IsLearning, learning, no_cells}

-- the kind is one of the tessellation
pub learnt_kind :
    (tess : List ℕ) (cells k : ℕ) (end : End) → IsLearning tess cells k end
    → (kinds : List TileKind) (a : TreeAutomaton) (kind : ℕ) → end ≡ Opens kinds a kind
    → kind < length kinds
learnt_kind tess cells k _ (learning end within opening) kinds a kind e =
    (opening.carried.ready kinds a kind e).1
learnt_kind tess cells k _ (no_cells none) kinds a kind e = absurd (cc)
