-- What splitting the cone types of a base automaton by the looks of their corners comes to.
use Rattle.std.specs.Prelude.{ℕ, ◌≤◌, length}
use Rattle.tree_looks.specs.declared.limits.Limits.{Limits}
use Rattle.tree_looks.specs.declared.splitting.Split.{Split}
use Rattle.tree_looks.specs.declared.splitting.Split.TheVariants.{Types, Open}

-- There is a cone type for the root of each of so many kinds, and there are no more than may be; or
-- no more open corners are told than may be.
abbrev pub IsWithin : ℕ → Limits → Split → Type 0
IsWithin kinds limits (Types types) =
    (kinds ≤ length types.items) × (length types.items ≤ limits.types)
IsWithin kinds limits (Open corners) = length corners.items ≤ limits.open
