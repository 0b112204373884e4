-- Logs that are written on.
use Rattle.std.specs.Prelude.{ℕ, not, List, ◌++◌}
use Rattle.tile_model.specs.declared.Letter.{Letter}
use Rattle.tile_model.specs.Tessellations.{TileKind}
use Rattle.tile_model.specs.Relation.{Change, Lead}

-- the change that takes a change back
abbrev pub undoing : Change → Change
undoing c = record { at = c.at; loop = c.loop; insert = not c.insert }

-- The log was written on by these changes: it leads wherever the log before and then the changes
-- lead. It need not hold them all, as two that undo each other are not kept.
abbrev pub IsWritten : (before changes log : List Change) → Type 0
IsWritten before changes log =
    (kinds : List TileKind) (d : ℕ × ℕ) (u w : List Letter)
    → Lead kinds d (before ++ changes) u w → Lead kinds d log u w

-- The log was written on by a piece turned round: where the piece leads to the walk to which the
-- log before led, it leads to the walk from which the piece does.
abbrev pub IsWrittenBack : (before piece log : List Change) → Type 0
IsWrittenBack before piece log =
    (kinds : List TileKind) (d : ℕ × ℕ) (u v w : List Letter)
    → Lead kinds d before u w → Lead kinds d piece v w → Lead kinds d log u v
