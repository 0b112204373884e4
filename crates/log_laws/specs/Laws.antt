-- What the log of a crossing comes to.
use Rattle.std.specs.Prelude.{◌≡◌, ℕ, ◌<◌, List, ◌∷◌, ◌++◌, length, true}
use Rattle.tile_model.specs.declared.Letter.{Letter}
use Rattle.tile_model.specs.declared.Letter.TheVariants.{X}
use Rattle.tile_model.specs.Tessellations.{TileKind}
use Rattle.tile_model.specs.Relation.{Change, Changes, Lead}
use Rattle.tree_model.specs.Automata.{TreeAutomaton}
use Rattle.tree_model.specs.Positions.{Position, IsPosition, MatchesLeftwards}
use Rattle.tree_model.specs.Places.{position_word}
use Rattle.tree_laws.specs.Directions.{Runs}
use Rattle.log_laws.specs.Logs.{inserted, crossing_log, contour_log}

-- a change leads from a walk to one walk
abbrev pub ChangesAreFunctions : Type 0
ChangesAreFunctions =
    (kinds : List TileKind) (d : ℕ × ℕ) (c : Change) (u v w : List Letter)
    → Changes kinds d c u v → Changes kinds d c u w → v ≡ w

module _ (kinds : List TileKind) (a : TreeAutomaton) (k : ℕ) where
  -- The log of a crossing leads from the word of the Left side and X to the word of the Right side,
  -- whatever letters follow.
  abbrev pub CrossingsAreLogged : Type 0
  CrossingsAreLogged =
      (x y : Position) → IsPosition kinds a k x → (m : MatchesLeftwards kinds a k x y)
      → (rest : List Letter)
      → Lead kinds (k, 0) (crossing_log kinds a k m)
      (position_word x ++ (X ∷ rest)) (position_word y ++ rest)

  -- The walk along the contour, which searches nothing, writes this log behind its first change.
  abbrev pub ContoursWriteLogs : Type 0
  ContoursWriteLogs =
      (x y : Position) (m : MatchesLeftwards kinds a k x y) (most n : ℕ)
      → Runs kinds a k true most n x 1 y → (f : ℕ) → n < f
      → inserted (length (position_word x)) 5 ∷ contour_log kinds a k f x 1
      ≡ crossing_log kinds a k m
