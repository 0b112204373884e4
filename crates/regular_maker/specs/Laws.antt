-- What the automaton of {p,q} is good for.
use Rattle.std.specs.Prelude.{ℕ, ◌<◌, List, length}
use Rattle.tile_model.specs.Tessellations.{TileKind}
use Rattle.tile_model.specs.Validity.{IsValid}
use Rattle.tree_model.specs.Conditions.{IsAccepted}
use Rattle.endless_laws.specs.Laws.{LeadToTiles}
use Rattle.regular_maker.specs.Regular.{IsRegular, IsInfinite, p_of, q_of}
use Rattle.regular_maker.specs.Automaton.{regular_automaton}

-- Over each regular tessellation with infinitely many tiles it meets the twelve conditions.
abbrev pub RegularIsAccepted : Type 0
RegularIsAccepted =
    (kinds : List TileKind) → IsValid kinds → IsRegular kinds
    → IsInfinite (p_of kinds) (q_of kinds)
    → IsAccepted kinds (regular_automaton (p_of kinds) (q_of kinds))

-- Walks in it never lead to finitely many tiles.
abbrev pub RegularNeverEnds : Type 0
RegularNeverEnds =
    (kinds : List TileKind) → IsValid kinds → IsRegular kinds
    → IsInfinite (p_of kinds) (q_of kinds)
    → (k n : ℕ) → k < length kinds → ¬ (LeadToTiles kinds k n)
