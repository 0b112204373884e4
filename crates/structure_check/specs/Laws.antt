-- What the first broken place of an automaton is to its acceptance.
use Rattle.std.specs.Prelude.{◌≡◌, ℕ, List}
use Rattle.tile_model.specs.Tessellations.{TileKind}
use Rattle.tree_model.specs.Automata.{TreeAutomaton}
use Rattle.tree_model.specs.Conditions.{IsAccepted}
use Rattle.structure_check.specs.Broken.{IsFirstBroken}

-- An automaton that meets all conditions has no first broken place.
abbrev pub BrokenRefutes : Type 0
BrokenRefutes =
    (kinds : List TileKind) (a : TreeAutomaton) (c f s : ℕ)
    → IsFirstBroken kinds a c f s → ¬ IsAccepted kinds a

-- An automaton has one first broken place at most.
abbrev pub OneFirstBroken : Type 0
OneFirstBroken =
    (kinds : List TileKind) (a : TreeAutomaton) (c f s c' f' s' : ℕ)
    → IsFirstBroken kinds a c f s → IsFirstBroken kinds a c' f' s'
    → (c ≡ c') × (f ≡ f') × (s ≡ s')
