-- Detours: how far the contour has left a spot that itself stays where it is.
use Rattle.std.specs.Prelude.{◌≡◌, ℕ, suc, ◌≤◌, Bool, ◌∷◌, [], ◌++◌, length, replicate}
use Rattle.tile_model.specs.declared.Letter.{Letter}
use Rattle.tile_model.specs.declared.Letter.TheVariants.{X}
use Rattle.structure_check.specs.Rules.{TreeRules, AreSound}
use Rattle.tree_model.specs.Positions.{Position, LiesAcross, Moves, Leads}
use Rattle.spot_laws.specs.Spots.{TreeSpot, IsSpot, position, root_kind, tile_state, rejoined}
use Rattle.tree_model.specs.Contours.{Opens}
use Rattle.tree_laws.specs.Directions.{Goes, turned, mark_towards, most_open}
use Rattle.step_engine.specs.Crossings.{IsDeepAcross}
use Rattle.step_engine.specs.declared.detour.Detour.{Detour}

-- the spot that a detour from s has come to
abbrev pub spot_there : TreeSpot → Detour → TreeSpot
spot_there s d = rejoined s d.kept d.sides.items d.states.items d.spin

-- its position
abbrev pub there : TreeSpot → Detour → Position
there s d = position (spot_there s d)

-- The lengths fit together.
pub record IsShaped (s : TreeSpot) (d : Detour) : Type 0 where
  pub path : length s.path ≡ suc (length s.name)
  pub kept : d.kept ≤ length s.name
  pub states : length d.states.items ≡ length d.sides.items

-- A detour from s, by rules that are accepted: it has come to a spot in the same tree, and tells
-- the state of the tile there.
pub record IsDetour (rules : TreeRules) (s : TreeSpot) (d : Detour) : Type 0 where
  pub sound : AreSound rules
  pub shape : IsShaped s d
  pub spot : IsSpot rules (spot_there s d)
  pub tree : root_kind rules (spot_there s d) ≡ root_kind rules s
  pub tile : d.tile ≡ tile_state rules (spot_there s d)

-- the spot with one side and one state less
pub record IsAbove (upper lower : TreeSpot) : Type 0 where
  pub name : lower.name ≡ upper.name ++ upper.spin ∷ []
  pub last : ℕ
  pub path : lower.path ≡ upper.path ++ last ∷ []

-- the detour that has come to position p
pub record HasReached (rules : TreeRules) (s : TreeSpot) (p : Position) (d : Detour) : Type 0 where
  pub detour : IsDetour rules s d
  pub arrives : there s d ≡ p

-- one move along the contour, from detour d with c brackets open
pub record HasMoved (rules : TreeRules) (s : TreeSpot) (leftwards : Bool)
    (d : Detour) (c : ℕ) (done : Bool) (d' : Detour) (c' : ℕ) : Type 0 where
  pub detour : IsDetour rules s d'
  pub goes :
      Goes rules.kinds rules.automaton (root_kind rules s) leftwards
      (there s d) c done (there s d') c'

-- the crossing of the side that detour d faces
pub record HasCrossed (rules : TreeRules) (s : TreeSpot) (d d' : Detour) : Type 0 where
  pub detour : IsDetour rules s d'
  pub across :
      LiesAcross rules.kinds rules.automaton (root_kind rules s) (there s d) (there s d')

-- the detour that has turned by this letter that many times
pub record HasTurned (rules : TreeRules) (s : TreeSpot)
    (d : Detour) (x : Letter) (count : ℕ) (d' : Detour) : Type 0 where
  pub detour : IsDetour rules s d'
  pub leads :
      Leads rules.kinds rules.automaton (root_kind rules s)
      (there s d) (replicate count x) (there s d')

-- where a turn of the detour leads, leftwards or else rightwards
abbrev pub turned_there : TreeRules → TreeSpot → Bool → Detour → Position
turned_there rules s leftwards d =
    turned rules.kinds rules.automaton (root_kind rules s) leftwards (there s d)

-- the most brackets that are open at once on the way from there
abbrev pub most_open_there : TreeRules → TreeSpot → Bool → Detour → ℕ
most_open_there rules s leftwards d =
    most_open rules.kinds rules.automaton (root_kind rules s) leftwards (there s d)

-- the side that the detour faces opens a bracket on the way leftwards, or else rightwards
abbrev pub OpensTowards : TreeRules → TreeSpot → Bool → Detour → Type 0
OpensTowards rules s leftwards d =
    mark_towards rules.kinds rules.automaton (root_kind rules s) leftwards (there s d) ≡ Opens

-- what lies across the side that the detour faces has a name of more than `most` sides
abbrev pub FacesDeep : TreeRules → TreeSpot → Detour → ℕ → Type 0
FacesDeep rules s d most = IsDeepAcross rules (root_kind rules s) (there s d) most

-- the way by one letter, which arrives at a name of at most `most` sides where it is a crossing
pub record HasStepped (rules : TreeRules) (s : TreeSpot)
    (d : Detour) (x : Letter) (most : ℕ) (d' : Detour) : Type 0 where
  pub detour : IsDetour rules s d'
  pub moves :
      Moves rules.kinds rules.automaton (root_kind rules s) x (there s d) (there s d')
  pub near : x ≡ X → length (there s d').name ≤ most
