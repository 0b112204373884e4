-- What lies across the faced side of a spot, where walks lead from it, of which walks it is the
-- place, and which crossings arrive too deep.
use Rattle.std.specs.Prelude.{◌≡◌, ◌↔◌, ℕ, ◌<◌, List, [], ◌∷◌, ◌++◌, length}
use Rattle.tile_model.specs.declared.Letter.{Letter}
use Rattle.tile_model.specs.declared.Letter.TheVariants.{X}
use Rattle.tile_model.specs.Relation.{IsDistance}
use Rattle.structure_check.specs.Rules.{TreeRules, AreSound}
use Rattle.tree_model.specs.Positions.{Position, LiesAcross, Leads}
use Rattle.tree_model.specs.Places.{IsPlace}
use Rattle.spot_laws.specs.Spots.{TreeSpot, IsSpot, position, root_kind}

-- Position q lies across the faced side.
abbrev pub IsAcross : TreeRules → TreeSpot → Position → Type 0
IsAcross rules s q = LiesAcross rules.kinds rules.automaton (root_kind rules s) (position s) q

-- The walk leads from the spot to position q.
abbrev pub WalkLeadsTo : TreeRules → TreeSpot → List Letter → Position → Type 0
WalkLeadsTo rules s walk q =
    Leads rules.kinds rules.automaton (root_kind rules s) (position s) walk q

-- The spot stands after the walk from side 0 of its root: its position is a place of the walk.
abbrev pub StandsAfter : TreeRules → TreeSpot → List Letter → Type 0
StandsAfter rules s walk =
    IsPlace rules.kinds rules.automaton (root_kind rules s) walk (position s)

-- In the tree of kind k, what lies across position p has a name of more than `most` sides.
pub record IsDeepAcross (rules : TreeRules) (k : ℕ) (p : Position) (most : ℕ) : Type 0 where
  pub there : Position
  pub across : LiesAcross rules.kinds rules.automaton k p there
  pub deep : most < length there.name

-- What lies across the faced side of the spot has a name of more than `most` sides.
abbrev pub CrossesDeep : TreeRules → TreeSpot → ℕ → Type 0
CrossesDeep rules s most = IsDeepAcross rules (root_kind rules s) (position s) most

-- Some crossing on the walk arrives at a name of more than `most` sides.
pub record WalksDeep (rules : TreeRules) (s : TreeSpot)
    (walk : List Letter) (most : ℕ) : Type 0 where
  pub before : List Letter
  pub behind : List Letter
  pub split : walk ≡ before ++ X ∷ behind
  pub there : Position
  pub leads : WalkLeadsTo rules s (before ++ X ∷ []) there
  pub deep : most < length there.name

-- The tile across the faced side lies more than `most` crossings from the root.
pub record CrossesFar (rules : TreeRules) (s : TreeSpot) (most : ℕ) : Type 0 where
  pub walk : List Letter
  pub stands : StandsAfter rules s walk
  pub distance : ℕ
  pub apart : IsDistance rules.kinds (root_kind rules s, 0) [] (walk ++ X ∷ []) distance
  pub far : most < distance

-- The tile at which some crossing on the walk arrives lies more than `most` crossings from the
-- root.
pub record WalksFar (rules : TreeRules) (s : TreeSpot) (w : List Letter) (most : ℕ) : Type 0 where
  pub before : List Letter
  pub behind : List Letter
  pub split : w ≡ before ++ X ∷ behind
  pub walk : List Letter
  pub stands : StandsAfter rules s walk
  pub distance : ℕ
  pub apart :
      IsDistance rules.kinds (root_kind rules s, 0) [] (walk ++ (before ++ X ∷ [])) distance
  pub far : most < distance

-- A crossing arrives at a deep name exactly where it arrives far from the root.
abbrev pub DeepIsFar : Type 0
DeepIsFar =
    (rules : TreeRules) → AreSound rules → (s : TreeSpot) → IsSpot rules s →
    (most : ℕ) → CrossesDeep rules s most ↔ CrossesFar rules s most

-- So it is with walks.
abbrev pub DeepWalksAreFar : Type 0
DeepWalksAreFar =
    (rules : TreeRules) → AreSound rules → (s : TreeSpot) → IsSpot rules s →
    (w : List Letter) (most : ℕ) → WalksDeep rules s w most ↔ WalksFar rules s w most
