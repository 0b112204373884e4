-- What the expansion is to the handed kinds, over all lists of kinds.
use Rattle.std.specs.Prelude.{◌≡◌, ◌↔◌, ℕ, Bool, List}
use Rattle.tile_model.specs.declared.Letter.{Letter}
use Rattle.tile_model.specs.declared.fault.KindFault.{KindFault}
use Rattle.tile_model.specs.Tessellations.{IsType, left as flat_left, right as flat_right, cross as flat_cross, sides as flat_sides, valence as flat_valence}
use Rattle.tile_model.specs.Validity.{IsValid}
use Rattle.tile_model.specs.Walks.{type_of}
use Rattle.tile_model.specs.Relation.{IsLoop, AreRelated}
use Rattle.handed_kinds.specs.Handed.{HandedKind, IsHandedType, left, right, cross, sides, valence}
use Rattle.handed_kinds.specs.HandedValidity.{IsHandedValid}
use Rattle.handed_kinds.specs.HandedFaults.{IsHandedFault}
use Rattle.handed_kinds.specs.HandedWalks.{handed_type, IsHandedLoop}
use Rattle.handed_kinds.specs.HandedRelation.{AreHandedRelated}
use Rattle.handed_kinds.specs.Expansion.{flat, expanded}

-- Each type of the expansion is `flat` of one handed type, and of no other.
pub record IsOneToOne (hs : List HandedKind) : Type 0 where
  pub types : (t : ℕ × ℕ × Bool) → IsHandedType hs t ↔ IsType (expanded hs) (flat hs t)
  pub onto : (d : ℕ × ℕ) → (t : ℕ × ℕ × Bool) × (flat hs t ≡ d)
  pub one : (t u : ℕ × ℕ × Bool) → flat hs t ≡ flat hs u → t ≡ u

abbrev pub FlatIsOneToOne : Type 0
FlatIsOneToOne = (hs : List HandedKind) → IsOneToOne hs

-- A list of handed kinds is a tessellation exactly where its expansion is.
abbrev pub OneValidity : Type 0
OneValidity = (hs : List HandedKind) → IsHandedValid hs ↔ IsValid (expanded hs)

-- The moves and the measures of a handed type are those of its `flat`.
pub record AreMovesFlat (hs : List HandedKind) : Type 0 where
  pub left : (t : ℕ × ℕ × Bool) → flat hs (left hs t) ≡ flat_left (expanded hs) (flat hs t)
  pub right : (t : ℕ × ℕ × Bool) → flat hs (right hs t) ≡ flat_right (expanded hs) (flat hs t)
  pub cross : (t : ℕ × ℕ × Bool) → flat hs (cross hs t) ≡ flat_cross (expanded hs) (flat hs t)
  pub sides : (t : ℕ × ℕ × Bool) → sides hs t ≡ flat_sides (expanded hs) (flat hs t)
  pub valence : (t : ℕ × ℕ × Bool) → IsHandedType hs t
      → valence hs t ≡ flat_valence (expanded hs) (flat hs t)

abbrev pub MovesAreFlat : Type 0
MovesAreFlat = (hs : List HandedKind) → IsHandedValid hs → AreMovesFlat hs

-- A walk leads from a handed type where it leads from its `flat`.
abbrev pub WalksAreFlat : Type 0
WalksAreFlat =
    (hs : List HandedKind) → IsHandedValid hs → (t : ℕ × ℕ × Bool) (walk : List Letter)
    → flat hs (handed_type hs t walk) ≡ type_of (expanded hs) (flat hs t) walk

-- The loops at a handed type are the loops at its `flat`.
abbrev pub LoopsAreFlat : Type 0
LoopsAreFlat =
    (hs : List HandedKind) → IsHandedValid hs → (t : ℕ × ℕ × Bool) → IsHandedType hs t
    → (j : ℕ) (loop : List Letter)
    → IsHandedLoop hs t j loop ↔ IsLoop (expanded hs) (flat hs t) j loop

-- Walks from a handed type are related exactly where they are related from its `flat`.
abbrev pub RelationIsFlat : Type 0
RelationIsFlat =
    (hs : List HandedKind) → IsHandedValid hs → (t : ℕ × ℕ × Bool) → IsHandedType hs t
    → (u w : List Letter)
    → AreHandedRelated hs t u w ↔ AreRelated (expanded hs) (flat hs t) u w

-- Handed kinds that have a fault are no tessellation.
abbrev pub FaultsRefute : Type 0
FaultsRefute =
    (hs : List HandedKind) (fault : KindFault) → IsHandedFault hs fault → ¬ IsHandedValid hs

-- Handed kinds have one fault at most.
abbrev pub OneHandedFault : Type 0
OneHandedFault =
    (hs : List HandedKind) (f g : KindFault) → IsHandedFault hs f → IsHandedFault hs g → f ≡ g
