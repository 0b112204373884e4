-- Which fault a list of handed kinds has: the first check that fails, at its least kind and
-- residue.
use Rattle.std.specs.Prelude.{◌≡◌, ℕ, ◌<◌, List, length}
use Rattle.handed_kinds.specs.Handed.{HandedKind, handed_at, IsSide}
use Rattle.handed_kinds.specs.HandedValidity.{HasCount, HasSides, HasRepeat, HasPartner, HasValence, IsInvolution, HasCorner}
use Rattle.tile_model.specs.declared.fault.KindFault.{KindFault}
use Rattle.tile_model.specs.declared.fault.KindFault.TheVariants.{Count, Sides, Repeat, Partner, Valence, Involution, Corner}

-- k is the least kind of the list without a property of kinds
pub record IsFirstKind (hs : List HandedKind) (Has : HandedKind → Type 0) (k : ℕ) : Type 0 where
  pub is_kind : k < length hs
  pub fails : ¬ (Has (handed_at hs k))
  pub lower : (j : ℕ) → j < k → Has (handed_at hs j)

-- d is the least side of the list without a property of sides, by kinds and then by residues
pub record IsFirstSide (hs : List HandedKind) (Has : List HandedKind → ℕ × ℕ
    → Type 0) (d : ℕ × ℕ) : Type 0 where
  pub is_side : IsSide hs d
  pub fails : ¬ (Has hs d)
  pub lower_kinds : (e : ℕ × ℕ) → IsSide hs e → e.0 < d.0 → Has hs e
  pub lower_residues : (s : ℕ) → s < d.1 → Has hs (d.0, s)

-- all kinds have a property of kinds
abbrev pub AllKinds : (HandedKind → Type 0) → List HandedKind → Type 0
AllKinds Has hs = (k : ℕ) → k < length hs → Has (handed_at hs k)

-- all sides have a property of sides
abbrev pub AllSides : (List HandedKind → ℕ × ℕ → Type 0) → List HandedKind → Type 0
AllSides Has hs = (d : ℕ × ℕ) → IsSide hs d → Has hs d

-- the first three checks hold: the count, and the sides and the repeat of each kind
pub record IsSized (hs : List HandedKind) : Type 0 where
  pub count : HasCount hs
  pub sides : AllKinds HasSides hs
  pub repeat : AllKinds HasRepeat hs

-- The fault of a list of handed kinds: the checks before hold everywhere, and this is the least
-- place at which its check fails.
abbrev pub IsHandedFault : List HandedKind → KindFault → Type 0
IsHandedFault hs Count = ¬ (HasCount hs)
IsHandedFault hs (Sides k s) = HasCount hs × (s ≡ 0) × IsFirstKind hs HasSides k
IsHandedFault hs (Repeat k s) =
    HasCount hs × AllKinds HasSides hs × (s ≡ 0) × IsFirstKind hs HasRepeat k
IsHandedFault hs (Partner k s) = IsSized hs × IsFirstSide hs HasPartner (k, s)
IsHandedFault hs (Valence k s) =
    IsSized hs × AllSides HasPartner hs × IsFirstSide hs HasValence (k, s)
IsHandedFault hs (Involution k s) =
    IsSized hs × AllSides HasPartner hs × AllSides HasValence hs
    × IsFirstSide hs IsInvolution (k, s)
IsHandedFault hs (Corner k s) =
    IsSized hs × AllSides HasPartner hs × AllSides HasValence hs
    × AllSides IsInvolution hs × IsFirstSide hs HasCorner (k, s)
