-- Which fault a list of kinds has: the first check that fails, at its least kind and residue.
use Rattle.std.specs.Prelude.{◌≡◌, ℕ, ◌<◌, List, length}
use Rattle.tile_model.specs.Tessellations.{TileKind, kind_at, IsType}
use Rattle.tile_model.specs.Validity.{HasCount, HasSides, HasRepeat, HasPartner, HasValence, IsInvolution, HasCorner}
use Rattle.tile_model.specs.declared.fault.KindFault.{KindFault}
use Rattle.tile_model.specs.declared.fault.KindFault.TheVariants.{Count, Sides, Repeat, Partner, Valence, Involution, Corner}

-- k is the least kind of the list without a property of kinds
pub record IsFirstKind (kinds : List TileKind) (Has : TileKind → Type 0) (k : ℕ) : Type 0 where
  pub is_kind : k < length kinds
  pub fails : ¬ (Has (kind_at kinds k))
  pub lower : (j : ℕ) → j < k → Has (kind_at kinds j)

-- d is the least type of the list without a property of types, by kinds and then by residues
pub record IsFirstType (kinds : List TileKind) (Has : List TileKind → ℕ × ℕ
    → Type 0) (d : ℕ × ℕ) : Type 0 where
  pub is_type : IsType kinds d
  pub fails : ¬ (Has kinds d)
  pub lower_kinds : (e : ℕ × ℕ) → IsType kinds e → e.0 < d.0 → Has kinds e
  pub lower_residues : (s : ℕ) → s < d.1 → Has kinds (d.0, s)

-- all kinds have a property of kinds
abbrev pub AllKinds : (TileKind → Type 0) → List TileKind → Type 0
AllKinds Has kinds = (k : ℕ) → k < length kinds → Has (kind_at kinds k)

-- all types have a property of types
abbrev pub AllTypes : (List TileKind → ℕ × ℕ → Type 0) → List TileKind → Type 0
AllTypes Has kinds = (d : ℕ × ℕ) → IsType kinds d → Has kinds d

-- the first three checks hold: the count, and the sides and the repeat of each kind
pub record IsSized (kinds : List TileKind) : Type 0 where
  pub count : HasCount kinds
  pub sides : AllKinds HasSides kinds
  pub repeat : AllKinds HasRepeat kinds

-- The fault of a list of kinds: the checks before hold everywhere, and this is the least place at
-- which its check fails.
abbrev pub IsFault : List TileKind → KindFault → Type 0
IsFault kinds Count = ¬ (HasCount kinds)
IsFault kinds (Sides k s) = HasCount kinds × (s ≡ 0) × IsFirstKind kinds HasSides k
IsFault kinds (Repeat k s) =
    HasCount kinds × AllKinds HasSides kinds × (s ≡ 0) × IsFirstKind kinds HasRepeat k
IsFault kinds (Partner k s) = IsSized kinds × IsFirstType kinds HasPartner (k, s)
IsFault kinds (Valence k s) =
    IsSized kinds × AllTypes HasPartner kinds × IsFirstType kinds HasValence (k, s)
IsFault kinds (Involution k s) =
    IsSized kinds × AllTypes HasPartner kinds × AllTypes HasValence kinds
    × IsFirstType kinds IsInvolution (k, s)
IsFault kinds (Corner k s) =
    IsSized kinds × AllTypes HasPartner kinds × AllTypes HasValence kinds
    × AllTypes IsInvolution kinds × IsFirstType kinds HasCorner (k, s)
