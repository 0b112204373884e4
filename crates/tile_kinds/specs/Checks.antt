-- The four checks of types, and what each rests on.
use Rattle.std.specs.Prelude.{ℕ, List}
use Rattle.tile_model.specs.Tessellations.{TileKind}
use Rattle.tile_model.specs.Validity.{HasPartner, HasValence, IsInvolution, HasCorner}
use Rattle.tile_model.specs.Faults.{AllTypes}
use Rattle.tile_kinds.specs.declared.checks.Check.{Check}
use Rattle.tile_kinds.specs.declared.checks.Check.TheVariants.{Partner, Valence, Involution, Corner}

-- what a check asks of one type
abbrev pub Passes : Check → List TileKind → ℕ × ℕ → Type 0
Passes Partner = HasPartner
Passes Valence = HasValence
Passes Involution = IsInvolution
Passes Corner = HasCorner

-- what must hold of all types before a check can be tried: partners are types where they are
-- followed
abbrev pub IsReady : Check → List TileKind → Type 0
IsReady Partner kinds = Unit {0}
IsReady Valence kinds = Unit {0}
IsReady Involution kinds = AllTypes HasPartner kinds
IsReady Corner kinds = AllTypes HasPartner kinds
