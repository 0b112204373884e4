-- The four checks of sides, and what each rests on.
use Rattle.std.specs.Prelude.{ℕ, List}
use Rattle.handed_kinds.specs.Handed.{HandedKind}
use Rattle.handed_kinds.specs.HandedValidity.{HasPartner, HasValence, IsInvolution, HasCorner}
use Rattle.handed_kinds.specs.HandedFaults.{AllSides}
use Rattle.handed_kinds.specs.declared.checks.Check.{Check}
use Rattle.handed_kinds.specs.declared.checks.Check.TheVariants.{Partner, Valence, Involution, Corner}

-- what a check asks of one side
abbrev pub Passes : Check → List HandedKind → ℕ × ℕ → Type 0
Passes Partner = HasPartner
Passes Valence = HasValence
Passes Involution = IsInvolution
Passes Corner = HasCorner

-- what must hold of all sides before a check can be tried: partners are sides where they are
-- followed
abbrev pub IsReady : Check → List HandedKind → Type 0
IsReady Partner hs = Unit {0}
IsReady Valence hs = Unit {0}
IsReady Involution hs = AllSides HasPartner hs
IsReady Corner hs = AllSides HasPartner hs
