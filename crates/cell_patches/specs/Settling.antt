-- What settling a parent side comes to.
use Rattle.std.specs.Prelude.{ℕ, ◌≡◌, ⊤}
use Rattle.cell_patches.specs.declared.settling.Settled.{Settled}
use Rattle.cell_patches.specs.declared.settling.Settled.TheVariants.{Parent}

-- If there is a parent side, it is one of this patch.
abbrev pub IsOfPatch : ℕ → Settled → Type 0
IsOfPatch patch (Parent d) = d.patch ≡ patch
IsOfPatch patch _ = ⊤
