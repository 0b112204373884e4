-- No other side is marked.
use Rattle.std.proofs.Common.{◌≡◌, ℕ, ◌⊎◌, Bool, true, List, subst}
use Rattle.std.proofs.Math.ListN.{set}
use Rattle.cell_patches.specs.Patches.{IsAmong}
use Rattle.cell_patches.proofs.Marks.{marked}
use Rattle.cell_patches.proofs.sides.Sides.with.Goals as goal

pub returns : goal.returns
returns c = subst (λ (v : List Bool). (i : ℕ) → IsAmong (set c.self.inside.among c.args.side true) i → IsAmong v i ⊎ (i ≡ c.args.side)) c.self.view_is (marked c.self.inside.among c.args.side)
