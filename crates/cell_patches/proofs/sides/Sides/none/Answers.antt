-- No side is marked.
use Rattle.cell_patches.proofs.Marks.{unmarked}
use Rattle.cell_patches.proofs.sides.Sides.none.Goals as goal

pub returns : goal.returns
returns c = unmarked 64
