use Rattle.std.proofs.Common.{arith}
use Rattle.walker_c.specs.Opening.{learning, no_cells}
use Rattle.walker_c.proofs.open.by_learning.Goals.{then-cells-eq0-via-then-cells-eq0, then-cells-eq0-via-else-cells-eq0+then-cells-gt-MOST_CELLS}
use Rattle.walker_c.proofs.open.by_learning.Goals as goal

pub returns-then-cells-eq0 : goal.returns-then-cells-eq0
returns-then-cells-eq0 c = no_cells (λ cells. absurd (omega (arith, cells.0, cells.1, c.then-cells-eq0.either)))

pub returns : goal.returns
returns c =
    learning _
    (omega (arith, c.if-cells-eq0.false), omega (arith, c.if-cells-gt-MOST_CELLS.false))
    (record { after = _; asked = _; answered = _; carried = c.open_taught.ensures })
