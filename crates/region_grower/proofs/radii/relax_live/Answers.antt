-- A cell that is live.
use Rattle.region_grower.proofs.Passes.{lowered_as}
use Rattle.region_grower.proofs.radii.relax_live.Goals as goal

pub returns-then-alive : goal.returns-then-alive
returns-then-alive c = lowered_as c.args.joins.now c.args.radii.now c.relax_cell.new.radii c.relax_cell.result (λ relaxed _. relaxed) c.relax_cell.ensures
