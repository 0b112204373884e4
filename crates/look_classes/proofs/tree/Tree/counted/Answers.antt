-- Both sides are below 64.
use Rattle.std.proofs.Common.{◌≡◌, Some, sym, ◌∙◌, subst, arith}
use Rattle.coincidence.specs.Joined.{IsTable}
use Rattle.look_classes.specs.Tree.{parent_side}
use Rattle.look_classes.proofs.Darts.{sides_wide}
use Rattle.look_classes.proofs.Parents.{parent_nearer}
use Rattle.look_classes.proofs.tree.Tree.counted.Goals as goal
use Rattle.look_classes.proofs.tree.Tree.counted.Goals.{in-Some, in-None}

pub overflow_add-parent : goal.overflow_add-parent
overflow_add-parent c =
    let r = c.args.self.now in
    let table : IsTable r.table = subst (λ v. IsTable v.table) c.self.view_is c.joins-joins.ensures.table in
    let wide = sides_wide r table c.args.cell (table.live_made c.args.cell c.requires.live) in
    elim c.match-parent.branch [
      | in-Some w ↦
          let side : parent_side r c.args.cell ≡ Some w.in-Some.side = sym c.parent.ensures ∙ w.in-Some.is in
          let low = (parent_nearer r c.args.cell w.in-Some.side side).1 in
          omega (arith, low, wide.1, w.parent-is, c.requires.side)
      | in-None w ↦ omega (arith, wide.1, w.parent-is, c.requires.side)
    ]
