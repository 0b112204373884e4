-- From no cell to all cells.
use Rattle.std.proofs.Common.{◌≡◌, length, refl, arith}
use Rattle.std.proofs.lemmas.List.{length-map}
use Rattle.tree_model.specs.Automata.{TreeState, no_state}
use Rattle.look_classes.specs.Looks.{cell_look}
use Rattle.look_classes.specs.Classes.{below, cell_looks}
use Rattle.state_candidates.specs.Readers.{state_read}
use Rattle.state_candidates.proofs.FirstEntries.{nothing_read, read_all}
use Rattle.state_candidates.proofs.Sides.{length_below}
use Rattle.state_candidates.proofs.rows.push_states.Goals as goal

pub loop-cell-init : goal.loop-cell-init
loop-cell-init c =
    let v = c.args.reader.now in
    record {
      read = nothing_read v.lists.cells (state_read v) (λ (s : TreeState). s) v.first_state no_state c.args.states.now.items c.requires;
      kept = record { long = omega arith; kept = λ i below. refl };
    }

pub returns-clause-read : goal.returns-clause-read
returns-clause-read c =
    let v = c.args.reader.now in
    let classes = c.made-cell-end.ensures.reader.classes.cells in
    let n = c.made-cell-end.result in
    let all : c.loop-cell.cell ≡ length v.lists.cells = omega (arith, c.loop-cell-test.false, c.loop-cell.auto.cell-end, c.made-cell-end.ensures.value, classes.long, length-map (below (length v.region.table.origins)) (cell_look v.horizon v.region), length_below (length v.region.table.origins)) in
    λ _. read_all v.lists.cells (state_read v) (λ (s : TreeState). s) v.first_state no_state (cell_looks v.horizon v.region) v.lists.cell_count classes c.loop-cell.states.items c.loop-cell.cell all c.loop-cell.invariant.read
