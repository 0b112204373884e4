-- A cell with no number, with one that was met, or with a new one.
use Rattle.std.proofs.Common.{◌≡◌, ◌+◌, Some, sym, ◌∙◌, subst, arith}
use Rattle.tree_model.specs.Automata.{TreeState, no_state}
use Rattle.look_classes.specs.Numbers.{entry}
use Rattle.look_classes.specs.Classes.{cell_looks}
use Rattle.state_candidates.specs.Readers.{state_read, AreStatesTo}
use Rattle.state_candidates.proofs.FirstEntries.{read_none, read_old, read_new, is_new}
use Rattle.state_candidates.proofs.rows.push_state.Goals as goal

pub returns-in_default-clause-read : goal.returns-in_default-clause-read
returns-in_default-clause-read c =
    let v = c.args.reader.now in
    λ _. read_none v.lists.cells (state_read v) (λ s. s) v.first_state no_state c.args.states.now.items c.args.cell c.requires.before (sym c.cell_number.ensures.value ∙ c.in_default.is)

pub returns-then-first_state-number-clause-read : goal.returns-then-first_state-number-clause-read
returns-then-first_state-number-clause-read c =
    let v = c.args.reader.now in
    let is : entry v.lists.cells c.args.cell ≡ Some c.in-Some.number = sym c.cell_number.ensures.value ∙ c.in-Some.is in
    λ _. read_old v.lists.cells (state_read v) (λ s. s) v.first_state no_state c.args.states.now.items c.args.cell c.requires.before c.in-Some.number is (cell_looks v.horizon v.region) v.lists.cell_count c.made-made.ensures.reader.classes.cells (λ e. c.if-first_state-number.true (omega (arith, e, c.first_state.ensures, c.len.ensures, c.args.states.now.ok.0)))

pub returns-in_default-2-clause-lacking : goal.returns-in_default-2-clause-lacking
returns-in_default-2-clause-lacking c =
    let v = c.args.reader.now in
    let is : entry v.lists.cells c.args.cell ≡ Some c.in-Some.number = sym c.cell_number.ensures.value ∙ c.in-Some.is in
    λ _. record {
      number = c.in-Some.number;
      at = c.args.cell;
      is_first = is_new v.lists.cells (state_read v) (λ s. s) v.first_state no_state c.args.states.now.items c.args.cell c.requires.before c.in-Some.number is (omega (arith, c.if-first_state-number.false, c.first_state.ensures, c.len.ensures, c.args.states.now.ok.0));
      none = sym c.in_ok-state.ensures ∙ c.in_default-2.is;
    }

pub returns-clause-read : goal.returns-clause-read
returns-clause-read c =
    let v = c.args.reader.now in
    let is : entry v.lists.cells c.args.cell ≡ Some c.in-Some.number = sym c.cell_number.ensures.value ∙ c.in-Some.is in
    let more = read_new v.lists.cells (state_read v) (λ (s : TreeState). s) v.first_state no_state c.args.states.now.items c.args.cell c.requires.before c.in-Some.number is (omega (arith, c.if-first_state-number.false, c.first_state.ensures, c.len.ensures, c.args.states.now.ok.0)) c.in-Some-2.state (sym c.in_ok-state.ensures ∙ c.in-Some-2.is) in
    λ _. subst (λ xs. AreStatesTo v xs (c.args.cell + 1)) (sym c.in_ok-push.ensures.items) more
