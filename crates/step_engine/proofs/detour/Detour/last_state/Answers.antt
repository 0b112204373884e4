use Rattle.std.proofs.Common.{◌∙◌, ◌-◌, ◌≤◌, ap, arith, length, slice_index_or}
use Rattle.step_engine.proofs.Detours.{state_entered, state_kept}
use Rattle.step_engine.proofs.detour.Detour.last_state.Goals as goal

pub returns-in-Some : goal.returns-in-Some
returns-in-Some c = λ rules spot.
    let item = c.in-Some.ensures.item in
    let some : 1 ≤ length c.args.self.now.states.items = omega (arith, item.3.0, ap length c.as_slice.ensures) in
    state_entered rules c.args.s.now c.args.self.now c.in-Some.state.now c.requires spot some (item.1 ∙ ap (λ xs. slice_index_or xs (length xs - 1) c.in-Some.state.now) c.as_slice.ensures)

pub returns-in-None : goal.returns-in-None
returns-in-None c = λ rules spot.
    let none = c.in-None.ensures.item.3 in
    ap (λ p. slice_index_or p c.args.self.now.kept 0) c.path.ensures.value ∙ state_kept rules c.args.s.now c.args.self.now c.requires spot (omega (arith, none, ap length c.as_slice.ensures))
