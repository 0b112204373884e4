use Rattle.std.proofs.Common.{◌≡◌, ◌∙◌, ◌-◌, refl, ap, arith, length, slice_index_or, append-nil}
use Rattle.step_engine.proofs.Detours.{above_kept, some_kept, nothing_left}
use Rattle.step_engine.proofs.detour.Detour.shorten.Goals as goal

pub returns-clause-above : goal.returns-clause-above
returns-clause-above c =
    let same = c.in_default.ensures.items ∙ append-nil c.pop.new.self.items in
    let none : length c.args.self.now.sides.items ≡ 0 = nothing_left (length c.args.self.now.sides.items) c.in_default.ensures.variant.1 in
    let some = some_kept c.args.s.now c.args.self.now none c.requires.no_root in
    let side = ap (λ xs. slice_index_or xs (c.args.self.now.kept - 1) 0) (c.sides.ensures.value ∙ c.name.ensures) in
    above_kept c.args.s.now c.args.self.now (record { kept = c.args.self.now.kept - 1; sides = c.pop.new.self; states = c.args.self.now.states; tile = c.args.self.now.tile; spin = slice_index_or c.sides.result.now (c.args.self.now.kept - 1) 0 }) c.requires.shape some none (omega (arith, none, ap length same)) refl refl side
