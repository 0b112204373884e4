use Rattle.step_engine.specs.declared.detour.Detour.{Detour}
use Rattle.step_engine.proofs.Detours.{starts}
use Rattle.step_engine.proofs.detour.Detour.start.Goals as goal

pub returns : goal.returns
returns c =
    let d : Detour = record { kept = c.level.result; sides = c.empty_list.result; states = c.empty_list-2.result; tile = c.tile.result; spin = c.spin.result } in
    starts c.args.r.now c.args.s.now d c.tile.ensures.sound c.requires c.level.ensures c.empty_list.ensures c.empty_list-2.ensures c.tile.ensures.value c.spin.ensures
