use Rattle.std.proofs.Common.{◌<◌, ◌^◌, arith, length}
use Rattle.spot_laws.specs.Spots.{root_kind}
use Rattle.step_engine.specs.Detours.{there}
use Rattle.step_engine.proofs.Detours.{depth_is}
use Rattle.step_engine.proofs.detour.Detour.counter_fits.Goals as goal

pub returns : goal.returns
returns c =
    let r = c.args.r.now in
    let s = c.args.s.now in
    let d = c.args.self.now in
    let level = c.level-level in
    let entered = c.len-entered in
    let depth = depth_is s d c.requires.shape in
    let short : length (there s d).name < 2 ^ 65 = omega (arith, depth, c.requires.shape.kept, level.ensures, level.type_inv, entered.ensures.value, entered.type_inv) in
    c.brackets_fit.ensures (root_kind r s) (there s d) short
