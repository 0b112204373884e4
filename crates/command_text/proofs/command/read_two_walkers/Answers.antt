use Rattle.command_text.proofs.Begins.{if_err}
use Rattle.command_text.proofs.Operands.{tells_walkers, no_front_walkers, tell_no_second}
use Rattle.command_text.proofs.command.read_two_walkers.Goals as goal

pub returns-in_err-w-clause-bad : goal.returns-in_err-w-clause-bad
returns-in_err-w-clause-bad c =
    if_err c.from_residual.result (no_front_walkers c.args.bytes.now c.in_err-w.ensures.none)

pub returns-in_err-v-clause-bad : goal.returns-in_err-v-clause-bad
returns-in_err-v-clause-bad c =
    if_err c.from_residual-in_err-v.result
    (tell_no_second c.args.bytes.now c.in_ok-w.second.now c.in_ok-w.w c.in_ok-w.ensures.ok c.in_err-v.ensures.none)

pub returns-clause-ok : goal.returns-clause-ok
returns-clause-ok c =
    tells_walkers c.args.bytes.now c.in_ok-w.second.now c.in_ok-w.w c.in_ok-v.v c.in_ok-w.ensures.ok
    c.in_ok-v.ensures.ok
