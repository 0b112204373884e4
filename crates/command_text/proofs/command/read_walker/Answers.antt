use Rattle.command_text.proofs.Begins.{on_ok, on_if_err}
use Rattle.command_text.proofs.Operands.{tells_walker, tell_no_walker}
use Rattle.command_text.proofs.command.read_walker.Goals as goal

pub returns-clause-ok : goal.returns-clause-ok
returns-clause-ok c = on_ok c.walker.result (tells_walker c.args.bytes.now) c.walker.ensures.ok

pub returns-clause-bad : goal.returns-clause-bad
returns-clause-bad c =
    on_if_err c.walker.result (tell_no_walker c.args.bytes.now) c.walker.ensures.none
