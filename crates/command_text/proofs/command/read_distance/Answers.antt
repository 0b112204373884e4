use Rattle.std.proofs.Common.{ℕ, Result, IfOk, sym, subst}
use Rattle.command_text.specs.CommandLines.{one_distance}
use Rattle.command_text.specs.Words.{AreToldBy}
use Rattle.command_text.specs.declared.command.CommandFault.{CommandFault}
use Rattle.command_text.specs.declared.command.CommandFault.TheVariants.{Bad}
use Rattle.command_text.proofs.Begins.{on_some}
use Rattle.command_text.proofs.Operands.{tells_distance}
use Rattle.command_text.proofs.command.read_distance.Goals as goal

pub returns-clause-ok : goal.returns-clause-ok
returns-clause-ok c =
    subst (λ (r : Result ℕ CommandFault). IfOk r (λ d. AreToldBy c.args.bytes.now (one_distance d)))
    (sym c.ok_or.ensures.value)
    (on_some c.read_number.result Bad (tells_distance c.args.bytes.now) c.read_number.ensures.some)
