use Rattle.std.proofs.Common.{refl, sym, subst}
use Rattle.line_server.specs.Answering.{AreBehind}
use Rattle.line_server.proofs.Answering.{names_listed, names_unlisted}
use Rattle.line_server.proofs.answer.ring_behind.Goals as goal

pub returns-in-Tiles : goal.returns-in-Tiles
returns-in-Tiles c = λ s names named.
    subst (λ x. AreBehind s x names) (sym c.in-Tiles.is) (names_listed s _ _ names refl named)

pub returns-in_default : goal.returns-in_default
returns-in_default c = λ s names named.
    names_unlisted s c.args.x.now names c.in_default.not-Tiles refl named
