use Rattle.reply_laws.proofs.Paths.{paths_are_shortest}
use Rattle.reply_laws.proofs.laws.paths.Goals as goal

pub returns : goal.returns
returns c = record { shortest = paths_are_shortest }
