use Rattle.rules_tools.proofs.Cutting.{uncut}
use Rattle.rules_tools.proofs.splitting.move_found.Goals as goal

pub returns-then-not-parted-clause-cut : goal.returns-then-not-parted-clause-cut
returns-then-not-parted-clause-cut c = uncut c.args.found.now c.args.x.now.class.items
