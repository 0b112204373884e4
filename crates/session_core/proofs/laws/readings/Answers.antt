use Rattle.session_core.proofs.Standing.{read_alike}
use Rattle.session_core.proofs.laws.readings.Goals as goal

pub returns : goal.returns
returns c = read_alike c.args.session.now c.written-written.ensures.session
