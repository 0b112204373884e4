use Rattle.line_server.proofs.Streams.{outputs_agree}
use Rattle.line_server.proofs.laws.readings.Goals as goal

pub returns : goal.returns
returns c = outputs_agree
