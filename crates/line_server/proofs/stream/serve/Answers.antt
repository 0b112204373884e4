use Rattle.line_server.proofs.Ends as ends
use Rattle.line_server.proofs.stream.serve.Goals as goal

pub returns-clause-done : goal.returns-clause-done
returns-clause-done g c = ends.done _ _ _ _ _ _ _ _ _ c.serve_lines.ensures.ends

pub returns-clause-read_fault : goal.returns-clause-read_fault
returns-clause-read_fault g c = ends.read_fault _ _ _ _ _ _ _ _ _ c.serve_lines.ensures.ends

pub returns-clause-input_too_long : goal.returns-clause-input_too_long
returns-clause-input_too_long g c =
    ends.input_too_long _ _ _ _ _ _ _ _ _ c.serve_lines.ensures.ends

pub returns-clause-begun : goal.returns-clause-begun
returns-clause-begun g c = ends.begun _ _ _ _ _ _ _ _ _ c.serve_lines.ensures.ends

pub returns-clause-ended : goal.returns-clause-ended
returns-clause-ended g c = ends.ended _ _ _ _ _ _ _ _ _ c.serve_lines.ensures.ends

pub returns-clause-overrun : goal.returns-clause-overrun
returns-clause-overrun g c = ends.overrun _ _ _ _ _ _ _ _ _ c.serve_lines.ensures.ends

pub returns-clause-in_order : goal.returns-clause-in_order
returns-clause-in_order g c = ends.in_order _ _ _ _ _ _ _ _ _ c.serve_lines.ensures.ends
