use Rattle.tess_text.proofs.Finishing.{finished_read, full, some_from}
use Rattle.tess_text.proofs.read.Reader.finish.Goals as goal

pub returns-in-Some-2 : goal.returns-in-Some-2
returns-in-Some-2 c = λ lines read.
    let is = rw c.in-Some-2.is at c.in_ok-kinds.ensures in
    finished_read _ c.in-Some.version _ lines _ c.in-Some.is read (some_from _ c.is_empty.result c.is_empty.ensures c.if-is_empty.false) is

pub returns-in-None : goal.returns-in-None
returns-in-None c = λ lines read end.
    let missing = rw c.in-None.is at c.in_ok-kinds.ensures in
    missing (full _ lines read.hold end)
