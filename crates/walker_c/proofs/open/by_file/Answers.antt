use Rattle.std.specs.Prelude.{None}
use Rattle.walker_run.specs.Effects.{TeacherSeen}
use Rattle.walker_c.proofs.open.by_file.Goals as goal

abbrev nobody : TeacherSeen
nobody = record { give_ups = 0; last_give_up = None }

pub returns : goal.returns
returns c =
    record { after = _; asked = nobody; answered = nobody; carried = c.open_file.ensures nobody }
