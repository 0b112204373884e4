use Rattle.std.proofs.Common.{Err, refl, ap}
use Rattle.walker_c.specs.Seats.{answered, no_line, no_memory}
use Rattle.walker_c.proofs.answer.Goals as goal

pub returns-in-Ok : goal.returns-in-Ok
returns-in-Ok c = answered c.tell.new.self c.give.result c.in-Ok.ensures.told c.give.ensures

pub returns-in-Err-Feeds : goal.returns-in-Err-Feeds
returns-in-Err-Feeds c =
    no_line (c.in-Err-Feeds.ensures.feeds (ap Err c.in-Err-Feeds.field-0-is)) c.in-Err-Feeds.ensures.unchanged refl

pub returns-in-Err-Memory : goal.returns-in-Err-Memory
returns-in-Err-Memory c = no_memory c.in-Err-Memory.ensures.unchanged refl
