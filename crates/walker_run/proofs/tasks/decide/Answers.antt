use Rattle.std.proofs.Common.{Err, refl, ap}
use Rattle.call_words.specs.Forms.{task_of}
use Rattle.walker_run.specs.Effects.{end_of, formless, wordless, carried_out}
use Rattle.walker_run.proofs.tasks.decide.Goals as goal

pub carry_out-requires : goal.carry_out-requires
carry_out-requires g c = c.asked_law.ensures.in_range _ (task_of c.in-Ok.form) c.in-Ok.ensures.ok

pub returns-in-Err-Usage-clause-decided : goal.returns-in-Err-Usage-clause-decided
returns-in-Err-Usage-clause-decided g c = formless (c.in-Err-Usage.ensures.usage (ap Err c.in-Err-Usage.field-0-is)) refl

pub returns-in-Err-Memory-clause-decided : goal.returns-in-Err-Memory-clause-decided
returns-in-Err-Memory-clause-decided g c = wordless refl

pub returns-clause-decided : goal.returns-clause-decided
returns-clause-decided g c = carried_out (task_of c.in-Ok.form) (end_of c.carry_out.result) c.in-Ok.ensures.ok c.carry_out.ensures.carried

pub returns-clause-untaught : goal.returns-clause-untaught
returns-clause-untaught g c = λ none. c.carry_out.ensures.untaught
    (λ file cells teaches. none (task_of c.in-Ok.form) file cells c.in-Ok.ensures.ok teaches)
