use Rattle.std.proofs.Common.{refl, ap, ◌∙◌, ◌++◌}
use Rattle.std.proofs.lemmas.List.{append_assoc}
use Rattle.walker_run.specs.Ending.{out_of_memory}
use Rattle.walker_run.proofs.Steps.{rose_on}
use Rattle.walker_run.proofs.Opened.{too_long_no_refusal}
use Rattle.walker_run.proofs.Streams.{nothing_begun, done_ends, unread_ends, unwritten_ends, memory_ends, over_ends}
use Rattle.walker_run.proofs.serve.serve_walkers.Goals as goal

pub returns-in_default-clause-ends : goal.returns-in_default-clause-ends
returns-in_default-clause-ends g c = out_of_memory refl (λ told takes. nothing_begun _ _ _ _ refl)

pub returns-in-Done-clause-ends : goal.returns-in-Done-clause-ends
returns-in-Done-clause-ends g c = done_ends _ _ c.in-Ok.session c.serve.new.session c.args.rules.now c.args.kind _ _ _ _ c.in-Ok.ensures.rules c.in-Ok.ensures.kind c.in-Ok.ensures.stands_over_walks (λ told. c.serve.ensures.ended told c.in-Done.is) (λ told takes. c.serve.ensures.done told takes c.in-Done.is)

pub returns-in-ReadFault-clause-ends : goal.returns-in-ReadFault-clause-ends
returns-in-ReadFault-clause-ends g c = unread_ends _ _ c.in-Ok.session c.serve.new.session c.args.rules.now c.args.kind _ _ _ _ c.in-Ok.ensures.rules c.in-Ok.ensures.kind c.in-Ok.ensures.stands_over_walks (λ told takes. c.serve.ensures.read_fault told takes c.in-ReadFault.is)

pub returns-in-InputTooLong-clause-ends : goal.returns-in-InputTooLong-clause-ends
returns-in-InputTooLong-clause-ends g c = over_ends _ _ c.in-Ok.session c.serve.new.session c.args.rules.now c.args.kind _ _ _ _ c.in-Ok.ensures.rules c.in-Ok.ensures.kind c.in-Ok.ensures.stands_over_walks _ c.say.result c.say.ensures.line (λ told. c.serve.ensures.overrun told c.in-InputTooLong.is) (λ told takes. c.serve.ensures.input_too_long told takes c.in-InputTooLong.is) c.serve.ensures.begun

pub returns-in-InputTooLong-clause-write_cause : goal.returns-in-InputTooLong-clause-write_cause
returns-in-InputTooLong-clause-write_cause g c = λ fault.
    rose_on _ _ _ c.serve.ensures.writes_later (c.say.ensures.cause fault)

pub returns-in-WriteFault-clause-ends : goal.returns-in-WriteFault-clause-ends
returns-in-WriteFault-clause-ends g c = unwritten_ends _ _ c.in-Ok.session c.serve.new.session c.args.rules.now c.args.kind _ _ _ _ c.in-Ok.ensures.rules c.in-Ok.ensures.kind c.in-Ok.ensures.stands_over_walks c.serve.ensures.begun

pub returns-clause-ends : goal.returns-clause-ends
returns-clause-ends g c = memory_ends _ _ c.in-Ok.session c.serve.new.session c.args.rules.now c.args.kind _ _ _ _ c.in-Ok.ensures.rules c.in-Ok.ensures.kind c.in-Ok.ensures.stands_over_walks c.serve.ensures.begun

pub returns-in-InputTooLong-clause-kept : goal.returns-in-InputTooLong-clause-kept
returns-in-InputTooLong-clause-kept g c = λ tells.
    let served = c.serve.ensures.kept tells in
    let line = c.say.ensures.kept tells in
    record {
      more = served.more ++ line.more;
      all =
          line.all
          ∙ ap (λ l. l ++ line.more) served.all
          ∙ append_assoc (g.O.Sink.taken c.args.out.now) served.more line.more;
    }

pub returns-in-InputTooLong-clause-no_refusal : goal.returns-in-InputTooLong-clause-no_refusal
returns-in-InputTooLong-clause-no_refusal g c = too_long_no_refusal _ _ _ c.say.result c.say.ensures.line
