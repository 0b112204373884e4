use Rattle.std.proofs.Common.{sym, ◌∙◌, subst}
use Rattle.walker_run.specs.Effects.{end_of}
use Rattle.walker_c.specs.Opening.{HasOpened, opened}
use Rattle.walker_c.proofs.Opened.{learnt_kind}
use Rattle.walker_c.proofs.wagbirelu_learn.Goals as goal

pub seated-requires : goal.seated-requires
seated-requires c = learnt_kind _ _ _ _ c.by_learning.ensures

pub returns-in-Ok : goal.returns-in-Ok
returns-in-Ok c =
    let end = end_of c.by_learning.result in
    let seats = c.in-Ok.ensures.seated in (
      end,
      c.by_learning.ensures,
      subst (HasOpened c.args.line.now c.fill.new.room end) (sym (c.from.ensures ∙ c.code.ensures))
          (opened seats.kinds seats.automaton seats.kind seats.opens c.fill.ensures),
    )
