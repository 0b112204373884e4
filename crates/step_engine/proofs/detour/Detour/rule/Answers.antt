use Rattle.step_engine.proofs.Detours.{state_in_range}
use Rattle.step_engine.proofs.detour.Detour.rule.Goals as goal

pub rule-requires-clause-state : goal.rule-requires-clause-state
rule-requires-clause-state c = state_in_range c.args.r.now c.requires.sound c.args.s.now c.args.self.now c.requires
