use Rattle.std.proofs.Common.{refl}
use Rattle.step_engine.proofs.Detours.{state_in_range, turns_to}
use Rattle.step_engine.proofs.detour.Detour.turn.Goals as goal

pub beside-self-requires-clause-state : goal.beside-self-requires-clause-state
beside-self-requires-clause-state c = state_in_range c.args.r.now c.requires.sound c.args.s.now c.args.self.now c.requires

pub returns : goal.returns
returns c =
    turns_to c.args.r.now c.requires.sound c.args.s.now c.args.self.now (record { kept = c.args.self.now.kept; sides = c.args.self.now.sides; states = c.args.self.now.states; tile = c.args.self.now.tile; spin = c.beside-self.result }) c.args.leftwards c.requires refl refl refl refl c.beside-self.ensures.left c.beside-self.ensures.right
