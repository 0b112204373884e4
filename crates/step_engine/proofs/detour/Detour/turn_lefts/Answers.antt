use Rattle.std.proofs.Common.{refl}
use Rattle.step_engine.proofs.Detours.{state_in_range}
use Rattle.step_engine.proofs.Turns.{faces_within, turned_lefts}
use Rattle.step_engine.proofs.detour.Detour.turn_lefts.Goals as goal

pub left_by-self-requires-clause-state : goal.left_by-self-requires-clause-state
left_by-self-requires-clause-state c = state_in_range c.args.r.now c.requires.sound c.args.s.now c.args.self.now c.requires

pub left_by-self-requires-clause-side : goal.left_by-self-requires-clause-side
left_by-self-requires-clause-side c = faces_within c.args.r.now c.args.s.now c.args.self.now c.requires

pub returns : goal.returns
returns c =
    turned_lefts c.args.r.now c.requires.sound c.args.s.now c.args.self.now
    (record { kept = c.args.self.now.kept; sides = c.args.self.now.sides; states = c.args.self.now.states; tile = c.args.self.now.tile; spin = c.left_by-self.result })
    c.requires refl refl refl refl c.args.count c.left_by-self.ensures
