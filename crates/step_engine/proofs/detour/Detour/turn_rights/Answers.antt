use Rattle.std.proofs.Common.{refl}
use Rattle.step_engine.proofs.Detours.{state_in_range}
use Rattle.step_engine.proofs.Turns.{faces_within, turned_rights}
use Rattle.step_engine.proofs.detour.Detour.turn_rights.Goals as goal

pub right_by-self-requires-clause-state : goal.right_by-self-requires-clause-state
right_by-self-requires-clause-state c = state_in_range c.args.r.now c.requires.sound c.args.s.now c.args.self.now c.requires

pub right_by-self-requires-clause-side : goal.right_by-self-requires-clause-side
right_by-self-requires-clause-side c = faces_within c.args.r.now c.args.s.now c.args.self.now c.requires

pub returns : goal.returns
returns c =
    turned_rights c.args.r.now c.requires.sound c.args.s.now c.args.self.now
    (record { kept = c.args.self.now.kept; sides = c.args.self.now.sides; states = c.args.self.now.states; tile = c.args.self.now.tile; spin = c.right_by-self.result })
    c.requires refl refl refl refl c.args.count c.right_by-self.ensures.below c.right_by-self.ensures.back
