-- What a teacher tells of the calls in which it gave up.
use Rattle.std.specs.Prelude.{ℕ, Bool, true, false, List, Option, Result}
use Rattle.std.specs.declared.result.Result.TheVariants.{Ok, Err}
use Rattle.tile_model.specs.Tessellations.{TileKind}
use Rattle.structure_check.specs.Rules.{TreeRules}
use Rattle.state_learner.specs.declared.fault.LearnFault.{LearnFault}
use Rattle.state_learner.specs.declared.fault.LearnFault.TheVariants.{Spherical, Closed, GaveUp, Memory}

-- whether a call gave up
abbrev pub is_give_up : LearnFault → Bool
is_give_up (Spherical p q) = false
is_give_up (Closed n) = false
is_give_up (GaveUp regions) = true
is_give_up Memory = false

abbrev pub gave_up : Result TreeRules LearnFault → Bool
gave_up (Ok rules) = false
gave_up (Err fault) = is_give_up fault

-- a call that gave up: the tessellation and the budget that were handed in
pub record GiveUp : Type 0 where
  pub kinds : List TileKind
  pub budget : ℕ

-- how many calls gave up, and the last of them
pub record GiveUps : Type 0 where
  pub count : ℕ
  pub last : Option GiveUp
