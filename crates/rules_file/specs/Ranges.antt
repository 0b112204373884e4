-- Automata whose numbers fit the tables of the code.
use Rattle.std.specs.Prelude.{ℕ, ◌^◌, ◌<◌, All, FitsSigned}
use Rattle.std.specs.Int.{w8}
use Rattle.tree_model.specs.declared.Claim.{Claim}
use Rattle.tree_model.specs.Automata.{TreeState, CornerType, TreeAutomaton}
use Rattle.rules_file.specs.Spelling.{FitsRule}

-- a number of 32 bits
abbrev pub IsWord : ℕ → Type 0
IsWord n = n < 2 ^ 32

pub record FitsPair (c : Claim) : Type 0 where
  pub corner : c.corner < 2 ^ 32
  pub place : c.place < 2 ^ 8

pub record FitsCorner (g : CornerType) : Type 0 where
  pub offsets : All (λ z. FitsSigned w8 z) g.offsets
  pub outer : FitsPair g.outer

pub record FitsState (s : TreeState) : Type 0 where
  pub kind : s.kind < 2 ^ 8
  pub off : s.off < 2 ^ 8
  pub rules : All FitsRule s.rules
  pub claims : All FitsPair s.claims

pub record FitsTables (a : TreeAutomaton) : Type 0 where
  pub roots : All IsWord a.roots
  pub corners : All FitsCorner a.corners
  pub states : All FitsState a.states
