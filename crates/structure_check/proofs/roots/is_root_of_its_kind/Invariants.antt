use Rattle.std.proofs.Common.{◌≡◌, ℕ, ◌<◌}
use Rattle.tree_model.specs.Automata.{state_at, root_at}
use Rattle.structure_check.proofs.roots.is_root_of_its_kind.Given as goal

abbrev pub invariant-loop-k : goal.invariant-loop-k
invariant-loop-k l = (j : ℕ) → j < l.k → root_at l.a j ≡ l.s → ((state_at l.a l.s).kind ≡ j) × ((state_at l.a l.s).off ≡ 0)
