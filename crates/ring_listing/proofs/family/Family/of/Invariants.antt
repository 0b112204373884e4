use Rattle.std.proofs.Common.{◌≡◌, ℕ, ◌<◌, ◌≤◌, length}
use Rattle.std.specs.Prelude.{All}
use Rattle.tree_model.specs.Automata.{rule_at}
use Rattle.tree_model.proofs.Rings.{count_sides, count_rule}
use Rattle.ring_listing.specs.Populations.{children_sum}
use Rattle.ring_listing.proofs.family.Family.of.Given as goal

abbrev pub invariant-loop-side : goal.invariant-loop-side
invariant-loop-side l = record {
  known : All (λ c. c.state < length l.fn.r.automaton.states) l.children.items;
  few : All (λ c. c.sides ≤ l.side) l.children.items;
  sums : (f : ℕ → ℕ) → children_sum f l.children.items
      ≡ count_sides (λ i. count_rule f (rule_at l.fn.r.automaton l.fn.state i)) l.side 0;
}
