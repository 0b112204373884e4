use Rattle.std.proofs.Common.{◌≡◌, ℕ, ◌+◌, ◌*◌, ◌≤◌, length, drop}
use Rattle.tree_model.specs.Limits.{most_counted}
use Rattle.ring_listing.specs.Populations.{children_sum, tiles_sum}
use Rattle.ring_listing.proofs.tally.add_children.Given as goal

-- what the children behind would still add
abbrev pub invariant-loop-child : goal.invariant-loop-child
invariant-loop-child l = record {
  all : tiles_sum (λ _. 1) 0 l.next ≡ l.sum;
  few : l.sum ≤ most_counted;
  room : length l.next ≡ length l.fn.next;
  sums : (f : ℕ → ℕ) → tiles_sum f 0 l.next + l.fn.tiles * children_sum f (drop l.child-index l.fn.children)
      ≡ tiles_sum f 0 l.fn.next + l.fn.tiles * children_sum f l.fn.children;
}
