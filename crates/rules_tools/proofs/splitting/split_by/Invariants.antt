-- Paths tell the classes apart, after the sides before.
use Rattle.std.proofs.Common.{◌≡◌, length, List}
use Rattle.tile_model.specs.Tessellations.{TileKind}
use Rattle.tree_model.specs.Automata.{TreeAutomaton}
use Rattle.tree_model.specs.Conditions.{IsAccepted}
use Rattle.rules_tools.specs.Splitting.{HasMembers, HasParents, IsApart}
use Rattle.rules_tools.proofs.splitting.split_by.Given as goal

abbrev pub invariant-loop-side : goal.invariant-loop-side
invariant-loop-side l = record {
  long : length l.x.class.items ≡ length l.fn.x.class.items;
  members : HasMembers l.fn.x → HasMembers l.x;
  apart : (kinds : List TileKind) (a : TreeAutomaton) → IsAccepted kinds a → HasParents a l.parents
      → IsApart kinds a l.fn.x → IsApart kinds a l.x;
}
