-- Paths tell the classes apart, after the turns before.
use Rattle.std.proofs.Common.{◌≡◌, length, List}
use Rattle.tile_model.specs.Tessellations.{TileKind}
use Rattle.tree_model.specs.Conditions.{IsAccepted}
use Rattle.rules_tools.specs.Classes.{AreApart}
use Rattle.rules_tools.specs.Splitting.{IsApart}
use Rattle.rules_tools.proofs.splitting.refined.Given as goal

abbrev pub invariant-loop-turn : goal.invariant-loop-turn
invariant-loop-turn l = record {
  rows : length l.found.items ≡ 64;
  long : length l.x.class.items ≡ length l.a.states;
  apart : (kinds : List TileKind) → IsAccepted kinds l.a → AreApart kinds l.a l.fn.start.items → IsApart kinds l.a l.x;
}
