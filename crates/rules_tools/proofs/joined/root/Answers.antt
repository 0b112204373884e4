use Rattle.std.proofs.Common.{refl, ◌∙◌, arith}
use Rattle.rules_tools.specs.Pairs.{IsPair}
use Rattle.rules_tools.specs.Joined.{here}
use Rattle.rules_tools.proofs.Joining.{linked_on}
use Rattle.rules_tools.proofs.joined.root.Goals as goal

pub loop-y-init : goal.loop-y-init
loop-y-init c = record {
  long = refl;
  falling = c.requires.falling;
  links = λ q h. h;
  linked = λ q h. here refl;
  roots = λ z e. e;
  count = refl;
  least = omega arith;
}

pub loop-y-preserved : goal.loop-y-preserved
loop-y-preserved c = record {
  long = c.halve.ensures.long ∙ c.loop-y.invariant.long;
  falling = c.halve.ensures.falling;
  links = λ q h. c.halve.ensures.links q (c.loop-y.invariant.links q h);
  linked = λ q h. linked_on (IsPair q) c.args.x c.loop-y.at c.in-Some.y (c.loop-y.invariant.linked q h) (c.halve.ensures.linked q (c.loop-y.invariant.links q h));
  roots = λ z e. c.halve.ensures.roots z (c.loop-y.invariant.roots z e);
  count = c.halve.ensures.count ∙ c.loop-y.invariant.count;
  least = omega (arith, c.halve.ensures.below, c.loop-y.invariant.least);
}
