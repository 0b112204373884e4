-- The region is settled, and the answer is right for it.
use Rattle.std.proofs.Common.{◌-◌, ◌≤◌, length}
use Rattle.region_grower.specs.Growth.{HasGrown}
use Rattle.region_grower.specs.Answers.{IsReady, IsAnswer}
use Rattle.region_grower.proofs.growth.advance.Given as goal

abbrev pub invariant-loop-answer : goal.invariant-loop-answer
invariant-loop-answer l = record {
  ready : IsReady l.joins l.radii.items l.within l.whole;
  answer : IsAnswer l.joins l.within l.most l.answer;
  at_most : length l.joins.origins ≤ l.most;
  grown : HasGrown l.fn.joins l.joins;
}

abbrev pub decreases-loop-answer : goal.decreases-loop-answer
decreases-loop-answer l = l.most - length l.joins.origins
