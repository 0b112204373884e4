use Rattle.std.proofs.Common.{◌++◌, drop, length, replicate}
use Rattle.tile_model.specs.declared.Letter.TheVariants.{L}
use Rattle.tile_model.specs.Walks.{inverse}
use Rattle.tree_model.specs.Names.{word}
use Rattle.step_engine.proofs.Underway.{IsUnderway}
use Rattle.step_engine.proofs.names.walk_between.Given as goal

abbrev pub invariant-loop-last : goal.invariant-loop-last
invariant-loop-last l =
    IsUnderway l.r l.fn.s (inverse (word l.back ++ replicate l.spin L) ++ word l.onwards) (inverse (word l.rest) ++ word l.onwards) 4000 l.detour

abbrev pub decreases-loop-last : goal.decreases-loop-last
decreases-loop-last l = length l.rest

abbrev pub invariant-loop-side : goal.invariant-loop-side
invariant-loop-side l =
    IsUnderway l.r l.fn.s (inverse (word l.back ++ replicate l.spin L) ++ word l.onwards) (word (drop l.side-index l.onwards)) 4000 l.detour
