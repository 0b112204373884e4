use Rattle.std.proofs.Common.{length, take, drop}
use Rattle.cell_distance.proofs.Blocks.{one_block_more}
use Rattle.cell_distance.proofs.spots.shared.Goals as goal

pub loop-count-preserved : goal.loop-count-preserved
loop-count-preserved c =
    let same = c.is_same_block.ensures in
    let yes = c.loop-count-test.true in
    record {
      first = same.first yes;
      second = same.second yes;
      same = one_block_more c.loop-count.count 64 c.args.m.now c.args.n.now c.loop-count.invariant.same (same.same yes);
    }
