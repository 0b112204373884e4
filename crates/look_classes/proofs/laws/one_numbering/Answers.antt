-- Numbers in order of first sight are unique.
use Rattle.look_classes.proofs.Meaning.{same_classes}
use Rattle.look_classes.proofs.laws.one_numbering.Goals as goal

pub returns : goal.returns
returns c = same_classes c.args.region.now
