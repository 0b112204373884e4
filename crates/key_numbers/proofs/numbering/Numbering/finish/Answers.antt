-- As many numbers as keys.
use Rattle.std.proofs.Common.{arith}
use Rattle.key_numbers.proofs.Sights.{numbered_are}
use Rattle.key_numbers.proofs.numbering.Numbering.finish.Goals as goal

pub returns : goal.returns
returns c = λ met h. numbered_are met c.args.self c.in-Ok.count h (omega (arith, c.len.ensures.len, c.in-Ok.ensures))
