use Rattle.std.proofs.Common.{◌∙◌}
use Rattle.std.specs.String.{string_bytes}
use Rattle.call_words.proofs.Pairs.{few_none}
use Rattle.call_words.proofs.options.value_in.Goals as goal

pub returns : goal.returns
returns c = few_none string_bytes c.args.name.now c.loop-rest.rest.now c.in_default.len_below ∙ c.loop-rest.invariant
