use Rattle.std.proofs.Common.{ap, ◌∙◌, Ok}
use Rattle.walker_run.specs.Effects.{end_of}
use Rattle.walker_c.proofs.open.seated.Goals as goal

pub new-requires : goal.new-requires
new-requires c = c.requires _ _ _ (ap end_of (c.in_ok-rules.was ∙ ap Ok c.in-Serve.is))
