-- The value that is printed has no float. Its text is read back, and a text has one automaton.
use Rattle.std.proofs.Common.{ap, ◌∙◌}
use Rattle.serde_json.specs.View.{view}
use Rattle.serde_json.specs.Written.{has_float}
use Rattle.rules_file.proofs.Floats.{automaton_no_float}
use Rattle.rules_file.proofs.Printing.{spelled, of_no_other}
use Rattle.rules_file.proofs.print.print_rules.Goals as goal

pub line-requires : goal.line-requires
line-requires c = ap has_float c.in_ok-json.ensures.json ∙ automaton_no_float c.args.a.now

pub returns-clause-spelling : goal.returns-clause-spelling
returns-clause-spelling c = spelled (λ v. v.items) c.args.a.now (view c.in_ok-json.json) c.line.result c.in_ok-json.ensures.fits c.in_ok-json.ensures.json c.line.ensures

pub returns-clause-of_no_other : goal.returns-clause-of_no_other
returns-clause-of_no_other c = of_no_other (λ v. v.items) c.args.a.now (view c.in_ok-json.json) c.line.result c.in_ok-json.ensures.fits c.in_ok-json.ensures.json c.line.ensures
