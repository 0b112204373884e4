-- A text has one value, and a value spells one automaton.
use Rattle.rules_file.proofs.Unique.{file_exact}
use Rattle.rules_file.proofs.laws.one_automaton_law.Goals as goal

pub returns : goal.returns
returns c = file_exact
