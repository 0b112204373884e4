-- The canonical text is read back.
use Rattle.rules_file.proofs.Spelt.{canonical_is_file}
use Rattle.rules_file.proofs.laws.canonical_text_law.Goals as goal

pub returns : goal.returns
returns c = canonical_is_file
