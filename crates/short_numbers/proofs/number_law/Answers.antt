use Rattle.short_numbers.proofs.Reading.{number_of, of_number}
use Rattle.short_numbers.proofs.number_law.Goals as goal

pub returns : goal.returns
returns c = λ digits n. (number_of digits n, of_number digits n)
