-- What a search keeps.
use Rattle.std.proofs.Common.{refl, ◌∙◌, arith}
use Rattle.rules_tools.specs.declared.search.Search.{Search}
use Rattle.rules_tools.specs.Searches.{Keeps}

pub keeps_all : (x : Search) → Keeps x x
keeps_all x = record { first = refl; second = refl; longer = omega arith; same = λ j lt. refl }

pub keeps_on : (x y z : Search) → Keeps x y → Keeps y z → Keeps x z
keeps_on x y z k l = record {
  first = l.first ∙ k.first;
  second = l.second ∙ k.second;
  longer = omega (arith, k.longer, l.longer);
  same = λ j lt. l.same j (omega (arith, lt, k.longer)) ∙ k.same j lt;
}
