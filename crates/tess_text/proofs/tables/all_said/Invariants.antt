use Rattle.std.proofs.Common.{◌≡◌, ◌++◌, map, drop}
use Rattle.std.specs.declared.option.Option.TheVariants.{Some}
use Rattle.tess_text.proofs.tables.all_said.Given as goal

abbrev pub invariant-loop-x : goal.invariant-loop-x
invariant-loop-x g l = map (λ x. Some x) l.all.items ++ drop l.x-index l.said ≡ l.said
