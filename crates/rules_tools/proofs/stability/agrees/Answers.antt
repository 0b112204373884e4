use Rattle.std.proofs.Common.{◌≡◌, refl, subst, arith, slice_set}
use Rattle.std.specs.Prelude.{Some, None}
use Rattle.std.proofs.lemmas.List.{get_or-set_same}
use Rattle.rules_tools.specs.Firsts.{first_at}
use Rattle.rules_tools.proofs.stability.agrees.Goals as goal

pub returns-clause-has : goal.returns-clause-has
returns-clause-has c = λ _. (
  c.args.s,
  subst (λ m. first_at (slice_set c.args.firsts.now.items c.class_of-number.result (Some c.args.s)) m ≡ Some c.args.s) c.class_of-number.ensures
      (get_or-set_same c.args.firsts.now.items c.class_of-number.result (Some c.args.s) None (omega (arith, c.if-number-len.false, c.len.ensures, c.args.firsts.now.ok.0))),
  refl,
)
