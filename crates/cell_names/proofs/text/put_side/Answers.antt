use Rattle.std.proofs.Common.{ℕ, ◌+◌, ◌%◌, ◌/◌, List, ◌∷◌, [], ◌++◌, sym, ◌∙◌, ap, arith}
use Rattle.std.proofs.lemmas.Fmt.{decimal_digit}
use Rattle.std.proofs.lemmas.List.{append_assoc}
use Rattle.cell_names.proofs.Digits.{decimal-pair}
use Rattle.cell_names.proofs.text.put_side.Goals as goal

pub returns-then-side-lt10-clause-written : goal.returns-then-side-lt10-clause-written
returns-then-side-lt10-clause-written c =
    c.push_reserved.ensures.items
    ∙ ap (λ (l : List ℕ). c.args.out.now.items ++ l) (sym (decimal_digit c.args.side c.if-side-lt10.true))

pub returns-clause-written : goal.returns-clause-written
returns-clause-written c =
    let side = c.args.side in
    let tens : List ℕ = (48 + side / 10) ∷ [] in
    let units : List ℕ = (48 + side % 10) ∷ [] in
    let pair = decimal-pair side (side / 10) (side % 10) (omega arith) (omega (arith, c.if-side-lt10.false)) (omega (arith, c.requires.below)) (omega arith) in
    c.push_reserved-3.ensures.items
    ∙ ap (λ (l : List ℕ). l ++ units) c.push_reserved-2.ensures.items
    ∙ append_assoc c.args.out.now.items tens units
    ∙ ap (λ (l : List ℕ). c.args.out.now.items ++ l) (sym pair)
