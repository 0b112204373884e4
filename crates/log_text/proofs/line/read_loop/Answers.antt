use Rattle.std.proofs.Common.{[], ◌∷◌, arith}
use Rattle.std.proofs.lemmas.Bool.Decides.{Decides-eqb}
use Rattle.std.proofs.lemmas.Slice.Eq.{strip_suffix_is}
use Rattle.log_text.proofs.Lines.{loop_last, no_loop}
use Rattle.log_text.proofs.line.read_loop.Goals as goal

pub returns-in_err-place-clause-none : goal.returns-in_err-place-clause-none
returns-in_err-place-clause-none c =
    let stripped = strip_suffix_is Decides-eqb c.in_ok-digit.front.now (32 ∷ []) c.strip_suffix.result c.strip_suffix.ensures.cases in
    let none = rw c.in_err-place.was at stripped in
    rw c.from_residual-in_err-place.ensures (λ place which _ _. no_loop c.args.numbers.now c.in_ok-digit.front.now c.in_ok-digit.digit.now c.in_ok-digit.ensures.cases.0 none place which)

pub returns-clause-split : goal.returns-clause-split
returns-clause-split c =
    let stripped = strip_suffix_is Decides-eqb c.in_ok-digit.front.now (32 ∷ []) c.strip_suffix.result c.strip_suffix.ensures.cases in
    let front = rw c.in_ok-place.was at stripped in
    loop_last c.args.numbers.now c.in_ok-digit.front.now c.in_ok-place.place.now c.in_ok-digit.digit.now (grind arith) c.in_ok-digit.ensures.cases.0 front
