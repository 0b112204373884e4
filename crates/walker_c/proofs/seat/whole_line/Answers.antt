use Rattle.std.proofs.Common.{◌∷◌, ◌++◌, ap, ◌∙◌, arith}
use Rattle.std.proofs.lemmas.Bool.Decides.{nat_tests}
use Rattle.line_server.specs.Lines.{feed}
use Rattle.walker_c.specs.Seats.{bare, fed}
use Rattle.walker_c.proofs.Feeds.{empty_of, feeds_within}
use Rattle.walker_c.proofs.seat.whole_line.Goals as goal

pub returns-in-None-clause-some : goal.returns-in-None-clause-some
returns-in-None-clause-some c = (bare, c.in-None.ensures.none)

pub returns-in-Some-clause-some : goal.returns-in-Some-clause-some
returns-in-Some-clause-some c =
    let none = empty_of c.in-Some.rest.now (grind (arith, nat_tests)) in (
      fed c.in-Some.bare.now
          (c.in-Some.ensures.split ∙ ap (λ l. c.in-Some.bare.now ++ feed ∷ l) none),
      c.in-Some.ensures.first,
    )

pub returns-in-Some-2-clause-none : goal.returns-in-Some-2-clause-none
returns-in-Some-2-clause-none c = λ line.
    feeds_within c.in-Some.bare.now c.in-Some.rest.now c.args.line.now line c.in-Some.ensures.split
    (grind (arith, nat_tests))
