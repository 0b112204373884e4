use Rattle.log_checker.proofs.LoopLetters.{first_loop, second_loop, third_loop, fourth_loop, fifth_loop}
use Rattle.log_checker.proofs.loops.loop_at.Goals as goal

pub returns-in_ok-repeated-in-1-clause-some : goal.returns-in_ok-repeated-in-1-clause-some
returns-in_ok-repeated-in-1-clause-some c =
    first_loop c.args.t.now c.args.at c.args.which _ c.in-1.is c.in_ok-repeated-in-1.ensures

pub returns-in_ok-repeated-in-2-clause-some : goal.returns-in_ok-repeated-in-2-clause-some
returns-in_ok-repeated-in-2-clause-some c =
    second_loop c.args.t.now c.args.at c.args.which _ c.in-2.is c.in_ok-repeated-in-2.ensures

pub returns-in_ok-repeated-in-3-clause-some : goal.returns-in_ok-repeated-in-3-clause-some
returns-in_ok-repeated-in-3-clause-some c =
    third_loop c.args.t.now c.args.at c.args.which _ c.in-3.is c.in_ok-repeated-in-3.ensures

pub returns-in_ok-lefts-in-4-clause-some : goal.returns-in_ok-lefts-in-4-clause-some
returns-in_ok-lefts-in-4-clause-some c =
    fourth_loop c.args.t.now c.args.at c.args.which c.sides.result _ c.in-4.is c.sides.ensures.value c.in_ok-lefts-in-4.ensures

pub returns-in_ok-repeated-in-5-clause-some : goal.returns-in_ok-repeated-in-5-clause-some
returns-in_ok-repeated-in-5-clause-some c =
    fifth_loop c.args.t.now c.args.at c.args.which c.valence.result _ c.in-5.is c.valence.ensures.value c.in_ok-repeated-in-5.ensures
