-- What was made is settled, and then there is an answer.
use Rattle.std.proofs.Common.{◌≤◌, List, length, sym, ◌∙◌, subst, arith}
use Rattle.std.proofs.lemmas.List.{take_at}
use Rattle.coincidence.specs.declared.origin.Origin.{Origin}
use Rattle.region_grower.specs.Regions.{AreRadii, AreLevel}
use Rattle.region_grower.specs.Answers.{IsReady}
use Rattle.region_grower.proofs.Steps.{grown_same, grown_settled}
use Rattle.region_grower.proofs.Level.{ready_level}
use Rattle.region_grower.proofs.Making.{ready_growing}
use Rattle.region_grower.proofs.growth.advance.Goals as goal

pub loop-answer-init : goal.loop-answer-init
loop-answer-init c = record { ready = c.requires.ready; answer = c.answer_of-answer.ensures; at_most = c.requires.made; grown = grown_same c.args.joins.now c.requires.ready.table }

pub make_cells-made-requires-clause-growing : goal.make_cells-made-requires-clause-growing
make_cells-made-requires-clause-growing c = ready_growing c.loop-answer.joins c.loop-answer.radii.items c.args.within c.loop-answer.whole c.loop-answer.invariant.ready

pub settle-requires-clause-level : goal.settle-requires-clause-level
settle-requires-clause-level c =
    let before = ready_level c.loop-answer.joins c.loop-answer.radii.items c.args.within c.loop-answer.whole c.renamed-gone.result c.renamed-gone.ensures c.loop-answer.invariant.ready in
    subst (λ rs. AreLevel c.make_cells-made.new.joins rs c.loop-answer.whole c.renamed-gone.result) (sym c.deref_mut.ensures.value) (c.make_cells-made.ensures.level c.loop-answer.whole c.renamed-gone.result before)

pub returns-in_err-made-clause-grown : goal.returns-in_err-made-clause-grown
returns-in_err-made-clause-grown c = grown_settled c.args.joins.now c.loop-answer.joins c.make_cells-made.new.joins c.settle.new.joins c.requires.ready.table c.loop-answer.invariant.grown c.make_cells-made.ensures.grown c.settle.ensures.grown

pub answer_of-answer-requires-in-Open-clause-radii : goal.answer_of-answer-requires-in-Open-clause-radii
answer_of-answer-requires-in-Open-clause-radii c =
    let same = c.deref-in-Open.ensures.value ∙ take_at c.settle.new.radii _ c.make_cells-made.new.radii.len (omega (arith, c.settle.auto.radii, c.deref_mut.ensures.len)) in
    subst (AreRadii c.settle.new.joins) (sym same) c.settle.ensures.ready.measured

pub loop-answer-preserved : goal.loop-answer-preserved
loop-answer-preserved c =
    let same = take_at c.settle.new.radii _ c.make_cells-made.new.radii.len (omega (arith, c.settle.auto.radii, c.deref_mut.ensures.len)) in
    record {
      ready = subst (λ rs. IsReady c.settle.new.joins rs c.args.within c.settle.result) (sym same) c.settle.ensures.ready;
      answer = c.answer_of-answer-in-Open.ensures;
      at_most = subst (λ (os : List Origin). length os ≤ c.args.most) (sym c.settle.ensures.made) c.make_cells-made.ensures.at_most;
      grown = grown_settled c.args.joins.now c.loop-answer.joins c.make_cells-made.new.joins c.settle.new.joins c.requires.ready.table c.loop-answer.invariant.grown c.make_cells-made.ensures.grown c.settle.ensures.grown;
    }
