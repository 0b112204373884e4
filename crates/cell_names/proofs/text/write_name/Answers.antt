use Rattle.std.proofs.Common.{◌≡◌, ℕ, decimal, suc, ◌<◌, List, ◌∷◌, ◌++◌, length, sym, ◌∙◌, ap, subst, arith}
use Rattle.std.proofs.lemmas.List.{append_assoc}
use Rattle.std.proofs.lemmas.List.Elements.{All-rest}
use Rattle.cell_names.specs.Name.{IsName}
use Rattle.cell_names.specs.Text.{name_text}
use Rattle.cell_names.proofs.Reading.{behind, name_text-cons, spells_no_other}
use Rattle.cell_names.proofs.text.write_name.Goals as goal

pub loop-side-init : goal.loop-side-init
loop-side-init c =
    let first = c.in-Some.first.now in
    let others = c.in-Some.others.now in
    let start = c.args.out.now.items in
    let split : c.args.name.now ≡ first ∷ others = sym c.sides.ensures.value ∙ c.in-Some.ensures.cases.0 in
    let count : length c.args.name.now ≡ suc (length others) = ap length split in
    let written = c.put_side.ensures.written ∙ ap (λ (l : List ℕ). l ++ decimal first) c.reserve.ensures.items in (
      ap (λ (l : List ℕ). l ++ behind others) written
          ∙ append_assoc start (decimal first) (behind others)
          ∙ ap (λ (l : List ℕ). start ++ l) (sym (name_text-cons first others) ∙ ap name_text (sym split)),
      omega (arith, count, c.len.ensures, c.in-Some-checked_mul.ensures, c.in_ok-reserve.ensures.ok, c.put_side.ensures.len, c.put_side.ensures.capacity),
    )

pub put_side-requires-in-loop-side-clause-below : goal.put_side-requires-in-loop-side-clause-below
put_side-requires-in-loop-side-clause-below c =
    All-rest (λ s. s < 64) c.in-Some.first.now c.in-Some.others.now c.sides.result.now c.in-Some.ensures.cases.0 c.sides.ensures.below c.loop-side.side-index 0 c.loop-side-test.true

pub returns-clause-of_no_other : goal.returns-clause-of_no_other
returns-clause-of_no_other c = spells_no_other c.args.name.now (subst (λ (l : List ℕ). IsName l) c.sides.ensures.value c.sides.ensures.below)
