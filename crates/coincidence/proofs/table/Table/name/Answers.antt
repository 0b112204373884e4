-- A renamed cell's side has the name of the side that it became, and a live cell's that of the least side equal to it.
use Rattle.std.proofs.Common.{◌≡◌, ◌+◌, ◌*◌, ◌%◌, ◌<◌, sym, ap, ◌∙◌, subst, arith}
use Rattle.std.proofs.lemmas.List.{get_or_read}
use Rattle.coincidence.specs.declared.table.Cell.{Cell}
use Rattle.coincidence.specs.Darts.{pack}
use Rattle.coincidence.specs.Cells.{name, cell_at, turn_at, into_at, no_cell}
use Rattle.coincidence.proofs.Names.{name_renamed, name_live}
use Rattle.coincidence.proofs.table.Table.name.Goals as goal

pub loop-here-preserved : goal.loop-here-preserved
loop-here-preserved c =
    let xs = c.args.self.now.cells.items in
    let h = c.loop-here.invariant in
    let is : cell_at xs c.loop-here.at ≡ c.loop-here.here = sym h.here in
    let gone : turn_at xs c.loop-here.at ≡ 0 = ap (λ (x : Cell). x.turn) is ∙ c.loop-here-test.true in
    let below : into_at xs c.loop-here.at < c.loop-here.at = c.requires.shaped.ordered c.loop-here.at gone in
    let to : c.loop-here.here.into ≡ into_at xs c.loop-here.at = ap (λ (x : Cell). x.into) h.here in
    let more = c.requires.shaped.shifts c.loop-here.at in
    record {
      here = get_or_read xs c.loop-here.here.into c.index-here-in-loop-here.result.now (omega (arith, to, below, h.made)) c.index-here-in-loop-here.ensures no_cell;
      made = omega (arith, to, below, h.made);
      small = omega (arith, to, below, h.small, more, ap (λ (x : Cell). x.shift) h.here);
      same = subst (λ (x : Cell). name xs (x.into, c.loop-here.turned + x.shift) ≡ name xs (c.args.cell, c.args.side)) is (sym (name_renamed xs c.requires.shaped.ordered c.loop-here.at c.loop-here.turned gone) ∙ h.same);
    }

pub returns : goal.returns
returns c =
    let xs = c.args.self.now.cells.items in
    let h = c.loop-here.invariant in
    let is : cell_at xs c.loop-here.at ≡ c.loop-here.here = sym h.here in
    let live : 0 < turn_at xs c.loop-here.at = subst (λ (x : Cell). 0 < x.turn) h.here (omega (arith, c.loop-here-test.false)) in
    let named : name xs (c.args.cell, c.args.side) ≡ (c.loop-here.at, c.loop-here.turned % turn_at xs c.loop-here.at) = sym h.same ∙ name_live xs c.requires.shaped.ordered c.loop-here.at c.loop-here.turned live in
    ap (λ (x : Cell). c.loop-here.at * 64 + c.loop-here.turned % x.turn) h.here ∙ (omega arith ∙ sym (ap pack named))
