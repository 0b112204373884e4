-- The sides of a cell stand in the list from its start on.
use Rattle.std.proofs.Common.{◌≡◌, ◌+◌, ap, ap₂, ◌∙◌, subst, arith}
use Rattle.std.proofs.lemmas.List.{get_or_read}
use Rattle.look_classes.specs.Classes.{made}
use Rattle.look_classes.specs.Codes.{start_of, AreStarts}
use Rattle.look_classes.specs.Numbers.{entry}
use Rattle.look_classes.proofs.Darts.{dart_made, side_low}
use Rattle.look_classes.proofs.Listed.{start_at, starts_few}
use Rattle.look_classes.proofs.places.Places.number.Goals as goal

pub overflow_add-result : goal.overflow_add-result
overflow_add-result c =
    let r = c.args.self.now in
    let table = c.region-region.ensures.table in
    let own = dart_made r table c.args.d c.requires.dart in
    let low = side_low r table c.args.d c.requires.dart in
    let starts : AreStarts r c.self.inside.starts.items = subst (λ v. AreStarts v c.self.inside.starts.items) c.self.view_is c.self.invariant.1 in
    let cell = ap (λ d. d.0) c.d.view_is in
    let side = ap (λ d. d.1) c.d.view_is in
    let is : c.index.result.now ≡ start_of r c.d.inside.cell = get_or_read c.self.inside.starts.items c.d.inside.cell c.index.result.now (omega (arith, own, cell, starts.long)) c.index.ensures 0 ∙ starts.begins c.d.inside.cell (omega (arith, own, cell)) in
    let at = start_at r (made r) c.args.d.0 c.args.d.1 (0, 0) own low in
    let few = starts_few r table (made r) (omega arith) in
    let few_cells = table.few in
    omega (arith, is, at.0, few, few_cells, side, c.from.ensures, ap (start_of r) cell)

pub bounds-numbers-index : goal.bounds-numbers-index
bounds-numbers-index c =
    let r = c.args.self.now in
    let table = c.region-region.ensures.table in
    let own = dart_made r table c.args.d c.requires.dart in
    let low = side_low r table c.args.d c.requires.dart in
    let starts : AreStarts r c.self.inside.starts.items = subst (λ v. AreStarts v c.self.inside.starts.items) c.self.view_is c.self.invariant.1 in
    let cell = ap (λ d. d.0) c.d.view_is in
    let side = ap (λ d. d.1) c.d.view_is in
    let is : c.index.result.now ≡ start_of r c.d.inside.cell = get_or_read c.self.inside.starts.items c.d.inside.cell c.index.result.now (omega (arith, own, cell, starts.long)) c.index.ensures 0 ∙ starts.begins c.d.inside.cell (omega (arith, own, cell)) in
    let at = start_at r (made r) c.args.d.0 c.args.d.1 (0, 0) own low in
    omega (arith, is, at.0, side, c.from.ensures, ap (start_of r) cell, c.requires.long)

pub returns : goal.returns
returns c =
    let r = c.args.self.now in
    let table = c.region-region.ensures.table in
    let own = dart_made r table c.args.d c.requires.dart in
    let starts : AreStarts r c.self.inside.starts.items = subst (λ v. AreStarts v c.self.inside.starts.items) c.self.view_is c.self.invariant.1 in
    let cell = ap (λ d. d.0) c.d.view_is in
    let side = ap (λ d. d.1) c.d.view_is in
    let is : c.index.result.now ≡ start_of r c.d.inside.cell = get_or_read c.self.inside.starts.items c.d.inside.cell c.index.result.now (omega (arith, own, cell, starts.long)) c.index.ensures 0 ∙ starts.begins c.d.inside.cell (omega (arith, own, cell)) in
    ap (entry c.args.numbers.now) (ap₂ (λ a b. a + b) (is ∙ ap (start_of r) cell) (c.from.ensures ∙ side))
