-- One cell folds, or the later of two becomes the earlier.
use Rattle.std.proofs.Common.{◌/◌, ◌%◌, ◌<◌, ap, sym, ◌∙◌, subst, arith}
use Rattle.coincidence.specs.Cells.{turn_at, name}
use Rattle.coincidence.specs.Atlases.{AreOne, walk_of, HasPeriod}
use Rattle.coincidence.proofs.Merges.{folded_together, period_apart}
use Rattle.coincidence.proofs.Periods.{one_back}
use Rattle.coincidence.proofs.table.Table.merge.Goals as goal

pub returns-then-c-e-clause-together : goal.returns-then-c-e-clause-together
returns-then-c-e-clause-together c =
    let cells = c.fold.new.self.cells.items in
    let i = c.args.x % 64 in
    let j = c.args.y % 64 in
    folded_together cells (c.args.x / 64) i j c.apart.result c.fold.ensures.moved.shaped.ordered c.fold.ensures.live c.apart.ensures c.fold.ensures.divides ∙ ap (λ e. name cells (e, j)) c.if-c-e.true

pub returns-then-c-e-clause-sound : goal.returns-then-c-e-clause-sound
returns-then-c-e-clause-sound c = λ atlas sound same.
    let cells = c.args.self.now.cells.items in
    let cell = c.args.x / 64 in
    let i = c.args.x % 64 in
    let j = c.args.y % 64 in
    let first = c.requires.first in
    let second : j < turn_at cells cell = subst (λ e. j < turn_at cells e) (sym c.if-c-e.true) c.requires.second in
    let here : AreOne atlas (walk_of atlas (cell, i)) (walk_of atlas (cell, j)) = subst (λ e. AreOne atlas (walk_of atlas (cell, i)) (walk_of atlas (e, j))) (sym c.if-c-e.true) same in
    let by = period_apart atlas cell (turn_at cells cell) i j (omega (arith, first)) (omega (arith, second)) (sound.turned cell (omega (arith, first))) here in
    c.fold.ensures.sound atlas sound (subst (HasPeriod atlas cell) (sym c.apart.ensures) by)

pub returns-else-e-c-clause-sound : goal.returns-else-e-c-clause-sound
returns-else-e-c-clause-sound c = λ atlas sound same. c.rename-else-e-c.ensures.sound atlas sound (one_back atlas same)
