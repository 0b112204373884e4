-- A period that both numbers of turns have in common.
use Rattle.std.proofs.Common.{◌≡◌, sym, subst, arith}
use Rattle.std.proofs.lemmas.List.{get_or_read}
use Rattle.coincidence.specs.declared.table.Cell.{Cell}
use Rattle.coincidence.specs.Cells.{no_cell, cell_at}
use Rattle.coincidence.specs.Atlases.{HasPeriod}
use Rattle.coincidence.proofs.Moves.{moved_same}
use Rattle.coincidence.proofs.table.Table.fold.Goals as goal

pub returns-then-less-turn-clause-sound : goal.returns-then-less-turn-clause-sound
returns-then-less-turn-clause-sound c = λ atlas sound by.
    let is : c.index.result.now ≡ cell_at c.args.self.now.cells.items c.args.cell = get_or_read c.args.self.now.cells.items c.args.cell c.index.result.now c.requires.cell c.index.ensures no_cell in
    let turned : HasPeriod atlas c.args.cell c.index.result.now.turn = subst (λ (x : Cell). HasPeriod atlas c.args.cell x.turn) (sym is) (sound.turned c.args.cell c.requires.live) in
    c.shrink.ensures.sound atlas sound (λ some. c.common_divisor-less.ensures.periods atlas c.args.cell turned by, λ none. absurd (omega (arith, none, c.common_divisor-less.ensures.positive)))

pub returns-else-less-turn-clause-moved : goal.returns-else-less-turn-clause-moved
returns-else-less-turn-clause-moved c = moved_same c.args.self.now c.requires.shaped
