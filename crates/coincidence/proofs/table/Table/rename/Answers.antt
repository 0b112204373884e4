-- The earlier cell folds to what both turns have in common, and then the later cell becomes it.
use Rattle.std.proofs.Common.{◌≡◌, ◌+◌, ◌-◌, ◌%◌, ◌<◌, ◌≤◌, length, ap, sym, subst, arith}
use Rattle.std.proofs.lemmas.List.{get_or_read}
use Rattle.coincidence.specs.declared.table.Cell.{Cell}
use Rattle.coincidence.specs.Cells.{no_cell, cell_at, turn_at}
use Rattle.coincidence.specs.Atlases.{HasPeriod}
use Rattle.coincidence.proofs.Settled.{live_made}
use Rattle.coincidence.proofs.Moves.{moved_on}
use Rattle.coincidence.proofs.Merges.{renamed_together}
use Rattle.coincidence.proofs.Periods.{period_moved, first_side}
use Rattle.coincidence.proofs.table.Table.rename.Goals as goal

pub returns-clause-moved : goal.returns-clause-moved
returns-clause-moved c = moved_on c.args.self.now c.fold.new.self c.shrink.new.self c.fold.ensures.moved c.shrink.ensures.moved

pub returns-clause-together : goal.returns-clause-together
returns-clause-together c =
    let xs = c.args.self.now.cells.items in
    let ys = c.fold.new.self.cells.items in
    let is : c.index.result.now ≡ cell_at xs c.args.later = get_or_read xs c.args.later c.index.result.now c.requires.later c.index.ensures no_cell in
    let made : c.args.later < length ys = omega (arith, c.fold.ensures.moved.followed.count, c.requires.later) in
    let shared : c.index-2.result.now ≡ cell_at ys c.args.earlier = get_or_read ys c.args.earlier c.index-2.result.now (live_made ys c.args.earlier c.fold.ensures.live) c.index-2.ensures no_cell in
    let within : c.args.i ≤ c.index.result.now.turn = omega (arith, ap (λ (x : Cell). x.turn) is, c.requires.side) in
    renamed_together ys c.shrink.new.self.cells.items c.args.later c.args.i c.args.earlier c.args.j c.index.result.now.turn _ _ made c.requires.before c.shrink.ensures.moved.shaped.ordered c.shrink.ensures.cells c.fold.ensures.live c.fold.ensures.divides within (ap (λ (x : Cell). (c.args.j + (c.index.result.now.turn - c.args.i)) % x.turn) shared)

pub returns-clause-sound : goal.returns-clause-sound
returns-clause-sound c = λ atlas sound same.
    let xs = c.args.self.now.cells.items in
    let ys = c.fold.new.self.cells.items in
    let later = c.args.later in
    let earlier = c.args.earlier in
    let turn = c.index.result.now.turn in
    let is : c.index.result.now ≡ cell_at xs later = get_or_read xs later c.index.result.now c.requires.later c.index.ensures no_cell in
    let within : c.args.i ≤ turn = omega (arith, ap (λ (x : Cell). x.turn) is, c.requires.side) in
    let of_later : HasPeriod atlas later turn = subst (λ (x : Cell). HasPeriod atlas later x.turn) (sym is) (sound.turned later (omega (arith, c.requires.side))) in
    let of_earlier : HasPeriod atlas earlier (turn_at xs earlier) = sound.turned earlier (omega (arith, c.requires.other_side)) in
    let moved = period_moved atlas later c.args.i earlier c.args.j (turn_at xs earlier) turn (omega (arith, c.requires.other_side)) of_earlier same of_later in
    let folded = c.fold.ensures.sound atlas sound moved in
    let read : c.index-2.result.now ≡ cell_at ys earlier = get_or_read ys earlier c.index-2.result.now (live_made ys earlier c.fold.ensures.live) c.index-2.ensures no_cell in
    let shared : HasPeriod atlas earlier c.index-2.result.now.turn = subst (λ (x : Cell). HasPeriod atlas earlier x.turn) (sym read) (folded.turned earlier c.fold.ensures.live) in
    c.shrink.ensures.sound atlas folded (λ some. absurd (omega (arith, some)), λ _. first_side atlas later c.args.i earlier c.args.j turn c.index-2.result.now.turn within of_later shared same)
