-- A cell is made across a dart, and its corners are closed.
use Rattle.std.proofs.Common.{◌+◌, sym, ap, ◌∙◌, subst, arith, get_or-set_other}
use Rattle.std.proofs.Math.ListN.{set}
use Rattle.region_grower.specs.Growth.{HasGrown}
use Rattle.region_grower.specs.Regions.{IsGrowing, StayLevel}
use Rattle.region_grower.proofs.Level.{level_alike, level_made, level_closed}
use Rattle.region_grower.proofs.Steps.{grown_same, grown_made, grown_on}
use Rattle.region_grower.proofs.Making.{pushed_same, growing_pushed, wanted_pushed, pushed_length, pushed_read, growing_closed, growing_made}
use Rattle.region_grower.proofs.growth.make.Goals as goal

pub returns-in_err-push-clause-grown : goal.returns-in_err-push-clause-grown
returns-in_err-push-clause-grown c = grown_same c.args.joins.now c.requires.growing.table

pub returns-in_err-cell-clause-growing : goal.returns-in_err-cell-clause-growing
returns-in_err-cell-clause-growing c = subst (λ t. IsGrowing t c.push.new.self.items c.args.within) (sym c.in_err-cell.ensures.unchanged) (growing_pushed c.args.joins.now c.args.radii.now.items c.push.new.self.items c.args.within 1000000 c.in_ok-push.ensures.items c.requires.growing)

pub returns-in_err-cell-clause-grown : goal.returns-in_err-cell-clause-grown
returns-in_err-cell-clause-grown c = subst (HasGrown c.args.joins.now) (sym c.in_err-cell.ensures.unchanged) (grown_same c.args.joins.now c.requires.growing.table)

pub overflow_add-index : goal.overflow_add-index
overflow_add-index c =
    let items = c.in_ok-push.ensures.items in
    let before = c.args.radii.now.items in
    let after = c.push.new.self.items in
    let wanted = wanted_pushed c.args.joins.now before after c.args.within 1000000 items c.requires.growing c.args.d c.requires.wanted in
    let near = wanted.near in
    let read = pushed_read c.args.joins.now before after c.args.within 1000000 items c.requires.growing c.args.d c.d.inside.cell c.index.result.now c.requires.wanted.dart.live (ap (λ d. d.0) c.d.view_is) c.index.ensures in
    omega (arith, read, near, c.requires.few)

pub returns-in_err-push-clause-level : goal.returns-in_err-push-clause-level
returns-in_err-push-clause-level c = subst (λ rs. StayLevel c.args.joins.now c.args.radii.now.items c.args.joins.now rs) (sym c.in_err-push.ensures.items) (λ m gone h. h)

pub returns-in_err-cell-clause-level : goal.returns-in_err-cell-clause-level
returns-in_err-cell-clause-level c =
    let t = c.args.joins.now in
    let before = c.args.radii.now.items in
    let after = c.push.new.self.items in
    let long = c.requires.growing.long in
    subst (λ t'. StayLevel t before t' after) (sym c.in_err-cell.ensures.unchanged) (level_alike t c.requires.growing.table before after (λ k low. pushed_same t before after c.args.within 1000000 c.in_ok-push.ensures.items c.requires.growing k (omega (arith, low, long))))

pub returns-clause-level : goal.returns-clause-level
returns-clause-level c = λ m gone h.
    let t = c.args.joins.now in
    let t1 = c.make_across.new.self in
    let before = c.args.radii.now.items in
    let after = c.push.new.self.items in
    let w = c.in_ok-cell.cell in
    let made = c.in_ok-cell.ensures.made in
    let long = c.requires.growing.long in
    let last = set after w (c.index.result.now + 1) in
    let alike = level_alike t c.requires.growing.table before last (λ k low. get_or-set_other after w k (c.index.result.now + 1) 0 (λ e. omega (arith, e, low, made.number)) ∙ pushed_same t before after c.args.within 1000000 c.in_ok-push.ensures.items c.requires.growing k (omega (arith, low, long))) in
    let on = level_made t t1 c.requires.growing.table c.in_ok-cell.ensures.table c.args.d w made c.requires.wanted.dart c.requires.wanted.unjoined last m gone (alike m gone h) in
    level_closed t1 c.close_new.new.joins c.in_ok-cell.ensures.table c.close_new.ensures.table c.close_new.ensures.moved last m gone on

pub returns-clause-growing : goal.returns-clause-growing
returns-clause-growing c =
    let t = c.args.joins.now in
    let t1 = c.make_across.new.self in
    let n = c.args.within in
    let w = c.in_ok-cell.cell in
    let made = c.in_ok-cell.ensures.made in
    let table = c.in_ok-cell.ensures.table in
    let items = c.in_ok-push.ensures.items in
    let before = c.args.radii.now.items in
    let after = c.push.new.self.items in
    let longer = pushed_length t before after n 1000000 items c.requires.growing in
    let growing = growing_pushed t before after n 1000000 items c.requires.growing in
    let wanted = wanted_pushed t before after n 1000000 items c.requires.growing c.args.d c.requires.wanted in
    let read = pushed_read t before after n 1000000 items c.requires.growing c.args.d c.d.inside.cell c.index.result.now c.requires.wanted.dart.live (ap (λ d. d.0) c.d.view_is) c.index.ensures in
    let long = c.requires.growing.long in
    let on = growing_made t t1 after n growing table c.args.d w wanted made (omega (arith, long, longer, made.number)) in
    let first : IsGrowing t1 (set after w (c.index.result.now + 1)) n = subst (λ x. IsGrowing t1 (set after w (x + 1)) n) (sym read) on in
    growing_closed t1 c.close_new.new.joins (set after w (c.index.result.now + 1)) n c.close_new.ensures.table c.close_new.ensures.moved first

pub returns-clause-grown : goal.returns-clause-grown
returns-clause-grown c =
    let made = grown_made c.args.joins.now c.make_across.new.self c.requires.growing.table c.args.d c.in_ok-cell.cell c.in_ok-cell.ensures.made c.requires.wanted.dart c.requires.wanted.unjoined in
    grown_on c.args.joins.now c.make_across.new.self c.close_new.new.joins c.requires.growing.table made c.close_new.ensures.moved.grown
