use Rattle.std.proofs.Common.{◌≡◌, sym, ◌∙◌, ap₂}
use Rattle.std.specs.Cmp.Lexicographic.{slice_cmp}
use Rattle.std.specs.Ordering.{nat_cmp}
use Rattle.cell_names.proofs.Order.{order_is}
use Rattle.cell_names.proofs.name.NameOrd.cmp.Goals as goal

pub returns-clause-before : goal.returns-clause-before
returns-clause-before c =
    let answer : c.cmp.result ≡ slice_cmp nat_cmp c.args.self.now c.args.other.now = c.cmp.ensures ∙ ap₂ (slice_cmp nat_cmp) c.sides.ensures.value c.sides-2.ensures.value in
    let order = order_is c.args.self.now c.args.other.now in
    (λ less. order.0 (sym answer ∙ less), λ before. answer ∙ order.1 before)
