-- A side of the tile is no other side, counted by its sides.
use Rattle.std.proofs.Common.{◌≡◌, ℕ, ◌<◌, ◌%◌, length, sym, ap, ◌∙◌, subst, arith, mod-eq_of_lt}
use Rattle.coincidence.specs.Cells.{IsLive, name}
use Rattle.cell_patches.specs.Patches.{PatchState, sides_in}
use Rattle.cell_patches.proofs.patch.Patch.named.Goals as goal

pub returns-clause-name : goal.returns-clause-name
returns-clause-name c there =
    let made = there.made in
    let low = there.side in
    let cell = ap (λ p. p.0) c.d.view_is in
    let side = ap (λ p. p.1) c.d.view_is in
    let sides = c.sides-sides.ensures.value (subst (λ x. x < length c.args.self.now.table.origins) (sym cell) made) ∙ ap (sides_in c.args.self.now.table) cell in
    let small : c.d.inside.side < c.sides-sides.result = omega (arith, low, sides, side) in
    let same : (c.d.inside.cell, c.d.inside.side % c.sides-sides.result) ≡ c.args.d = ap (λ i. (c.d.inside.cell, i)) (mod-eq_of_lt small) ∙ c.d.view_is in
    subst (λ (s : PatchState). c.named.result ≡ name s.table.cells c.args.d) c.self.view_is (c.named.ensures ∙ ap (name c.self.inside.joins.cells) same)

pub returns-clause-live : goal.returns-clause-live
returns-clause-live c there =
    let named = c.made.ensures.table.named (c.d.inside.cell, c.d.inside.side % c.sides-sides.result) in
    subst (λ (s : PatchState). IsLive s.table.cells c.named.result.0) c.self.view_is (subst (λ (p : ℕ × ℕ). IsLive c.self.inside.joins.cells p.0) (sym c.named.ensures) named.live)
