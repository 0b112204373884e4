-- One cell is added to a table of none.
use Rattle.std.proofs.Common.{◌≡◌, ◌<◌, List, [], ◌∷◌, ◌++◌, length, sym, ap, ◌∙◌, subst}
use Rattle.std.proofs.lemmas.List.{get_or_read}
use Rattle.tile_model.specs.Tessellations.{TileKind, kind_at, no_kind}
use Rattle.tile_model.specs.Validity.{IsValid}
use Rattle.coincidence.specs.declared.origin.Origin.{Origin}
use Rattle.coincidence.specs.Pending.{IsExtended}
use Rattle.coincidence.specs.Joined.{IsKept}
use Rattle.coincidence.proofs.Kept.{kept_table}
use Rattle.coincidence.proofs.Made.{first_kept}
use Rattle.coincidence.proofs.joins.Joins.first.Goals as goal

kept : (c : goal.In_ok-extend) → IsKept c.args.t.now c.push.new.self.items c.extend.new.self
kept c =
    let kinds = c.args.t.now in
    let there : c.args.kind < length c.all_kinds.result.now = subst (λ (ks : List TileKind). c.args.kind < length ks) (sym c.all_kinds.ensures.value) c.requires in
    let x = c.index-all_kinds-kind in
    let tile : x.result ≡ kind_at kinds c.args.kind = get_or_read c.all_kinds.result.now c.args.kind x.result there x.is no_kind ∙ ap (λ ks. kind_at ks c.args.kind) c.all_kinds.ensures.value in
    let sides = ap (λ (x : TileKind). x.sides) (c.tile.view_is ∙ tile) in
    let valid : IsValid kinds = c.all_kinds.ensures.valid in
    let origins = c.in_ok-push.ensures.items ∙ ap (λ (os : List Origin). os ++ record { kind = c.args.kind; own = 0; across = 0 } ∷ []) c.new-origins.ensures.items in
    let extended = subst (IsExtended c.empty-table.result c.extend.new.self) sides c.in_ok-extend.ensures.extended in
    subst (λ os. IsKept kinds os c.extend.new.self) (sym origins) (first_kept kinds valid c.args.kind c.requires c.empty-table.result c.extend.new.self c.empty-table.ensures.cells c.empty-table.ensures.slots c.empty-table.ensures.head c.empty-table.ensures.live extended)

pub invariant_of-result : goal.invariant_of-result
invariant_of-result c = kept c

pub returns-clause-table : goal.returns-clause-table
returns-clause-table c = kept_table c.args.t.now c.push.new.self.items c.extend.new.self (kept c)
