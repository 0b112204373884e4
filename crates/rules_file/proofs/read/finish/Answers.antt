-- Why the tables are refused.
use Rattle.std.proofs.Common.{◌≡◌, true, false, is_some, codes, vec_items, sym, subst, inl, inr, ◌⊎◌, arith}
use Rattle.serde_json.specs.Data.{Data}
use Rattle.rules_file.specs.declared.fault.Part.TheVariants.{Roots, Corners, Corner, States, State}
use Rattle.rules_file.specs.declared.fault.RulesFault.{RulesFault}
use Rattle.rules_file.specs.Spelling.{SpellsWord, SpellsCorner, SpellsState, HasVersion}
use Rattle.rules_file.specs.Faults.{Refuses}
use Rattle.rules_file.specs.Parts.{HasTables}
use Rattle.rules_file.proofs.Failures.{cleared_scale, cleared_roots, cleared_corners, roots_refused, corners_refused, states_refused}
use Rattle.rules_file.proofs.Unique.{object_with}
use Rattle.rules_file.proofs.Fitting.{word_there, scale_missing, table_refused, table_spelt, handed}
use Rattle.rules_file.proofs.read.finish.Goals as goal
use Rattle.rules_file.proofs.read.finish.Goals.{else-ranked-via-then-ranked+else-is_none, else-ranked-via-else-ranked}

pub returns-then-is_none-clause-err : goal.returns-then-is_none-clause-err
returns-then-is_none-clause-err c = λ d version has.
    let first : HasVersion true d = subst (λ r. HasVersion r d) c.if-ranked.true version in
    subst (Refuses d) (sym c.misshapen.ensures) (scale_missing d c.args.tables.scale (object_with (codes "version") d _ version) first c.if-is_none.ensures has.scale)

pub returns-in_err-roots-clause-err : goal.returns-in_err-roots-clause-err
returns-in_err-roots-clause-err c =
    let t = c.args.tables in
    let scale : (c.args.ranked ≡ false) ⊎ (is_some t.scale ≡ true) = elim c.else-ranked.branch [
      | else-ranked-via-then-ranked+else-is_none w ↦ inr w.if-is_none.ensures
      | else-ranked-via-else-ranked w ↦ inl w.if-ranked.false
    ] in
    handed (λ e. (d : Data) → HasVersion c.args.ranked d → HasTables vec_items vec_items vec_items c.args.ranked d t.version t.scale t.roots t.corners t.states → Refuses d e)
    c.from_residual.result c.in_err-roots.field-0.0 c.from_residual.ensures.1 (λ d version has.
    let three = cleared_scale d c.args.ranked (object_with (codes "version") d _ version) version (word_there (codes "scale") d c.args.ranked t.scale scale has.scale) in
    roots_refused d _ three (table_refused vec_items SpellsWord (codes "roots") d Roots Roots t.roots _ c.in_err-roots.ensures has.roots))

pub returns-in_err-corners-clause-err : goal.returns-in_err-corners-clause-err
returns-in_err-corners-clause-err c =
    let t = c.args.tables in
    let scale : (c.args.ranked ≡ false) ⊎ (is_some t.scale ≡ true) = elim c.else-ranked.branch [
      | else-ranked-via-then-ranked+else-is_none w ↦ inr w.if-is_none.ensures
      | else-ranked-via-else-ranked w ↦ inl w.if-ranked.false
    ] in
    handed (λ e. (d : Data) → HasVersion c.args.ranked d → HasTables vec_items vec_items vec_items c.args.ranked d t.version t.scale t.roots t.corners t.states → Refuses d e)
    c.from_residual-in_err-corners.result c.in_err-corners.field-0.0 c.from_residual-in_err-corners.ensures.1 (λ d version has.
    let three = cleared_scale d c.args.ranked (object_with (codes "version") d _ version) version (word_there (codes "scale") d c.args.ranked t.scale scale has.scale) in
    let four = cleared_roots d _ three (table_spelt vec_items SpellsWord (codes "roots") d Roots Roots t.roots _ c.in_ok-roots.ensures has.roots) in
    corners_refused d c.args.ranked _ version four (table_refused vec_items (SpellsCorner c.args.ranked) (codes "corners") d Corners Corner t.corners _ c.in_err-corners.ensures has.corners))

pub returns-in_err-states-clause-err : goal.returns-in_err-states-clause-err
returns-in_err-states-clause-err c =
    let t = c.args.tables in
    let scale : (c.args.ranked ≡ false) ⊎ (is_some t.scale ≡ true) = elim c.else-ranked.branch [
      | else-ranked-via-then-ranked+else-is_none w ↦ inr w.if-is_none.ensures
      | else-ranked-via-else-ranked w ↦ inl w.if-ranked.false
    ] in
    handed (λ e. (d : Data) → HasVersion c.args.ranked d → HasTables vec_items vec_items vec_items c.args.ranked d t.version t.scale t.roots t.corners t.states → Refuses d e)
    c.from_residual-in_err-states.result c.in_err-states.field-0.0 c.from_residual-in_err-states.ensures.1 (λ d version has.
    let three = cleared_scale d c.args.ranked (object_with (codes "version") d _ version) version (word_there (codes "scale") d c.args.ranked t.scale scale has.scale) in
    let four = cleared_roots d _ three (table_spelt vec_items SpellsWord (codes "roots") d Roots Roots t.roots _ c.in_ok-roots.ensures has.roots) in
    let six = cleared_corners d c.args.ranked _ version four (table_spelt vec_items (SpellsCorner c.args.ranked) (codes "corners") d Corners Corner t.corners _ c.in_ok-corners.ensures has.corners) in
    states_refused d _ six (table_refused vec_items SpellsState (codes "states") d States State t.states _ c.in_err-states.ensures has.states))
