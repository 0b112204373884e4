-- One part is what the member says, and the others stay.
use Rattle.std.proofs.Common.{vec_items, sym}
use Rattle.rules_file.specs.Spelling.{SpellsWord}
use Rattle.rules_file.specs.Taking.{value_at}
use Rattle.rules_file.proofs.Kept.{spelt_of, tables_version, tables_scale, tables_roots, tables_corners, tables_states, tables_other, on_ok}
use Rattle.rules_file.proofs.read.TablesParts.take_member.Goals as goal

pub returns-in_ok-self-in-version-clause-kept : goal.returns-in_ok-self-in-version-clause-kept
returns-in_ok-self-in-version-clause-kept c =
    let says = c.in_ok-self-in-version.ensures in
    λ ms. tables_version vec_items vec_items vec_items c.args.ranked _ c.args.name.now ms _ _ _ _ _ _ c.in-version.is (spelt_of (λ x. x) SpellsWord (value_at c.args.depth c.args.reader.now) _ says.some says.none)

pub returns-in_ok-self-in-scale-clause-kept : goal.returns-in_ok-self-in-scale-clause-kept
returns-in_ok-self-in-scale-clause-kept c =
    let says = c.in_ok-self-in-scale.ensures in
    λ ms. tables_scale vec_items vec_items vec_items c.args.ranked _ c.args.name.now ms _ _ _ _ _ _ c.in-scale.is (spelt_of (λ x. x) SpellsWord (value_at c.args.depth c.args.reader.now) _ says.some says.none)

pub returns-in_ok-self-in-roots-clause-kept : goal.returns-in_ok-self-in-roots-clause-kept
returns-in_ok-self-in-roots-clause-kept c =
    let says = c.in_ok-self-in-roots.ensures in
    λ ms. tables_roots vec_items vec_items vec_items c.args.ranked _ c.args.name.now ms _ _ _ _ _ _ c.in-roots.is says.entries

pub returns-in_ok-self-in-corners-clause-kept : goal.returns-in_ok-self-in-corners-clause-kept
returns-in_ok-self-in-corners-clause-kept c =
    let says = c.in_ok-self-in-corners.ensures in
    λ ms. tables_corners vec_items vec_items vec_items c.args.ranked _ c.args.name.now ms _ _ _ _ _ _ c.in-corners.is says.entries

pub returns-in_ok-self-in-states-clause-kept : goal.returns-in_ok-self-in-states-clause-kept
returns-in_ok-self-in-states-clause-kept c =
    let says = c.in_ok-self-in-states.ensures in
    λ ms. tables_states vec_items vec_items vec_items c.args.ranked _ c.args.name.now ms _ _ _ _ _ _ c.in-states.is says.entries

pub returns-in_default-clause-kept : goal.returns-in_default-clause-kept
returns-in_default-clause-kept c =
    let no = c.in_default in
    on_ok c.pass.result (λ ms. tables_other vec_items vec_items vec_items c.args.ranked _ c.args.name.now ms _ _ _ _ _
    (λ e. no.not-version (sym e)) (λ e. no.not-scale (sym e)) (λ e. no.not-roots (sym e)) (λ e. no.not-corners (sym e)) (λ e. no.not-states (sym e)))
