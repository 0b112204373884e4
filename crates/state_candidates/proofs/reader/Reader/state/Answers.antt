-- A state, or nothing where its rules or its claims are not there.
use Rattle.std.proofs.Common.{◌≡◌, ℕ, Option, Some, None, Vec, Global, sym, ap, ap₂, ◌∙◌}
use Rattle.std.specs.Option.{option_map}
use Rattle.tree_model.specs.declared.Rule.{Rule}
use Rattle.tree_model.specs.declared.Claim.{Claim}
use Rattle.tree_model.specs.Automata.{TreeState}
use Rattle.coincidence.specs.Cells.{turn_at}
use Rattle.state_candidates.specs.Reading.{rules_of, claims_of}
use Rattle.state_candidates.proofs.Joined.{some_sides, not_live}
use Rattle.state_candidates.proofs.Renamed.{no_state, state_without_rules, state_without_claims, state_with}
use Rattle.state_candidates.proofs.reader.Reader.state.Goals as goal

pub returns-then-not-is_live : goal.returns-then-not-is_live
returns-then-not-is_live c =
    let v = c.args.self.now in
    let gone : turn_at v.region.table.cells c.args.cell ≡ 0 = not_live v.region.table c.args.cell c.is_live.result c.is_live.ensures.value.1 c.if-not-is_live.true in
    sym (no_state v.region v.lists v.first_state v.first_corner c.args.cell gone (some_sides v.region c.is_live.ensures.table c.args.cell c.requires))

pub returns-in_default : goal.returns-in_default
returns-in_default c =
    let v = c.args.self.now in
    let none : rules_of v.region v.lists v.first_state c.args.cell ≡ None = sym c.in_ok-rules.ensures ∙ ap (λ (o : Option (Vec Rule Global)). option_map (λ w. w.items) o) c.in_default.is in
    sym (state_without_rules v.region v.lists v.first_state v.first_corner c.args.cell none)

pub returns-in_default-2 : goal.returns-in_default-2
returns-in_default-2 c =
    let v = c.args.self.now in
    let none : claims_of v.region v.lists v.first_corner c.args.cell ≡ None = sym c.in_ok-claims.ensures ∙ ap (λ (o : Option (Vec Claim Global)). option_map (λ w. w.items) o) c.in_default-2.is in
    sym (state_without_claims v.region v.lists v.first_state v.first_corner c.args.cell none)

pub returns : goal.returns
returns c =
    let v = c.args.self.now in
    let rules : rules_of v.region v.lists v.first_state c.args.cell ≡ Some c.in-Some.rules.items = sym c.in_ok-rules.ensures ∙ ap (λ (o : Option (Vec Rule Global)). option_map (λ w. w.items) o) c.in-Some.is in
    let claims : claims_of v.region v.lists v.first_corner c.args.cell ≡ Some c.in-Some-2.claims.items = sym c.in_ok-claims.ensures ∙ ap (λ (o : Option (Vec Claim Global)). option_map (λ w. w.items) o) c.in-Some-2.is in
    let whole = state_with v.region v.lists v.first_state v.first_corner c.args.cell c.in-Some.rules.items c.in-Some-2.claims.items rules claims in
    let of = λ (k o : ℕ). let s : TreeState = record { kind = k; off = o; rules = c.in-Some.rules.items; claims = c.in-Some-2.claims.items } in Some s in
    sym (whole ∙ ap₂ of (sym c.kind.ensures) (sym c.residue.ensures))
