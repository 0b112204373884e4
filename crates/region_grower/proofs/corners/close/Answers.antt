-- Round the corner from dart to dart, and back to the first one.
use Rattle.std.proofs.Common.{◌≡◌, ◌-◌, Some, None, sym, ap, ap₂, ◌∙◌, subst}
use Rattle.tile_model.specs.Tessellations.{valence}
use Rattle.coincidence.specs.Cells.{IsLive}
use Rattle.coincidence.specs.Atlases.{LieAcross}
use Rattle.coincidence.specs.Tables.{joined_to, atlas}
use Rattle.region_grower.specs.Corners.{left_of, rounds, valence_at}
use Rattle.region_grower.proofs.Rounds.{rounds_dart}
use Rattle.region_grower.proofs.Closing.{dart_side, last_across, passed_joined, closed_none, closed_back}
use Rattle.region_grower.proofs.Passes.{passed_none}
use Rattle.region_grower.proofs.corners.close.Goals as goal

pub round-requires : goal.round-requires
round-requires c = dart_side c.args.joins.now c.requires.table c.args.d c.requires.dart

pub left-over-requires : goal.left-over-requires
left-over-requires c =
    let t = c.args.joins.now in
    let come : rounds (c.valence-valence.result - 1) t c.args.d ≡ Some c.in-Some.last = sym c.round.ensures ∙ c.in-Some.is in
    dart_side t c.requires.table c.in-Some.last (rounds_dart t c.requires.table (c.valence-valence.result - 1) c.args.d c.in-Some.last c.requires.dart come)

pub join-requires-clause-live : goal.join-requires-clause-live
join-requires-clause-live c =
    let t = c.args.joins.now in
    let come : rounds (c.valence-valence.result - 1) t c.args.d ≡ Some c.in-Some.last = sym c.round.ensures ∙ c.in-Some.is in
    subst (λ d. IsLive t.cells d.0) (sym c.left-over.ensures) (rounds_dart t c.requires.table (c.valence-valence.result - 1) c.args.d c.in-Some.last c.requires.dart come).live

pub join-requires-clause-across : goal.join-requires-clause-across
join-requires-clause-across c =
    let t = c.args.joins.now in
    let all : c.valence-valence.result ≡ valence_at t c.args.d = c.valence-valence.ensures.value ∙ ap₂ (λ ks d. valence ks d) c.tessellation.ensures.value c.type_of.ensures.value in
    let come : rounds (valence_at t c.args.d - 1) t c.args.d ≡ Some c.in-Some.last = ap (λ n. rounds (n - 1) t c.args.d) (sym all) ∙ (sym c.round.ensures ∙ c.in-Some.is) in
    subst (λ d. LieAcross (atlas t) d c.args.d) (sym c.left-over.ensures) (last_across t c.requires.table c.args.d c.requires.dart c.in-Some.last come)

pub returns : goal.returns
returns c =
    let t = c.args.joins.now in
    let come : rounds (c.valence-valence.result - 1) t c.args.d ≡ Some c.in-Some.last = sym c.round.ensures ∙ c.in-Some.is in
    let live : IsLive t.cells c.left-over.result.0 = subst (λ d. IsLive t.cells d.0) (sym c.left-over.ensures) (rounds_dart t c.requires.table (c.valence-valence.result - 1) c.args.d c.in-Some.last c.requires.dart come).live in
    let not_yet : ¬ (joined_to t c.left-over.result ≡ Some c.args.d) = λ is. let yes = c.is_joined.ensures.1 is in absurd (cc (yes, c.if-is_joined.false)) in
    passed_joined t c.requires.table c.args.d c.requires.dart c.join.new.self c.left-over.result c.join.ensures.table c.join.ensures.renamed live not_yet c.join.ensures.joined

pub returns-in_default : goal.returns-in_default
returns-in_default c =
    let t = c.args.joins.now in
    let all : c.valence-valence.result ≡ valence_at t c.args.d = c.valence-valence.ensures.value ∙ ap₂ (λ ks d. valence ks d) c.tessellation.ensures.value c.type_of.ensures.value in
    let none : rounds (valence_at t c.args.d - 1) t c.args.d ≡ None = ap (λ n. rounds (n - 1) t c.args.d) (sym all) ∙ (sym c.round.ensures ∙ c.in_default.is) in
    passed_none t c.requires.table (closed_none t c.requires.table c.args.d c.requires.dart none)

pub returns-then-is_joined : goal.returns-then-is_joined
returns-then-is_joined c =
    let t = c.args.joins.now in
    let all : c.valence-valence.result ≡ valence_at t c.args.d = c.valence-valence.ensures.value ∙ ap₂ (λ ks d. valence ks d) c.tessellation.ensures.value c.type_of.ensures.value in
    let come : rounds (valence_at t c.args.d - 1) t c.args.d ≡ Some c.in-Some.last = ap (λ n. rounds (n - 1) t c.args.d) (sym all) ∙ (sym c.round.ensures ∙ c.in-Some.is) in
    let joined : joined_to t (left_of c.in-Some.last) ≡ Some c.args.d = ap (joined_to t) (sym c.left-over.ensures) ∙ c.is_joined.ensures.0 c.if-is_joined.true in
    passed_none t c.requires.table (closed_back t c.requires.table c.args.d c.requires.dart c.in-Some.last come joined)
