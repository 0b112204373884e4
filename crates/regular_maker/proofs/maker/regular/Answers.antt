use Rattle.std.proofs.Common.{◌≡◌, ◌≤◌, ◌*◌, ◌-◌, ℕ, List, ap, ap₂, sym, ◌∙◌, subst, arith}
use Rattle.tile_model.specs.Tessellations.{TileKind, kind_at, valence}
use Rattle.tree_model.specs.Conditions.{IsAccepted}
use Rattle.regular_maker.specs.Regular.{IsRegular, IsInfinite, p_of, q_of}
use Rattle.regular_maker.specs.Automaton.{regular_automaton}
use Rattle.regular_maker.proofs.Accepted.{accepted}
use Rattle.regular_maker.proofs.maker.regular.Goals as goal

pub of_accepted-requires : goal.of_accepted-requires
of_accepted-requires c =
    let tess = c.args.t.now in
    let p : c.sides-p.result ≡ p_of tess
    = c.sides-p.ensures.value
    ∙ ap (λ (d : ℕ × ℕ). (kind_at tess d.0).sides) c.start-start.ensures.value in
    let q : c.valence-q.result ≡ q_of tess = c.valence-q.ensures.value
    ∙ ap (valence tess) c.start-start.ensures.value in
    let regular : IsRegular tess
    = record {
      one_kind = omega arith;
      one_type = omega (
        arith,
        ap (λ (k : TileKind). k.repeat) c.kind.ensures,
        ap (λ (k : TileKind). k.repeat) c.behind-t.view_is,
      );
    } in
    let infinite : IsInfinite (p_of tess) (q_of tess)
    = subst (λ n. 4 ≤ (p_of tess - 2) * (n - 2)) q
    (subst (λ n. 4 ≤ (n - 2) * (c.valence-q.result - 2)) p c.if-p-q-lt4.false) in
    let fits = accepted tess c.kinds.ensures.valid regular infinite in
    let made : c.in_ok-automaton.automaton ≡ regular_automaton (p_of tess) (q_of tess)
    = c.in_ok-automaton.ensures ∙ ap₂ regular_automaton p q in
    subst (λ (t : List TileKind). IsAccepted t c.in_ok-automaton.automaton)
    (sym c.in_ok-tess.ensures) (subst (IsAccepted tess) (sym made) fits)
