-- One reader more, or too many states or corner types.
use Rattle.std.proofs.Common.{◌≡◌, ◌+◌, [], ◌∷◌, List, length, sym, ap, ◌∙◌, subst, arith}
use Rattle.std.proofs.Math.ListN.{length-append}
use Rattle.std.proofs.lemmas.List.{get_or_default}
use Rattle.look_classes.specs.Classes.{AreClasses}
use Rattle.look_classes.specs.States.{LooksState}
use Rattle.state_candidates.specs.Candidates.{no_looks, looks_at, states_before, corners_before}
use Rattle.state_candidates.specs.Readers.{ReaderState}
use Rattle.state_candidates.specs.Gathered.{AreReadersOf, lists_of}
use Rattle.state_candidates.proofs.Gathering.{before_next, readers_more, too_many}
use Rattle.state_candidates.proofs.gather.readers.Goals as goal

pub returns-then-not-fits-clause-none : goal.returns-then-not-fits-clause-none
returns-then-not-fits-clause-none c =
    let looks = c.args.looks.now in
    let i = c.loop-x.x-index in
    let h = c.loop-x.invariant in
    let rs = c.loop-x.readers.items in
    let x = c.classes-classes.result.now in
    let at : c.x-item.result ≡ looks_at looks i = c.x-item.is ∙ get_or_default looks i c.x-item.result no_looks c.loop-x-test.true in
    let mine : AreClasses (looks_at looks i).horizon (looks_at looks i).region x = subst (λ (l : LooksState). AreClasses l.horizon l.region x) at c.classes-classes.ensures in
    too_many looks rs i h.long c.loop-x-test.true h.readers x mine (λ both. let yes = c.fits.ensures.1 (omega (arith, both.0, h.states), omega (arith, both.1, h.corners)) in absurd (cc (yes, c.if-not-fits.true)))

pub loop-x-preserved : goal.loop-x-preserved
loop-x-preserved c =
    let looks = c.args.looks.now in
    let i = c.loop-x.x-index in
    let h = c.loop-x.invariant in
    let rs = c.loop-x.readers.items in
    let v = c.in_ok-of.field-0 in
    let x = c.classes-classes.result.now in
    let at : c.x-item.result ≡ looks_at looks i = c.x-item.is ∙ get_or_default looks i c.x-item.result no_looks c.loop-x-test.true in
    let cells : c.classes.inside.cell_count ≡ v.lists.cell_count = ap (λ y. y.cell_count) c.classes.view_is ∙ ap (λ (w : ReaderState). w.lists.cell_count) (sym c.in_ok-of.ensures.value) in
    let corners : c.classes.inside.corner_count ≡ v.lists.corner_count = ap (λ y. y.corner_count) c.classes.view_is ∙ ap (λ (w : ReaderState). w.lists.corner_count) (sym c.in_ok-of.ensures.value) in
    let fit = c.fits.ensures.0 (c.if-not-fits.false) in
    let items = c.in_ok-push.ensures.items in
    record {
      long = omega (arith, ap length items, length-append rs (v ∷ []), h.long);
      readers = subst (AreReadersOf looks) (sym items) (readers_more looks rs v i h.long h.readers
          (ap (λ (w : ReaderState). w.region) c.in_ok-of.ensures.value ∙ ap (λ (l : LooksState). l.region) at)
          (ap (λ (w : ReaderState). w.horizon) c.in_ok-of.ensures.value ∙ ap (λ (l : LooksState). l.horizon) at)
          c.in_ok-of.ensures.reader
          (ap (λ (w : ReaderState). w.first_state) c.in_ok-of.ensures.value ∙ h.states)
          (ap (λ (w : ReaderState). w.first_corner) c.in_ok-of.ensures.value ∙ h.corners));
      states = subst (λ (ws : List ReaderState). c.loop-x.states + c.classes.inside.cell_count ≡ states_before (lists_of ws) (i + 1)) (sym items) (omega (arith, before_next (λ y. y.cell_count) rs v i h.long, h.states, cells));
      corners = subst (λ (ws : List ReaderState). c.loop-x.corners + c.classes.inside.corner_count ≡ corners_before (lists_of ws) (i + 1)) (sym items) (omega (arith, before_next (λ y. y.corner_count) rs v i h.long, h.corners, corners));
      few_states = omega (arith, fit.0, ap (λ y. y.cell_count) c.classes.view_is);
      few_corners = omega (arith, fit.1, ap (λ y. y.corner_count) c.classes.view_is);
    }
