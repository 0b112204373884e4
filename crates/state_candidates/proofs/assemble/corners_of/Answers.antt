-- The corner types of one reader more.
use Rattle.std.proofs.Common.{◌≡◌, ◌+◌, ap, ◌∙◌, subst, arith}
use Rattle.std.proofs.lemmas.List.{get_or_default}
use Rattle.tree_model.specs.Automata.{no_corner}
use Rattle.state_candidates.specs.Candidates.{corners_before}
use Rattle.state_candidates.specs.Readers.{ReaderState, AreCorners, AreRead, corner_read, tables_of}
use Rattle.state_candidates.specs.Gathered.{no_reader, reader_at, lists_of}
use Rattle.state_candidates.proofs.Gathering.{before_more, lists_long, lists_read}
use Rattle.state_candidates.proofs.Having.{have_more, number_within}
use Rattle.state_candidates.proofs.assemble.corners_of.Goals as goal

pub loop-reader-preserved : goal.loop-reader-preserved
loop-reader-preserved c =
    let rs = c.args.readers.now in
    let n = c.loop-reader.reader-index in
    let new = c.push_corners.new.corners in
    let at : c.reader-item.result ≡ reader_at rs n = c.reader-item.is ∙ get_or_default rs n c.reader-item.result no_reader c.loop-reader-test.true in
    let v = reader_at rs n in
    let read : AreCorners v new.items = subst (λ (w : ReaderState). AreCorners w new.items) at (c.in_ok-push_corners.ensures.read c.if-not-branch.false) in
    let one : AreRead v.lists.corners v.lists.corner_count (corner_read v) tables_of (corners_before (lists_of rs) n) no_corner new.items = subst (λ f. AreRead v.lists.corners v.lists.corner_count (corner_read v) tables_of f no_corner new.items) (c.requires n c.loop-reader-test.true).first_corner read in
    let next : corners_before (lists_of rs) (n + 1) ≡ corners_before (lists_of rs) n + v.lists.corner_count = before_more (λ x. x.corner_count) (lists_of rs) n (omega (arith, lists_long rs, c.loop-reader-test.true)) ∙ ap (λ x. corners_before (lists_of rs) n + x.corner_count) (lists_read rs n c.loop-reader-test.true) in
    have_more (λ k. (reader_at rs k).lists.corners) (λ k. corner_read (reader_at rs k)) tables_of (corners_before (lists_of rs)) no_corner
    c.loop-reader.corners.items new.items n v.lists.corner_count c.loop-reader.invariant (c.in_ok-push_corners.ensures.kept c.if-not-branch.false)
    (λ k m i less first. omega (arith, c.loop-reader.invariant.long, number_within (λ x. x.corner_count) rs k n m less (omega (arith, c.loop-reader-test.true)) (((c.requires k (omega (arith, less, c.loop-reader-test.true))).reader.classes.corners.counted m).1 (i, first.here))))
    next one
