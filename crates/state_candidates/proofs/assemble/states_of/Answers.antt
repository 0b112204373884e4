-- The states of one reader more.
use Rattle.std.proofs.Common.{◌≡◌, ◌+◌, ap, ◌∙◌, subst, arith}
use Rattle.std.proofs.lemmas.List.{get_or_default}
use Rattle.tree_model.specs.Automata.{TreeState, no_state}
use Rattle.state_candidates.specs.Candidates.{states_before}
use Rattle.state_candidates.specs.Readers.{ReaderState, AreStates, AreRead, state_read}
use Rattle.state_candidates.specs.Gathered.{no_reader, reader_at, lists_of}
use Rattle.state_candidates.proofs.Gathering.{before_more, lists_long, lists_read}
use Rattle.state_candidates.proofs.Having.{have_more, number_within}
use Rattle.state_candidates.proofs.assemble.states_of.Goals as goal

pub loop-reader-preserved : goal.loop-reader-preserved
loop-reader-preserved c =
    let rs = c.args.readers.now in
    let n = c.loop-reader.reader-index in
    let new = c.push_states.new.states in
    let at : c.reader-item.result ≡ reader_at rs n = c.reader-item.is ∙ get_or_default rs n c.reader-item.result no_reader c.loop-reader-test.true in
    let v = reader_at rs n in
    let read : AreStates v new.items = subst (λ (w : ReaderState). AreStates w new.items) at (c.in_ok-push_states.ensures.read c.if-not-branch.false) in
    let one : AreRead v.lists.cells v.lists.cell_count (state_read v) (λ (s : TreeState). s) (states_before (lists_of rs) n) no_state new.items = subst (λ f. AreRead v.lists.cells v.lists.cell_count (state_read v) (λ (s : TreeState). s) f no_state new.items) (c.requires n c.loop-reader-test.true).first_state read in
    let next : states_before (lists_of rs) (n + 1) ≡ states_before (lists_of rs) n + v.lists.cell_count = before_more (λ x. x.cell_count) (lists_of rs) n (omega (arith, lists_long rs, c.loop-reader-test.true)) ∙ ap (λ x. states_before (lists_of rs) n + x.cell_count) (lists_read rs n c.loop-reader-test.true) in
    have_more (λ k. (reader_at rs k).lists.cells) (λ k. state_read (reader_at rs k)) (λ (s : TreeState). s) (states_before (lists_of rs)) no_state
    c.loop-reader.states.items new.items n v.lists.cell_count c.loop-reader.invariant (c.in_ok-push_states.ensures.kept c.if-not-branch.false)
    (λ k m i less first. omega (arith, c.loop-reader.invariant.long, number_within (λ x. x.cell_count) rs k n m less (omega (arith, c.loop-reader-test.true)) (((c.requires k (omega (arith, less, c.loop-reader-test.true))).reader.classes.cells.counted m).1 (i, first.here))))
    next one
