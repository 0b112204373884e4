use Rattle.std.proofs.Common.{◌≡◌, ℕ, ◌+◌, ◌-◌, ◌≤◌, List, ◌++◌, length, take, drop, refl, sym, ap, ◌∙◌, subst, arith}
use Rattle.std.proofs.lemmas.List.{length-drop}
use Rattle.line_server.specs.Lines.{most_of_stream}
use Rattle.line_server.specs.Readers.{buffer_size}
use Rattle.line_server.specs.Serving.{EndsAs}
use Rattle.line_server.proofs.Serving.{starts, again, serves_on, unread_end, over_end, done_end, failed_end, stopped_end, no_room}
use Rattle.line_server.proofs.Pieces.{more, cuts, fresh_length, some_more, ends_empty}
use Rattle.line_server.proofs.stream.serve_lines.Goals as goal

pub returns-in_default-clause-ends : goal.returns-in_default-clause-ends
returns-in_default-clause-ends g c = no_room _ _ _ _ _

pub loop-count-init : goal.loop-count-init
loop-count-init g c = record {
  shape = c.in-Ok.ensures.shape;
  written = c.new-waiting.ensures.items;
  serving = starts _ _ _ _ _ c.in-Ok.reader c.in-Ok.ensures.nothing;
  few = omega arith;
  texts = omega (arith, c.in-Ok.ensures.empty);
  reads_later = omega arith;
  writes_later = omega arith;
}

pub returns-in_default-read-clause-ends : goal.returns-in_default-read-clause-ends
returns-in_default-read-clause-ends g c =
    let s = again _ _ _ _ _ _ _ c.read.new.self _ _ _ _ c.loop-count.invariant.serving c.read.ensures.keeps c.in_default-read.ensures.unread in
    unread_end _ _ _ _ _ _ _ _ _ _ s c.loop-count.invariant.few

pub returns-in-Err-clause-ends : goal.returns-in-Err-clause-ends
returns-in-Err-clause-ends g c =
    let before = c.loop-count.invariant.serving in
    let none = c.if-count-eq0.true in
    subst (EndsAs _ _ _ _ _ _ _ _) (sym c.ending_of.ensures)
    (failed_end _ _ _ _ _ _ _ _ _ _ before c.in-Err.stop c.finish.new.session (g.I.Source.left c.read.new.input) (g.O.Sink.taken c.finish.new.out) c.loop-count.invariant.few (λ t. c.in-Ok-read.ensures.end t none) (λ t. ends_empty _ c.in-Ok-read.count _ _ none (c.in-Ok-read.ensures.next t) (c.in-Ok-read.ensures.end t none)) (c.in-Err.ensures.failed before.line (c.read.ensures.keeps before.line before.keeps)))

pub returns-then-count-eq0-clause-ends : goal.returns-then-count-eq0-clause-ends
returns-then-count-eq0-clause-ends g c =
    let before = c.loop-count.invariant.serving in
    let none = c.if-count-eq0.true in
    done_end _ _ _ _ _ _ _ _ _ _ before c.finish.new.session (g.I.Source.left c.read.new.input) (g.O.Sink.taken c.finish.new.out) c.loop-count.invariant.few (λ t. c.in-Ok-read.ensures.end t none) (λ t. ends_empty _ c.in-Ok-read.count _ _ none (c.in-Ok-read.ensures.next t) (c.in-Ok-read.ensures.end t none)) (c.in_default-finish.ensures.ended before.line (c.read.ensures.keeps before.line before.keeps))

pub returns-in-Err-answer-clause-ends : goal.returns-in-Err-answer-clause-ends
returns-in-Err-answer-clause-ends g c =
    let before = c.loop-count.invariant.serving in
    let read : List ℕ = drop c.read.new.self.kept c.read.new.self.buffer.items in
    let long : length read ≡ buffer_size - c.read.new.self.kept = length-drop c.read.new.self.kept c.read.new.self.buffer.items ∙ ap (λ n. n - c.read.new.self.kept) c.read.ensures.shape.size in
    let within : c.in-Ok-read.count ≤ length read = rw long (omega (arith, c.in-Ok-read.ensures.within)) in
    let few : c.min-fresh.result ≤ c.in-Ok-read.count = omega (arith, c.min-fresh.ensures) in
    let inside : c.loop-count.total + c.min-fresh.result ≤ most_of_stream = omega (arith, c.min-fresh.ensures, c.loop-count.invariant.few) in
    subst (EndsAs _ _ _ _ _ _ _ _) (sym c.ending_of-in-Err-answer.ensures)
    (stopped_end _ _ _ _ _ _ _ _ _ _ before c.in-Err-answer.stop c.answer.new.session (take c.min-fresh.result read) (more read c.in-Ok-read.count c.min-fresh.result few within) (g.I.Source.left c.read.new.input) (g.O.Sink.taken c.answer.new.out) c.min-fresh.result (λ t. cuts read c.in-Ok-read.count c.min-fresh.result few within _ _ (c.in-Ok-read.ensures.next t)) (fresh_length read c.in-Ok-read.count c.min-fresh.result few within) inside (c.in-Err-answer.ensures.stopped before.line (c.read.ensures.keeps before.line before.keeps)))

pub returns-then-fresh-count-clause-ends : goal.returns-then-fresh-count-clause-ends
returns-then-fresh-count-clause-ends g c =
    let before = c.loop-count.invariant.serving in
    let read : List ℕ = drop c.read.new.self.kept c.read.new.self.buffer.items in
    let long : length read ≡ buffer_size - c.read.new.self.kept = length-drop c.read.new.self.kept c.read.new.self.buffer.items ∙ ap (λ n. n - c.read.new.self.kept) c.read.ensures.shape.size in
    let within : c.in-Ok-read.count ≤ length read = rw long (omega (arith, c.in-Ok-read.ensures.within)) in
    let few : c.min-fresh.result ≤ c.in-Ok-read.count = omega (arith, c.min-fresh.ensures) in
    let full : c.loop-count.total + c.min-fresh.result ≡ most_of_stream = omega (arith, c.min-fresh.ensures, c.loop-count.invariant.few, c.if-fresh-count.true) in
    let left : List ℕ = g.I.Source.left c.read.new.input in
    let over = more read c.in-Ok-read.count c.min-fresh.result few within in
    let on = serves_on _ _ _ _ _ _ _ _ _ _ before c.answer.new.session c.answer.new.self (take c.min-fresh.result read) (over ++ left) (g.O.Sink.taken c.answer.new.out) c.min-fresh.result (λ t. cuts read c.in-Ok-read.count c.min-fresh.result few within _ _ (c.in-Ok-read.ensures.next t)) (fresh_length read c.in-Ok-read.count c.min-fresh.result few within) (c.in_default-answer.ensures.answered before.line (c.read.ensures.keeps before.line before.keeps)) in
    over_end _ _ _ _ _ _ _ _ _ _ on over left (λ t. refl) full (some_more read c.in-Ok-read.count c.min-fresh.result few within c.if-fresh-count.true)

pub loop-count-preserved : goal.loop-count-preserved
loop-count-preserved g c =
    let before = c.loop-count.invariant.serving in
    let read : List ℕ = drop c.read.new.self.kept c.read.new.self.buffer.items in
    let long : length read ≡ buffer_size - c.read.new.self.kept = length-drop c.read.new.self.kept c.read.new.self.buffer.items ∙ ap (λ n. n - c.read.new.self.kept) c.read.ensures.shape.size in
    let within : c.in-Ok-read.count ≤ length read = rw long (omega (arith, c.in-Ok-read.ensures.within)) in
    let few : c.min-fresh.result ≤ c.in-Ok-read.count = omega (arith, c.min-fresh.ensures) in
    let whole : c.in-Ok-read.count ≡ c.min-fresh.result = omega (arith, c.min-fresh.ensures, c.if-fresh-count.false) in
    record {
      shape = c.in_default-answer.ensures.shape;
      written = c.in_default-answer.ensures.written;
      serving = serves_on _ _ _ _ _ _ _ _ _ _ before c.answer.new.session c.answer.new.self (take c.min-fresh.result read) (g.I.Source.left c.read.new.input) (g.O.Sink.taken c.answer.new.out) c.min-fresh.result (λ t. c.in-Ok-read.ensures.next t ∙ ap (λ n. take n read ++ g.I.Source.left c.read.new.input) whole) (fresh_length read c.in-Ok-read.count c.min-fresh.result few within) (c.in_default-answer.ensures.answered before.line (c.read.ensures.keeps before.line before.keeps));
      few = omega (arith, c.min-fresh.ensures, c.loop-count.invariant.few);
      texts =
          omega (
            arith,
            c.in_default-answer.ensures.few,
            c.read.ensures.kept,
            c.loop-count.invariant.texts,
          );
      reads_later = omega (arith, c.loop-count.invariant.reads_later, c.in-Ok-read.ensures.later);
      writes_later = omega (arith, c.loop-count.invariant.writes_later, c.in_default-answer.ensures.later);
    }

pub finish-requires-clause-room : goal.finish-requires-clause-room
finish-requires-clause-room g c =
    omega (
      arith,
      c.read.ensures.kept,
      c.loop-count.invariant.texts,
      c.loop-count.invariant.few,
      c.requires,
    )
