use Rattle.std.proofs.Common.{[], ◌∷◌, ◌++◌, length, refl, sym, ap, ◌∙◌, arith}
use Rattle.std.proofs.lemmas.List.{append_assoc, length-append}
use Rattle.line_server.specs.Lines.{feed}
use Rattle.line_server.proofs.Answering.{on_err}
use Rattle.line_server.proofs.Going.{begins, text_behind, replied, failed, comes, stops}
use Rattle.line_server.proofs.reader.answer_lines.Goals as goal

pub loop-line-init : goal.loop-line-init
loop-line-init g c = record {
  going = λ dropped d. begins _ _ dropped _ _ _ _ c.requires.written d;
  front = ([], refl);
  few = omega arith;
  later = omega arith;
}

pub returns-in_err-answer_one-clause-stopped : goal.returns-in_err-answer_one-clause-stopped
returns-in_err-answer_one-clause-stopped g c = λ dropped d.
    on_err _
    (failed _ _ dropped _ _ _ _ _ _ _ c.in-Some.line.now c.in-Some.behind.now _ (c.loop-line.invariant.going dropped d) c.in-Some.ensures.split c.in-Some.ensures.line (λ hidden h. c.in_err-answer_one.ensures.failed hidden _ h (text_behind hidden c.in-Some.line.now _ _ h c.text_of.ensures.text)))

pub loop-line-preserved : goal.loop-line-preserved
loop-line-preserved g c = record {
  going = λ dropped d.
      replied _ _ dropped _ _ _ _ _ _ _ _ c.in-Some.line.now c.in-Some.behind.now _ _
      (c.loop-line.invariant.going dropped d) c.in-Some.ensures.split c.in-Some.ensures.line
      (λ hidden h. c.in_ok-answer_one.ensures.replied hidden _ h (text_behind hidden c.in-Some.line.now _ _ h c.text_of.ensures.text));
  front = (
    c.loop-line.invariant.front.0 ++ (c.in-Some.line.now ++ feed ∷ []),
    c.loop-line.invariant.front.1
        ∙ ap (λ l. c.loop-line.invariant.front.0 ++ l) (c.in-Some.ensures.split ∙ sym (append_assoc c.in-Some.line.now (feed ∷ []) c.in-Some.behind.now))
        ∙ sym (append_assoc c.loop-line.invariant.front.0 (c.in-Some.line.now ++ feed ∷ []) c.in-Some.behind.now),
  );
  few =
      omega (
        arith,
        c.loop-line.invariant.few,
        c.in_ok-answer_one.ensures.few,
        ap length c.in-Some.ensures.split,
        length-append c.in-Some.line.now (feed ∷ c.in-Some.behind.now),
      );
  later = omega (arith, c.loop-line.invariant.later, c.in_ok-answer_one.ensures.later);
}

pub answer_one-requires-clause-room : goal.answer_one-requires-clause-room
answer_one-requires-clause-room g c =
    omega (arith, c.loop-line.invariant.few, c.requires.room)

pub returns-in_err-write_all-clause-stopped : goal.returns-in_err-write_all-clause-stopped
returns-in_err-write_all-clause-stopped g c = λ dropped d.
    on_err _
    (stops _ _ dropped _ _ _ _ _ _ _ _ (c.loop-line.invariant.going dropped d) c.in_err-write_all.ensures.broken)

pub returns-clause-answered : goal.returns-clause-answered
returns-clause-answered g c = λ dropped d.
    comes _ _ dropped _ _ _ _ c.loop-line.invariant.front.0 _ _ _ _ _
    (c.loop-line.invariant.going dropped d) c.in_ok-write_all.ensures.said c.in_ok-write_all.ensures.empty
    c.loop-line.invariant.front.1 c.in_default.ensures.none

pub returns-clause-few : goal.returns-clause-few
returns-clause-few g c = c.loop-line.invariant.few
