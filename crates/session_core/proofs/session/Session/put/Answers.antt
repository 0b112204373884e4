use Rattle.std.proofs.Common.{refl, sym, ap, ◌∙◌, subst, length, ◌≤◌, ◌<◌}
use Rattle.std.specs.Prelude.{Err}
use Rattle.reply_model.specs.Texts.{longest_text}
use Rattle.reply_model.specs.declared.Reply.TheVariants.{Done, Long}
use Rattle.session_core.proofs.Going.{held, seen, told, untold, nobody_puts, has_put, has_refused, was_short, texts_stayed, puts_seen}
use Rattle.session_core.proofs.session.Session.put.Goals as goal
use Rattle.session_core.proofs.session.Session.put.Goals.{in-Ok, in-Err-Long, in-Err-Memory}

pub returns-in_default-clause-answered : goal.returns-in_default-clause-answered
returns-in_default-clause-answered c =
    let none =
    held _ c.args.w _ c.self.invariant.session c.requires.below c.index.ensures ∙ c.in_default.is in
    seen _ _ _ _ _ _ c.self.view_is c.self.view_is
    (nobody_puts _ c.self.invariant.session c.args.w c.requires.below c.args.text.now none)

pub returns-clause-answered : goal.returns-clause-answered
returns-clause-answered c =
    let some =
    held _ c.args.w _ c.self.invariant.session c.requires.below c.index.ensures ∙ c.in-Some.is in
    elim c.match-put.branch [
      | in-Ok w ↦
          (let short : length c.args.text.now ≤ longest_text =
          subst (λ t. length t ≤ longest_text) c.as_slice.ensures
          (was_short c.put.result w.in-Ok.field-0 c.as_slice.result.now w.in-Ok.is
          c.put.ensures.long) in
          let puts =
          puts_seen c.self.inside.texts c.put.new.self c.in-Some.spot.name c.name.result.now
          c.args.text.now c.as_slice.result.now c.name.ensures c.as_slice.ensures
          w.in-Ok.ensures.written w.in-Ok.ensures.others in
          told _ _ _ Done _ w.result-is
          (seen _ _ _ _ _ _ c.self.view_is refl
          (has_put _ c.self.invariant.session c.args.w c.requires.below c.args.text.now
          c.in-Some.spot c.put.new.self some short puts)))
      | in-Err-Long w ↦
          (let long : longest_text < length c.args.text.now =
          subst (λ t. longest_text < length t) c.as_slice.ensures
          (c.put.ensures.long.0 (w.in-Err-Long.is ∙ ap Err w.in-Err-Long.field-0-is)) in
          told _ _ _ Long _ w.result-is
          (seen _ _ _ _ _ _ c.self.view_is
          (sym
          (texts_stayed _ c.put.result w.in-Err-Long.field-0 c.put.new.self w.in-Err-Long.is
          c.put.ensures.unchanged))
          (has_refused _ c.self.invariant.session c.args.w c.requires.below c.args.text.now
          c.in-Some.spot some long)))
      | in-Err-Memory w ↦ untold _ _ _ _ _ w.result-is
    ]
