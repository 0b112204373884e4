use Rattle.std.proofs.Common.{◌∙◌, [], ◌∷◌, ◌++◌, sym, ap, arith, length, option_to_list}
use Rattle.std.proofs.lemmas.List.{length_push}
use Rattle.derivation_log.proofs.Drafts.{written_less}
use Rattle.derivation_log.proofs.draft.Draft.write.Goals as goal

pub returns-then-ends_with : goal.returns-then-ends_with
returns-then-ends_with c =
    let front = c.ends_with.ensures c.if-ends_with.true in
    let undoes = front.1 ∙ ap (λ x. front.0 ++ x ∷ []) c.turned_round.ensures in
    let size = ap length (c.self.view_is ∙ front.1) ∙ length_push front.0 c.turned_round.result in
    let some = c.pop.ensures.value c.turned_round.result (omega (arith, size, c.self.inside.changes.ok.0)) in
    let items = sym c.self.view_is ∙ c.pop.ensures.items ∙ ap (λ o. c.pop.new.self.items ++ option_to_list o) some in
    written_less c.args.self.now c.pop.new.self.items front.0 _ c.args.change items undoes
