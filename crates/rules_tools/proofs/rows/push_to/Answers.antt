use Rattle.std.proofs.Common.{◌∷◌, [], ◌++◌, sym, ap, ◌∙◌}
use Rattle.rules_tools.proofs.Rowed.{set_row, set_other_row, row_is}
use Rattle.rules_tools.proofs.rows.push_to.Goals as goal

pub returns-in_err-push-clause-others : goal.returns-in_err-push-clause-others
returns-in_err-push-clause-others c = λ m other. set_other_row c.args.rows.now.items c.args.k m c.push.new.self other

pub returns-clause-row : goal.returns-clause-row
returns-clause-row c =
    set_row c.args.rows.now.items c.args.k c.push.new.self c.requires
    ∙ c.in_ok-push.ensures.items
    ∙ ap (λ xs. xs ++ c.args.x ∷ []) (sym (row_is c.args.rows.now.items c.args.k c.index_mut.result.now c.requires c.index_mut.ensures.value))

pub returns-clause-others : goal.returns-clause-others
returns-clause-others c = λ m other. set_other_row c.args.rows.now.items c.args.k m c.push.new.self other
