use Rattle.std.proofs.Common.{◌≡◌, ◌≢◌, ◌⊎◌, inl, inr, ℕ, Contains, sym, subst}
use Rattle.std.proofs.lemmas.Bool.{cases_eq}
use Rattle.std.proofs.lemmas.List.Elements.{Contains-push, Contains-append_left}
use Rattle.std.specs.Prelude.{[], ◌∷◌}
use Rattle.rules_tools.specs.Rows.{row}
use Rattle.rules_tools.proofs.rows.add_to.Goals as goal

pub returns-clause-added : goal.returns-clause-added
returns-clause-added c = subst (λ xs. Contains xs c.args.x) (sym c.in_ok-push_to.ensures.row) (Contains-push (row c.reach.new.rows.items c.args.k) c.args.x)

pub returns-clause-kept : goal.returns-clause-kept
returns-clause-kept c = λ m y has. go m y (subst (λ xs. Contains xs y) (sym (c.reach.ensures.rows m)) has) (cases_eq m c.args.k)
  where
    go : (m y : ℕ) → Contains (row c.reach.new.rows.items m) y → (m ≡ c.args.k) ⊎ (m ≢ c.args.k) → Contains (row c.push_to.new.rows.items m) y
    go m y has (inl e) =
        subst (λ k. Contains (row c.push_to.new.rows.items k) y) (sym e)
        (subst (λ xs. Contains xs y) (sym c.in_ok-push_to.ensures.row)
        (Contains-append_left (row c.reach.new.rows.items c.args.k) (c.args.x ∷ []) y (subst (λ k. Contains (row c.reach.new.rows.items k) y) e has)))
    go m y has (inr d) = subst (λ xs. Contains xs y) (sym (c.push_to.ensures.others m d)) has
