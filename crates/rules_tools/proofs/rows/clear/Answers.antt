use Rattle.std.proofs.Common.{◌≡◌, ◌≢◌, ◌⊎◌, inl, inr, ℕ, ◌+◌, ◌<◌, [], length, set, ap, ◌∙◌, arith}
use Rattle.std.proofs.lemmas.Bool.{cases_eq}
use Rattle.std.proofs.lemmas.List.{length-set}
use Rattle.rules_tools.specs.Rows.{row}
use Rattle.rules_tools.proofs.Rowed.{set_row, set_other_row}
use Rattle.rules_tools.proofs.rows.clear.Goals as goal

pub loop-k-preserved : goal.loop-k-preserved
loop-k-preserved c = record {
  long = length-set c.loop-k.rows.items c.loop-k.k c.clear.new.self ∙ c.loop-k.invariant.long;
  empty = λ m lt. go m lt (cases_eq m c.loop-k.k);
}
  where
    within : c.loop-k.k < length c.loop-k.rows.items
    within = omega (arith, c.loop-k-test.true, c.len-k-end.ensures, c.loop-k.invariant.long, c.args.rows.now.ok.0)

    go : (m : ℕ) → m < c.loop-k.k + 1 → (m ≡ c.loop-k.k) ⊎ (m ≢ c.loop-k.k) → row (set c.loop-k.rows.items c.loop-k.k c.clear.new.self) m ≡ []
    go m lt (inl e) = ap (row (set c.loop-k.rows.items c.loop-k.k c.clear.new.self)) e ∙ set_row c.loop-k.rows.items c.loop-k.k c.clear.new.self within ∙ c.clear.ensures.items
    go m lt (inr d) = set_other_row c.loop-k.rows.items c.loop-k.k m c.clear.new.self d ∙ c.loop-k.invariant.empty m (omega (arith, lt, d))
