use Rattle.std.proofs.Common.{◌≡◌, List, ℕ, sym, subst, arith}
use Rattle.std.proofs.lemmas.Grind.{common_steps}
use Rattle.tess_text.specs.Spelling.{IsSpelling}
use Rattle.tess_text.specs.Text.{tess_text}
use Rattle.tess_text.proofs.OneAnswer.{spelling_same}
use Rattle.tess_text.proofs.Canonical.{canonical_spelling}
use Rattle.tess_text.proofs.print.print_tess.Goals as goal

pub returns-clause-spelling : goal.returns-clause-spelling
returns-clause-spelling c =
    let text : c.push_all.new.out.items ≡ tess_text c.args.t.now = grind (arith, common_steps) in
    subst (λ (l : List ℕ). IsSpelling l c.args.t.now) (sym text) (canonical_spelling c.args.t.now c.all_kinds.ensures.valid)

pub returns-clause-of_no_other : goal.returns-clause-of_no_other
returns-clause-of_no_other c = λ kinds other.
    let text : c.push_all.new.out.items ≡ tess_text c.args.t.now = grind (arith, common_steps) in
    spelling_same c.push_all.new.out.items kinds c.args.t.now other
    (subst (λ (l : List ℕ). IsSpelling l c.args.t.now) (sym text) (canonical_spelling c.args.t.now c.all_kinds.ensures.valid))
