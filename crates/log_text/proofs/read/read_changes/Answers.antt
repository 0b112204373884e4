use Rattle.std.proofs.Common.{ℕ, List, ◌∷◌, ◌++◌, ◌∙◌, sym, ap, subst}
use Rattle.std.specs.Prelude.{All}
use Rattle.std.proofs.lemmas.List.Elements.{All-push}
use Rattle.tile_model.specs.Relation.{Change}
use Rattle.log_model.specs.LogTexts.{HasText, log_text, no_change}
use Rattle.log_text.proofs.Logs.{line_read}
use Rattle.log_text.proofs.read.read_changes.Goals as goal

pub returns-in_default-read_change-clause-bad : goal.returns-in_default-read_change-clause-bad
returns-in_default-read_change-clause-bad c = λ _.
    no_change c.in-Some.line.now c.in-Some.behind.now c.in-Some.ensures.line c.in-Some.ensures.split c.in_default-read_change.ensures.none

pub loop-line-preserved : goal.loop-line-preserved
loop-line-preserved c =
    let log = c.loop-line.log.items in
    let change = c.in-Some-read_change.change in
    let behind = c.in-Some.behind.now in
    let items = sym c.in_ok-push.ensures.items in
    let line = c.in-Some.ensures.split ∙ ap (λ (l : List ℕ). l ++ 10 ∷ behind) (sym c.in-Some-read_change.ensures.text) in
    let split = line_read c.args.bytes.now c.loop-line.rest.now behind log change c.loop-line.invariant.split line in
    record {
      have_text = subst (λ (l : List Change). All HasText l) items (All-push HasText log change c.loop-line.invariant.have_text c.in-Some-read_change.ensures.has_text);
      split = split ∙ ap (λ (l : List Change). log_text l ++ behind) items;
    }
