-- Steps that fetch files, one after the other.
use Rattle.std.proofs.Common.{◌≡◌, ◌≤◌, ℕ, Bool, Option, Some, None, Result, Ok, Err, ◌∙◌, ap, subst, arith}
use Rattle.std.specs.Prelude.{IsErrAnd}
use Rattle.way_io.specs.Counts.{Rose}
use Rattle.way_io.specs.Contents.{KeepsAll}
use Rattle.walker_run.specs.declared.line.Role.{Role}
use Rattle.walker_run.specs.declared.line.Line.{Line}
use Rattle.walker_run.specs.declared.line.Line.TheVariants.{FileFault}
use Rattle.walker_run.specs.declared.stop.Stop.{Stop}
use Rattle.walker_run.specs.Due.{Contents}
use Rattle.walker_run.specs.Effects.{FilesSeen, OnlyFetches, IsPlain}

-- a count that rises later has risen in all
pub rose_on : (first before now : ℕ) → first ≤ before → Rose before now → Rose first now
rose_on first before now later rose = omega (arith, later, rose)

-- what all files hold, as one function
pub same_contents : (old new : Contents) → KeepsAll old new → new ≡ old
same_contents old new same = λ i name. same name i

-- a step that stops with a line of its own, once it fetched its file
pub still : (tells : Bool) (before after : FilesSeen) (line : Line) → IsPlain line → ((role : Role) → line ≡ FileFault role → ⊥)
    → OnlyFetches tells before after None → OnlyFetches tells before after (Some line)
still tells before after line plain unlike f = record {
  same = f.same;
  stores = f.stores;
  later = f.later;
  counted = λ role is. let same : line ≡ FileFault role = cc is in absurd (unlike role same);
  plain = λ said is. let same : line ≡ said = cc is in subst IsPlain same plain;
}

-- a step behind another
pub onward : (tells : Bool) (before between after : FilesSeen) (line : Option Line)
    → OnlyFetches tells before between None → OnlyFetches tells between after line → OnlyFetches tells before after line
onward tells before between after line f s = record {
  same = λ told name. s.same told name ∙ f.same told name;
  stores = s.stores ∙ f.stores;
  later = omega (arith, f.later, s.later);
  counted = λ role is. rose_on before.failed_fetches between.failed_fetches after.failed_fetches f.later (s.counted role is);
  plain = s.plain;
}

-- what `?` hands on is the stop that came
pub handed_on : {T : Type 0} (stop : Stop) (result : Result T Stop) → IsErrAnd result (λ y. y ≡ stop) → result ≡ Err stop
handed_on stop (Ok x) gives = absurd gives
handed_on stop (Err y) gives = ap (λ (s : Stop). Err s) gives
