use Rattle.std.proofs.Common.{◌≡◌, ◌-◌, ℕ, List, Option, IsTrue, codes, map, take, drop, length, rules, subst, sym}
use Rattle.std.specs.String.{string_bytes}
use Rattle.call_words.specs.Tasks.{AreCellsOf}
use Rattle.call_words.proofs.Lists.{two_front}
use Rattle.call_words.proofs.forms.read_learn.Goals as goal

pub returns-clause-some : goal.returns-clause-some
returns-clause-some c =
    let words = two_front string_bytes c.args.words.now c.form-item.result c.tess-item.result c.in-len2-up.len_at_least c.form-item.is c.tess-item.is in
    let form : string_bytes c.form-item.result ≡ codes "learn" = search rules in
    let known : IsTrue c.are_options.result = search rules in
    record {
      options = map string_bytes (take (length c.args.words.now - 2) (drop 2 c.args.words.now));
      known = c.are_options.ensures.yes known;
      most = subst (λ (v : Option (List ℕ)). AreCellsOf v c.in_ok-cells.cells) c.value_in.ensures c.in_ok-cells.ensures.some;
      stored = sym c.value_in-2.ensures;
      spelled = cc (words, form, c.as_str-2.ensures.value);
    }
