use Rattle.std.proofs.Common.{◌≡◌, ◌-◌, ℕ, List, Option, IsTrue, codes, map, take, drop, length, rules, subst}
use Rattle.std.specs.String.{string_bytes}
use Rattle.call_words.specs.Options.{value_of}
use Rattle.call_words.specs.Tasks.{IsOriginOf}
use Rattle.call_words.specs.Forms.{name_of, rules_from}
use Rattle.call_words.proofs.Lists.{three_front}
use Rattle.call_words.proofs.forms.read_run.Goals as goal

pub returns-clause-some : goal.returns-clause-some
returns-clause-some c =
    let words = three_front string_bytes c.args.words.now c.form-item.result c.tess-item.result c.k-item.result c.in-len3-up.len_at_least c.form-item.is c.tess-item.is c.k-item.is in
    let form : string_bytes c.form-item.result ≡ codes "run" = search rules in
    let digits : c.as_bytes.result.now ≡ string_bytes c.k-item.result = search rules in
    let known : IsTrue c.are_options.result = search rules in
    let options = map string_bytes (take (length c.args.words.now - 3) (drop 3 c.args.words.now)) in
    record {
      digits = c.as_bytes.result.now;
      options = options;
      number = c.in_ok-kind.ensures.some;
      known = c.are_options.ensures.yes known;
      origin = subst (λ (v : Option (List ℕ)). IsOriginOf (value_of (codes "--rules") options) v (rules_from c.in_ok-rules.rules)) c.value_in-2.ensures
          (subst (λ (v : Option (List ℕ)). IsOriginOf v (name_of c.value_in-2.result) (rules_from c.in_ok-rules.rules)) c.value_in.ensures c.in_ok-rules.ensures.some);
      spelled = cc (words, form, c.as_str-3.ensures.value, digits);
    }
