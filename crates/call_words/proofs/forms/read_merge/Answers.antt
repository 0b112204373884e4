use Rattle.std.proofs.Common.{◌≡◌, codes, rules}
use Rattle.std.specs.String.{string_bytes}
use Rattle.call_words.proofs.Lists.{four_words}
use Rattle.call_words.proofs.forms.read_merge.Goals as goal

pub returns-clause-some : goal.returns-clause-some
returns-clause-some c =
    let words = four_words string_bytes c.args.words.now c.form-item.result c.tess-item.result c.rules-item.result c.out-item.result c.in-len4.len_at_least c.in-len4.len_below c.form-item.is c.tess-item.is c.rules-item.is c.out-item.is in
    let form : string_bytes c.form-item.result ≡ codes "merge" = search rules in
    cc (words, form, c.as_str-2.ensures.value, c.as_str-3.ensures.value, c.as_str-4.ensures.value)
