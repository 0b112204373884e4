use Rattle.std.proofs.Common.{◌≡◌, codes, rules, ap, Err}
use Rattle.std.specs.String.{string_bytes}
use Rattle.call_words.specs.declared.forms.WordsFault.TheVariants.{Usage}
use Rattle.call_words.proofs.Lists.{three_words, four_words}
use Rattle.call_words.proofs.Reading.{kind_form, kind_task}
use Rattle.call_words.specs.Forms.{task_of}
use Rattle.call_words.proofs.OneTask.{one_task}
use Rattle.call_words.proofs.forms.read_words.Goals as goal

pub returns-in-len3-clause-ok : goal.returns-in-len3-clause-ok
returns-in-len3-clause-ok c =
    let words = three_words string_bytes c.args.words.now c.form-item.result c.tess-item.result c.rules-item.result c.in-len3.len_at_least c.in-len3.len_below c.form-item.is c.tess-item.is c.rules-item.is in
    let form : string_bytes c.form-item.result ≡ codes "check" = search rules in
    let tess : c.as_str-in-len3.result.now ≡ string_bytes c.tess-item.result = search rules in
    let file : c.as_str-in-len3-2.result.now ≡ string_bytes c.rules-item.result = search rules in
    cc (words, form, tess, file)

pub returns-in-Ok-clause-ok : goal.returns-in-Ok-clause-ok
returns-in-Ok-clause-ok c =
    let words = four_words string_bytes c.args.words.now c.form-item-then-words-lt5.result c.tess-item-then-words-lt5.result c.k-item.result c.letters-item.result c.in-len4.len_at_least c.in-len4.len_below c.form-item-then-words-lt5.is c.tess-item-then-words-lt5.is c.k-item.is c.letters-item.is in
    let form : string_bytes c.form-item-then-words-lt5.result ≡ codes "kind" = search rules in
    let tess : c.as_str-in-Ok.result.now ≡ string_bytes c.tess-item-then-words-lt5.result = search rules in
    let digits : c.as_str-in-len4.result.now ≡ string_bytes c.k-item.result = search rules in
    let letters : c.as_str-in-len4-2.result.now ≡ string_bytes c.letters-item.result = search rules in
    kind_form _ _ _ _ _ _ (cc (words, form, tess, digits, letters)) c.in-Ok.ensures.ok.0 c.in-Ok.ensures.ok.1

pub returns-in-Ok-clause-complete : goal.returns-in-Ok-clause-complete
returns-in-Ok-clause-complete c = λ task ask.
    let words = four_words string_bytes c.args.words.now c.form-item-then-words-lt5.result c.tess-item-then-words-lt5.result c.k-item.result c.letters-item.result c.in-len4.len_at_least c.in-len4.len_below c.form-item-then-words-lt5.is c.tess-item-then-words-lt5.is c.k-item.is c.letters-item.is in
    let form : string_bytes c.form-item-then-words-lt5.result ≡ codes "kind" = search rules in
    let tess : c.as_str-in-Ok.result.now ≡ string_bytes c.tess-item-then-words-lt5.result = search rules in
    let digits : c.as_str-in-len4.result.now ≡ string_bytes c.k-item.result = search rules in
    let letters : c.as_str-in-len4-2.result.now ≡ string_bytes c.letters-item.result = search rules in
    let asked = kind_task _ c.as_str-in-Ok.result.now c.as_str-in-len4.result.now c.as_str-in-len4-2.result.now (cc (words, form, tess, digits, letters)) task ask in
    let same = c.in-Ok.ensures.complete asked.k asked.walk asked.number asked.text in
    cc (same.0, same.1, asked.is)

pub returns-in-Err-clause-usage : goal.returns-in-Err-clause-usage
returns-in-Err-clause-usage c = λ refused task ask.
    let words = four_words string_bytes c.args.words.now c.form-item-then-words-lt5.result c.tess-item-then-words-lt5.result c.k-item.result c.letters-item.result c.in-len4.len_at_least c.in-len4.len_below c.form-item-then-words-lt5.is c.tess-item-then-words-lt5.is c.k-item.is c.letters-item.is in
    let form : string_bytes c.form-item-then-words-lt5.result ≡ codes "kind" = search rules in
    let digits : c.as_str-in-len4.result.now ≡ string_bytes c.k-item.result = search rules in
    let letters : c.as_str-in-len4-2.result.now ≡ string_bytes c.letters-item.result = search rules in
    let asked = kind_task _ (string_bytes c.tess-item-then-words-lt5.result) c.as_str-in-len4.result.now c.as_str-in-len4-2.result.now (cc (words, form, digits, letters)) task ask in
    let fault : c.in-Err.fault ≡ Usage = cc refused in
    c.in-Err.ensures.usage (ap Err fault) asked.k asked.walk asked.number asked.text

pub returns-in-Err-clause-complete : goal.returns-in-Err-clause-complete
returns-in-Err-clause-complete c = λ task ask.
    let words = four_words string_bytes c.args.words.now c.form-item-then-words-lt5.result c.tess-item-then-words-lt5.result c.k-item.result c.letters-item.result c.in-len4.len_at_least c.in-len4.len_below c.form-item-then-words-lt5.is c.tess-item-then-words-lt5.is c.k-item.is c.letters-item.is in
    let form : string_bytes c.form-item-then-words-lt5.result ≡ codes "kind" = search rules in
    let digits : c.as_str-in-len4.result.now ≡ string_bytes c.k-item.result = search rules in
    let letters : c.as_str-in-len4-2.result.now ≡ string_bytes c.letters-item.result = search rules in
    let asked = kind_task _ (string_bytes c.tess-item-then-words-lt5.result) c.as_str-in-len4.result.now c.as_str-in-len4-2.result.now (cc (words, form, digits, letters)) task ask in
    c.in-Err.ensures.complete asked.k asked.walk asked.number asked.text

pub returns-in-Some-clause-complete : goal.returns-in-Some-clause-complete
returns-in-Some-clause-complete c = λ task ask.
    one_task _ (task_of c.in-Some.form) task c.in-Some.ensures.some ask

pub returns-in-Some-read_learn-clause-complete : goal.returns-in-Some-read_learn-clause-complete
returns-in-Some-read_learn-clause-complete c = λ task ask.
    one_task _ (task_of c.in-Some-read_learn.form) task c.in-Some-read_learn.ensures.some ask

pub returns-in-Some-read_merge-clause-complete : goal.returns-in-Some-read_merge-clause-complete
returns-in-Some-read_merge-clause-complete c = λ task ask.
    one_task _ (task_of c.in-Some-read_merge.form) task c.in-Some-read_merge.ensures.some ask

pub returns-in-Ok-read_log-clause-complete : goal.returns-in-Ok-read_log-clause-complete
returns-in-Ok-read_log-clause-complete c = λ task ask.
    one_task _ (task_of c.in-Ok-read_log.form) task c.in-Ok-read_log.ensures.ok ask

pub returns-in-Ok-read_verify-clause-complete : goal.returns-in-Ok-read_verify-clause-complete
returns-in-Ok-read_verify-clause-complete c = λ task ask.
    one_task _ (task_of c.in-Ok-read_verify.form) task c.in-Ok-read_verify.ensures.ok ask
