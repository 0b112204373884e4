use Rattle.std.proofs.Common.{◌≡◌, ℕ, List, Err, codes, rules, ap, subst}
use Rattle.std.specs.String.{string_bytes}
use Rattle.short_numbers.specs.Numbers.{IsNumber}
use Rattle.call_words.specs.declared.forms.WordsFault.TheVariants.{Usage}
use Rattle.call_words.proofs.Lists.{six_words}
use Rattle.call_words.proofs.Reading.{same_fault}
use Rattle.call_words.proofs.forms.read_log.Goals as goal

pub returns-in_err-kind-clause-usage : goal.returns-in_err-kind-clause-usage
returns-in_err-kind-clause-usage c = λ refused tess rules k u w form.
    let words = six_words string_bytes c.args.words.now c.form-item.result c.tess-item.result c.rules-item.result c.k-item.result c.u-item.result c.w-item.result c.in-len6.len_at_least c.in-len6.len_below c.form-item.is c.tess-item.is c.rules-item.is c.k-item.is c.u-item.is c.w-item.is in
    let digits : form.digits ≡ c.as_str-2.result.now = cc (words, form.spelled, c.as_str-2.ensures.value) in
    let fault = same_fault c.from_residual.result c.in_err-kind.field-0.0 Usage c.from_residual.ensures.1 refused in
    c.in_err-kind.ensures.usage (ap Err fault) k u (subst (λ (l : List ℕ). IsNumber l k) digits form.number) (cc (words, form.spelled, c.as_str-3.ensures.value))

pub returns-clause-ok : goal.returns-clause-ok
returns-clause-ok c =
    let words = six_words string_bytes c.args.words.now c.form-item.result c.tess-item.result c.rules-item.result c.k-item.result c.u-item.result c.w-item.result c.in-len6.len_at_least c.in-len6.len_below c.form-item.is c.tess-item.is c.rules-item.is c.k-item.is c.u-item.is c.w-item.is in
    let form : string_bytes c.form-item.result ≡ codes "log" = search rules in
    record {
      digits = c.as_str-2.result.now;
      number = c.in_ok-kind.ensures.ok.0;
      spelled = cc (words, form, c.as_str-5.ensures.value, c.as_str-6.ensures.value, c.as_str-2.ensures.value, c.as_str-3.ensures.value, c.as_str-4.ensures.value, c.in_ok-kind.ensures.ok.1, c.in_ok-w.ensures.ok);
    }
