use Rattle.std.proofs.Common.{◌≡◌, ◌-◌, ℕ, List, map, take, drop, length, false, IsTrue, rules, arith, subst, sym}
use Rattle.std.specs.String.{string_bytes}
use Rattle.call_words.specs.Options.{IsNew}
use Rattle.call_words.proofs.Pairs.{refused, passed, same_on, single_refused}
use Rattle.call_words.proofs.options.are_options.Goals as goal

pub returns-then-not-is_new-clause-no : goal.returns-then-not-is_new-clause-no
returns-then-not-is_new-clause-no c = λ is options.
    let name : c.as_str.result.now ≡ string_bytes c.option-item.result = search rules in
    let off : c.is_new.result ≡ false = search rules in
    refused string_bytes c.args.one.now c.args.other.now c.loop-rest.rest.now c.option-item.result c.in-len2-up.len_at_least c.option-item.is
    (λ known. c.is_new.ensures.no off (subst (λ (n : List ℕ). IsNew c.args.one.now c.args.other.now n (map string_bytes (take (length c.loop-rest.rest.now - 2) (drop 2 c.loop-rest.rest.now)))) (sym name) known))
    (c.loop-rest.invariant.back options)

pub loop-rest-preserved : goal.loop-rest-preserved
loop-rest-preserved c =
    let name : c.as_str.result.now ≡ string_bytes c.option-item.result = search rules in
    let on : IsTrue c.is_new.result = search rules in
    same_on (passed string_bytes c.args.one.now c.args.other.now c.loop-rest.rest.now c.option-item.result c.in-len2-up.len_at_least c.option-item.is
    (subst (λ (n : List ℕ). IsNew c.args.one.now c.args.other.now n (map string_bytes (take (length c.loop-rest.rest.now - 2) (drop 2 c.loop-rest.rest.now)))) name (c.is_new.ensures.yes on)))
    c.loop-rest.invariant

pub returns-clause-no : goal.returns-clause-no
returns-clause-no c = λ is options.
    single_refused string_bytes c.args.one.now c.args.other.now c.loop-rest.rest.now c.in_default.len_below
    (λ empty. grind (arith, empty, is, c.is_empty.ensures))
    (c.loop-rest.invariant.back options)
