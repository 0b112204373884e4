use Rattle.std.proofs.Common.{◌≡◌, inr, Some, Err, ap}
use Rattle.call_words.specs.Forms.{name_of}
use Rattle.walker_run.proofs.learn.keep_rules.Goals as goal

pub returns-in-Err-Failed : goal.returns-in-Err-Failed
returns-in-Err-Failed g c =
    let named : name_of c.args.out ≡ Some c.in-Value.name.now = ap name_of c.in-Value.is in
    let rose = c.in-Err-Failed.ensures.failed (ap Err c.in-Err-Failed.field-0-is) in
    record {
      told = λ line is. inr ((c.in-Value.name.now, named), cc is, rose);
      unopened = λ kinds b k is. cc is;
      unprinted = λ text is. cc is;
      fetches = c.in-Err-Failed.ensures.fetches;
      stores = λ none. absurd (none c.in-Value.name.now named);
      others = λ told file other. c.in-Err-Failed.ensures.others told file (λ same. other (cc (named, same)));
      stored = λ told file is_named is. absurd (cc is);
    }
