-- The first token tells what begins.
use Rattle.std.proofs.Common.{◌≡◌, ◌<◌, [], ◌∷◌, None, refl, sym, ap, ◌∙◌, subst, arith}
use Rattle.json.specs.Token.{Token}
use Rattle.json.specs.Reads.{token_of}
use Rattle.json.specs.Json.{value}
use Rattle.json.proofs.Grammar.{value_is}
use Rattle.serde_json.specs.Data.{null, boolean}
use Rattle.serde_json.specs.View.{number_view}
use Rattle.rules_file.specs.Taking.{IsPlain}
use Rattle.rules_file.proofs.Taking.{value_is_at, at_none, at_string, at_boolean, at_null, at_number, at_bad_number, at_array, at_object, at_other, at_deep_array, at_deep_object}
use Rattle.rules_file.proofs.take.begin.Goals as goal

pub returns-in_err-token-clause-err : goal.returns-in_err-token-clause-err
returns-in_err-token-clause-err c refused = at_none c.args.depth c.args.reader.now (grind arith)

pub returns-in-Some-clause-begun : goal.returns-in-Some-clause-begun
returns-in-Some-clause-begun c =
    let first : c.args.reader.now ≡ token_of c.in_ok-token.token ∷ c.next.new.self = grind arith in
    let is = first ∙ ap (λ k. token_of k ∷ c.next.new.self) c.in-Number.is in
    value_is_at c.args.depth _ _ _ (at_number c.args.depth _ _ _ (number_view c.in-Some.number) is c.in-Some.ensures)

pub returns-in-None-clause-err : goal.returns-in-None-clause-err
returns-in-None-clause-err c refused =
    let first : c.args.reader.now ≡ token_of c.in_ok-token.token ∷ c.next.new.self = grind arith in
    let is = first ∙ ap (λ k. token_of k ∷ c.next.new.self) c.in-Number.is in
    at_bad_number c.args.depth _ _ _ is c.in-None.ensures

pub returns-in-String-clause-begun : goal.returns-in-String-clause-begun
returns-in-String-clause-begun c =
    let first : c.args.reader.now ≡ token_of c.in_ok-token.token ∷ c.next.new.self = grind arith in
    let is = first ∙ ap (λ k. token_of k ∷ c.next.new.self) c.in-String.is in
    value_is_at c.args.depth _ _ _ (at_string c.args.depth _ _ _ is)

pub returns-in-Bool-clause-begun : goal.returns-in-Bool-clause-begun
returns-in-Bool-clause-begun c =
    let first : c.args.reader.now ≡ token_of c.in_ok-token.token ∷ c.next.new.self = grind arith in
    let is = first ∙ ap (λ k. token_of k ∷ c.next.new.self) c.in-Bool.is in
    let found = value_is_at c.args.depth _ _ _ (at_boolean c.args.depth _ _ _ is) in
    (found.0, subst IsPlain (sym found.1) (record { number = refl; str = refl; array = refl; object = refl }))

pub returns-in-Null-clause-begun : goal.returns-in-Null-clause-begun
returns-in-Null-clause-begun c =
    let first : c.args.reader.now ≡ token_of c.in_ok-token.token ∷ c.next.new.self = grind arith in
    let is = first ∙ ap (λ k. token_of k ∷ c.next.new.self) c.in-Null.is in
    let found = value_is_at c.args.depth _ _ _ (at_null c.args.depth _ _ is) in
    (found.0, subst IsPlain (sym found.1) (record { number = refl; str = refl; array = refl; object = refl }))

pub returns-then-depth-eq0-clause-err : goal.returns-then-depth-eq0-clause-err
returns-then-depth-eq0-clause-err c refused =
    let first : c.args.reader.now ≡ token_of c.in_ok-token.token ∷ c.next.new.self = grind arith in
    let is = first ∙ ap (λ k. token_of k ∷ c.next.new.self) c.in-BeginArray.is in
    at_deep_array c.args.depth _ _ (omega arith) is

pub returns-else-depth-eq0-clause-begun : goal.returns-else-depth-eq0-clause-begun
returns-else-depth-eq0-clause-begun c =
    let first : c.args.reader.now ≡ token_of c.in_ok-token.token ∷ c.next.new.self = grind arith in
    let is = first ∙ ap (λ k. token_of k ∷ c.next.new.self) c.in-BeginArray.is in
    at_array c.args.depth _ _ is (omega arith)

pub returns-then-depth-eq0-2-clause-err : goal.returns-then-depth-eq0-2-clause-err
returns-then-depth-eq0-2-clause-err c refused =
    let first : c.args.reader.now ≡ token_of c.in_ok-token.token ∷ c.next.new.self = grind arith in
    let is = first ∙ ap (λ k. token_of k ∷ c.next.new.self) c.in-BeginObject.is in
    at_deep_object c.args.depth _ _ (omega arith) is

pub returns-else-depth-eq0-2-clause-begun : goal.returns-else-depth-eq0-2-clause-begun
returns-else-depth-eq0-2-clause-begun c =
    let first : c.args.reader.now ≡ token_of c.in_ok-token.token ∷ c.next.new.self = grind arith in
    let is = first ∙ ap (λ k. token_of k ∷ c.next.new.self) c.in-BeginObject.is in
    at_object c.args.depth _ _ is (omega arith)

pub returns-in-EndObject-clause-err : goal.returns-in-EndObject-clause-err
returns-in-EndObject-clause-err c refused =
    let first : c.args.reader.now ≡ token_of c.in_ok-token.token ∷ c.next.new.self = grind arith in
    let none : value c.args.depth c.args.reader.now ≡ None = rw (value_is c.args.depth c.args.reader.now, first) (grind arith) in
    at_other c.args.depth c.args.reader.now none
