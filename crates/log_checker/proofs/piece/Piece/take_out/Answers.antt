use Rattle.std.proofs.Common.{◌≡◌, ℕ, true, ◌++◌, ◌∙◌, length, take, drop, sym, ap, rules}
use Rattle.std.proofs.lemmas.List.{take-append-drop}
use Rattle.std.proofs.lemmas.Slice.Eq.{starts_is}
use Rattle.tile_model.specs.declared.Letter.{Letter}
use Rattle.log_checker.specs.contracts.footprints.FootprintPartialEq.TheImpl.{eq-value}
use Rattle.log_checker.proofs.Pieces.{taken_out}
use Rattle.log_checker.proofs.piece.Piece.take_out.Goals as goal

forth : (a b : Letter × (ℕ × ℕ)) → eq-value.it a b ≡ true → a ≡ b
forth a b = search rules

back : (a b : Letter × (ℕ × ℕ)) → a ≡ b → eq-value.it a b ≡ true
back a b = search rules

pub returns-then-not-starts_with-clause-not_there : goal.returns-then-not-starts_with-clause-not_there
returns-then-not-starts_with-clause-not_there c = λ _ follows.
    let n = length c.args.middle.now in
    let s = c.deref.result.now in
    let s_is = c.deref.ensures.value ∙ c.behind.view_is ∙ c.in_ok-behind.ensures.rest in
    let begins = sym (take-append-drop n s) ∙ ap (λ m. m ++ drop n s) (ap (take n) s_is ∙ follows) in
    let starts = (starts_is {E = eq-value.it} (λ a b. (forth a b, back a b)) s c.args.middle.now c.starts_with.result c.starts_with.ensures.value).1 (drop n s) begins in
    absurd (cc (starts, c.if-not-starts_with.true))

pub returns-clause-out : goal.returns-clause-out
returns-clause-out c = λ _.
    let n = length c.args.middle.now in
    let s = c.deref.result.now in
    let s_is = c.deref.ensures.value ∙ c.behind.view_is ∙ c.in_ok-behind.ensures.rest in
    let begins = (starts_is {E = eq-value.it} (λ a b. (forth a b, back a b)) s c.args.middle.now c.starts_with.result c.starts_with.ensures.value).0 c.if-not-starts_with.false in
    let rest = c.deref-2.ensures.value ∙ c.rest.view_is ∙ c.in_ok-rest.ensures.rest ∙ ap (drop n) (sym (c.deref.ensures.value ∙ c.behind.view_is)) in
    taken_out c.args.offset c.args.middle.now c.args.self.now s c.cut.new.self c.deref-2.result.now c.extend.new.self c.requires s_is begins c.in_ok-extend.ensures c.in_ok-behind.ensures.kept rest
