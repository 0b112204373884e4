-- With a key, or with none.
use Rattle.std.proofs.Common.{◌≡◌, [], ◌∷◌, ◌++◌, Some, None, MatchOption, refl, sym, ap, ◌∙◌, subst, arith}
use Rattle.key_numbers.specs.Numbering.{HasNumbered}
use Rattle.key_numbers.proofs.Sights.{added_none, added_some, inserted}
use Rattle.key_numbers.proofs.numbering.Numbering.add.Goals as goal

pub returns-in_ok-push-in-Some : goal.returns-in_ok-push-in-Some
returns-in_ok-push-in-Some c = λ met x h is.
    let key = c.in-Some.key in
    let e : x ≡ Some key.items = subst (λ k. MatchOption k (x ≡ None) (λ v. x ≡ Some v.items)) c.in-Some.is is in
    let clauses = c.in_ok-number-in-Some.ensures in
    let ins = inserted (λ v. v.items) c.args.self.now.keys.keys c.insert_full.new.self.keys key c.in_ok-number-in-Some.number clauses.keys clauses.stored.0 clauses.stored.1 clauses.stored.2 clauses.unique in
    let number : c.in-Ok.number ≡ c.in_ok-number-in-Some.number = omega (arith, c.in-Ok.ensures) in
    subst (λ y. HasNumbered (met ++ y ∷ []) (record { keys = c.insert_full.new.self; numbers = c.push.new.self })) (sym e) (added_some met c.args.self.now (record { keys = c.insert_full.new.self; numbers = c.push.new.self }) key.items c.in_ok-number-in-Some.number h ins (c.in_ok-push-in-Some.ensures.items ∙ ap (λ k. c.args.self.now.numbers.items ++ Some k ∷ []) number))

pub returns-in_ok-push-in-None : goal.returns-in_ok-push-in-None
returns-in_ok-push-in-None c = λ met x h is.
    let e : x ≡ None = subst (λ k. MatchOption k (x ≡ None) (λ v. x ≡ Some v.items)) c.in-None.is is in
    subst (λ y. HasNumbered (met ++ y ∷ []) (record { keys = c.args.self.now.keys; numbers = c.push-in-None.new.self })) (sym e) (added_none met c.args.self.now (record { keys = c.args.self.now.keys; numbers = c.push-in-None.new.self }) h refl c.in_ok-push-in-None.ensures.items)
