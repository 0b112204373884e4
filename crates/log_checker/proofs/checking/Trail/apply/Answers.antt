-- A change that is made is one of the walk, and one that is not made is not allowed.
use Rattle.std.proofs.Common.{◌∙◌, List, length, take, subst, sym, ap, ap₂, arith}
use Rattle.std.specs.Prelude.{IfSome, IfNone}
use Rattle.tile_model.specs.declared.Letter.{Letter}
use Rattle.tile_model.specs.Walks.{type_of}
use Rattle.tile_model.specs.Relation.{Change, IsLoop}
use Rattle.log_checker.specs.Footprints.{typed}
use Rattle.log_checker.specs.Trails.{joined, walk_of, Covers}
use Rattle.log_checker.proofs.Pieces.{place_is}
use Rattle.log_checker.proofs.LetterTypes.{length_letters}
use Rattle.log_checker.proofs.Changing.{not_past, not_without_loop, put_keeps, put_is_change, take_keeps, take_is_change, not_there_not_allowed}
use Rattle.log_checker.proofs.checking.Trail.apply.Goals as goal

pub returns-in_default-clause-refused : goal.returns-in_default-clause-refused
returns-in_default-clause-refused c = λ _.
    let at = ap (λ (x : Change). x.at) c.change.view_is in
    let whole = ap (λ ps. length (joined ps)) c.deref.ensures.value in
    let size = length_letters (joined c.args.self.now.pieces.items) in
    not_past c.args.t.now c.args.from c.args.change (walk_of c.args.self.now.pieces.items) (omega (arith, c.in_default.ensures.none, at, whole, size))

pub returns-in_default-2-clause-refused : goal.returns-in_default-2-clause-refused
returns-in_default-2-clause-refused c = λ _.
    let ps = c.args.self.now.pieces.items in
    let at = ap (λ (x : Change). x.at) c.change.view_is in
    let number = ap (λ (x : Change). x.loop) c.change.view_is in
    let type = c.type_at-at.ensures.value ∙ ap₂ (λ k qs. type_of c.args.t.now c.args.from (take k (walk_of qs))) at c.deref-2.ensures.value in
    let none = subst (λ o. IfNone o ((ls : List Letter) → ¬ (IsLoop c.args.t.now c.type_at-at.result c.change.inside.which ls))) c.in_default-2.is c.in_ok-letters.ensures.none in
    not_without_loop c.args.t.now c.args.from c.args.change (walk_of ps) c.type_at-at.result c.change.inside.which number type none

pub returns-then-change-clause-typed : goal.returns-then-change-clause-typed
returns-then-change-clause-typed c = λ _.
    let ps = c.args.self.now.pieces.items in
    let at = ap (λ (x : Change). x.at) c.change.view_is in
    let number = ap (λ (x : Change). x.loop) c.change.view_is in
    let type = c.type_at-at.ensures.value ∙ ap₂ (λ k qs. type_of c.args.t.now c.args.from (take k (walk_of qs))) at c.deref-2.ensures.value in
    let covers = subst (λ qs. Covers qs c.in-Some.near.index c.in-Some.near.before c.change.inside.at) c.deref.ensures.value c.in-Some.ensures.some in
    let place = place_is ps c.in-Some.near.index c.in-Some.near.before c.change.inside.at covers ∙ at in
    let middle_is = c.deref-then-change.ensures.value ∙ c.in_ok-middle.ensures ∙ ap (typed c.args.t.now c.type_at-at.result) c.deref-3.ensures.value in
    let is = subst (λ o. IfSome o (λ ls. IsLoop c.args.t.now c.type_at-at.result c.change.inside.which ls.items)) c.in-Some-2.is c.in_ok-letters.ensures.some in
    put_keeps c.args.t.now c.requires.valid c.args.from c.args.change _ c.type_at-at.result c.change.inside.which c.in-Some-2.letters.items c.deref-then-change.result.now (joined ps) (joined c.put.new.pieces.items) place number middle_is is type c.requires.typed c.in_ok-put.ensures.put

pub returns-then-change-clause-changed : goal.returns-then-change-clause-changed
returns-then-change-clause-changed c = λ _.
    let ps = c.args.self.now.pieces.items in
    let at = ap (λ (x : Change). x.at) c.change.view_is in
    let number = ap (λ (x : Change). x.loop) c.change.view_is in
    let type = c.type_at-at.ensures.value ∙ ap₂ (λ k qs. type_of c.args.t.now c.args.from (take k (walk_of qs))) at c.deref-2.ensures.value in
    let covers = subst (λ qs. Covers qs c.in-Some.near.index c.in-Some.near.before c.change.inside.at) c.deref.ensures.value c.in-Some.ensures.some in
    let place = place_is ps c.in-Some.near.index c.in-Some.near.before c.change.inside.at covers ∙ at in
    let middle_is = c.deref-then-change.ensures.value ∙ c.in_ok-middle.ensures ∙ ap (typed c.args.t.now c.type_at-at.result) c.deref-3.ensures.value in
    let is = subst (λ o. IfSome o (λ ls. IsLoop c.args.t.now c.type_at-at.result c.change.inside.which ls.items)) c.in-Some-2.is c.in_ok-letters.ensures.some in
    let insert = sym (ap (λ (x : Change). x.insert) c.change.view_is) ∙ c.if-change.true in
    put_is_change c.args.t.now c.requires.valid c.args.from c.args.change _ c.type_at-at.result c.change.inside.which c.in-Some-2.letters.items c.deref-then-change.result.now (joined ps) (joined c.put.new.pieces.items) place number middle_is is type insert c.in_ok-put.ensures.put

pub returns-clause-typed : goal.returns-clause-typed
returns-clause-typed c = λ done.
    let ps = c.args.self.now.pieces.items in
    let at = ap (λ (x : Change). x.at) c.change.view_is in
    let number = ap (λ (x : Change). x.loop) c.change.view_is in
    let type = c.type_at-at.ensures.value ∙ ap₂ (λ k qs. type_of c.args.t.now c.args.from (take k (walk_of qs))) at c.deref-2.ensures.value in
    let covers = subst (λ qs. Covers qs c.in-Some.near.index c.in-Some.near.before c.change.inside.at) c.deref.ensures.value c.in-Some.ensures.some in
    let place = place_is ps c.in-Some.near.index c.in-Some.near.before c.change.inside.at covers ∙ at in
    let middle_is = c.deref-4.ensures.value ∙ c.in_ok-middle.ensures ∙ ap (typed c.args.t.now c.type_at-at.result) c.deref-3.ensures.value in
    let is = subst (λ o. IfSome o (λ ls. IsLoop c.args.t.now c.type_at-at.result c.change.inside.which ls.items)) c.in-Some-2.is c.in_ok-letters.ensures.some in
    take_keeps c.args.t.now c.requires.valid c.args.from c.args.change _ c.type_at-at.result c.change.inside.which c.in-Some-2.letters.items c.deref-4.result.now (joined c.take_out.new.pieces.items) (joined ps) place number middle_is is type c.requires.typed (c.in_ok-done.ensures.out done)

pub returns-clause-changed : goal.returns-clause-changed
returns-clause-changed c = λ done.
    let ps = c.args.self.now.pieces.items in
    let at = ap (λ (x : Change). x.at) c.change.view_is in
    let number = ap (λ (x : Change). x.loop) c.change.view_is in
    let type = c.type_at-at.ensures.value ∙ ap₂ (λ k qs. type_of c.args.t.now c.args.from (take k (walk_of qs))) at c.deref-2.ensures.value in
    let covers = subst (λ qs. Covers qs c.in-Some.near.index c.in-Some.near.before c.change.inside.at) c.deref.ensures.value c.in-Some.ensures.some in
    let place = place_is ps c.in-Some.near.index c.in-Some.near.before c.change.inside.at covers ∙ at in
    let middle_is = c.deref-4.ensures.value ∙ c.in_ok-middle.ensures ∙ ap (typed c.args.t.now c.type_at-at.result) c.deref-3.ensures.value in
    let is = subst (λ o. IfSome o (λ ls. IsLoop c.args.t.now c.type_at-at.result c.change.inside.which ls.items)) c.in-Some-2.is c.in_ok-letters.ensures.some in
    let insert = sym (ap (λ (x : Change). x.insert) c.change.view_is) ∙ c.if-change.false in
    take_is_change c.args.t.now c.requires.valid c.args.from c.args.change _ c.type_at-at.result c.change.inside.which c.in-Some-2.letters.items c.deref-4.result.now (joined c.take_out.new.pieces.items) (joined ps) place number middle_is is type insert (c.in_ok-done.ensures.out done)

pub returns-clause-refused : goal.returns-clause-refused
returns-clause-refused c = λ not_done.
    let ps = c.args.self.now.pieces.items in
    let at = ap (λ (x : Change). x.at) c.change.view_is in
    let number = ap (λ (x : Change). x.loop) c.change.view_is in
    let type = c.type_at-at.ensures.value ∙ ap₂ (λ k qs. type_of c.args.t.now c.args.from (take k (walk_of qs))) at c.deref-2.ensures.value in
    let covers = subst (λ qs. Covers qs c.in-Some.near.index c.in-Some.near.before c.change.inside.at) c.deref.ensures.value c.in-Some.ensures.some in
    let place = place_is ps c.in-Some.near.index c.in-Some.near.before c.change.inside.at covers ∙ at in
    let middle_is = c.deref-4.ensures.value ∙ c.in_ok-middle.ensures ∙ ap (typed c.args.t.now c.type_at-at.result) c.deref-3.ensures.value in
    let is = subst (λ o. IfSome o (λ ls. IsLoop c.args.t.now c.type_at-at.result c.change.inside.which ls.items)) c.in-Some-2.is c.in_ok-letters.ensures.some in
    let insert = sym (ap (λ (x : Change). x.insert) c.change.view_is) ∙ c.if-change.false in
    not_there_not_allowed c.args.t.now c.requires.valid c.args.from c.args.change _ c.type_at-at.result c.change.inside.which c.in-Some-2.letters.items c.deref-4.result.now (joined ps) (joined ps) place number middle_is is type c.requires.typed insert (c.in_ok-done.ensures.not_there not_done)
