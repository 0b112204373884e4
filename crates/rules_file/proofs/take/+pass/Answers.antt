-- Turn by turn what is left reads as the whole did.
use Rattle.std.proofs.Common.{◌≡◌, ℕ, ◌-◌, ◌<◌, List, ◌∷◌, length, Option, Some, None, option_map, Result, Ok, Err, OnOk, refl, sym, ap, ◌∙◌, subst, arith}
use Rattle.std.specs.Prelude.{⊤}
use Rattle.json.specs.Token.{Token}
use Rattle.json.specs.Json.{parse_map, after_end_array, read_key}
use Rattle.json.proofs.Grammar.{read_key-shorter}
use Rattle.serde_json.specs.Data.{Items, no_items, item, Members, no_members, put}
use Rattle.rules_file.specs.Taking.{value_read, items_read, members_read, value_at, HasValue, HasItems, HasMembers, OpensArray, OpensObject}
use Rattle.rules_file.proofs.Taking.{has_shorter, items_are_at, members_are_at, items_done, items_next, items_stop, members_done, members_next, members_stop, members_unnamed, array_whole, object_whole}
use Rattle.rules_file.proofs.take.+pass.Goals as goal

array_passed : {E : Type 0} (o : Result ⊤ E) (depth : ℕ) (ts mid r : List Token) → OpensArray depth ts mid → OnOk o (HasItems (depth - 1) mid r) → OnOk o (HasValue depth ts r)
array_passed (Ok u) depth ts mid r opens h = (array_whole depth ts mid r opens h).0
array_passed (Err u) depth ts mid r opens h = tt

object_passed : {E : Type 0} (o : Result ⊤ E) (depth : ℕ) (ts mid r : List Token) → OpensObject depth ts mid → OnOk o (HasMembers (depth - 1) mid r) → OnOk o (HasValue depth ts r)
object_passed (Ok u) depth ts mid r opens h = (object_whole depth ts mid r opens h).0
object_passed (Err u) depth ts mid r opens h = tt

under : {A B : Type 0} (f : A → B) (g : A → A) (o r : Option (A × List Token)) → o ≡ parse_map g r → parse_map f o ≡ parse_map (λ a. f (g a)) r
under f g o None e = ap (parse_map f) e
under f g o (Some p) e = ap (parse_map f) e

itself : {A : Type 0} (r : Option (A × List Token)) → r ≡ parse_map (λ a. a) r
itself None = refl
itself (Some p) = refl

pub pass-returns-in-Array-clause-passed : goal.pass-returns-in-Array-clause-passed
pass-returns-in-Array-clause-passed t c = array_passed c.pass_items.result c.args.depth c.args.reader.now c.begin.new.reader c.pass_items.new.reader (rw c.in-Array.is at c.in_ok-begin.ensures.begun) c.pass_items.ensures.passed

pub pass-returns-in-Object-clause-passed : goal.pass-returns-in-Object-clause-passed
pass-returns-in-Object-clause-passed t c = object_passed c.pass_members.result c.args.depth c.args.reader.now c.begin.new.reader c.pass_members.new.reader (rw c.in-Object.is at c.in_ok-begin.ensures.begun) c.pass_members.ensures.passed

pub pass_items-items-init : goal.pass_items-items-init
pass_items-items-init t c = ((λ ds. ds), itself _)

pub pass_items-items-smaller : goal.pass_items-items-smaller
pass_items-items-smaller t c =
    let going : (after_end_array c.items.reader ≡ None) × (c.take_end_array.new.self ≡ c.items.reader) = grind arith in
    omega (arith, ap length going.1, has_shorter c.args.depth _ _ c.in_ok-pass.ensures.passed)

pub pass_items-items-preserved : goal.pass_items-items-preserved
pass_items-items-preserved t c =
    let l = c.items in
    let going : (after_end_array l.reader ≡ None) × (c.take_end_array.new.self ≡ l.reader) = grind arith in
    let has = subst (λ ts. HasValue c.args.depth ts c.pass.new.reader) going.1 c.in_ok-pass.ensures.passed in
    let d = value_at c.args.depth l.reader in
    ((λ ds. l.invariant.0 (item d ds)), l.invariant.1 ∙ under l.invariant.0 (item d) _ _ (items_next c.args.depth l.reader c.pass.new.reader d going.0 has))

pub pass_items-returns-in_err-pass-clause-err : goal.pass_items-returns-in_err-pass-clause-err
pass_items-returns-in_err-pass-clause-err t c refused =
    let l = c.items in
    let going : (after_end_array l.reader ≡ None) × (c.take_end_array.new.self ≡ l.reader) = grind arith in
    let none : value_read c.args.depth l.reader ≡ None = subst (λ ts. value_read c.args.depth ts ≡ None) going.1 (c.pass.ensures.err (grind arith)) in
    l.invariant.1 ∙ ap (parse_map l.invariant.0) (items_stop c.args.depth l.reader going.0 none)

pub pass_items-returns-clause-passed : goal.pass_items-returns-clause-passed
pass_items-returns-clause-passed t c =
    let l = c.items in
    let r = c.take_end_array.new.self in
    (items_are_at c.args.depth c.args.reader.now r (l.invariant.0 no_items) (l.invariant.1 ∙ ap (parse_map l.invariant.0) (items_done c.args.depth l.reader r (grind arith)))).0

pub pass_members-members-init : goal.pass_members-members-init
pass_members-members-init t c = (no_members, refl)

pub pass_members-returns-in-Err-clause-err : goal.pass_members-returns-in-Err-clause-err
pass_members-returns-in-Err-clause-err t c refused =
    let l = c.members in
    l.invariant.1 ∙ members_unnamed c.args.depth l.invariant.0 l.reader c.in-Err.ensures.value

pub pass_members-returns-in-Ok-None-clause-passed : goal.pass_members-returns-in-Ok-None-clause-passed
pass_members-returns-in-Ok-None-clause-passed t c =
    let l = c.members in
    let r = c.next_key.new.self in
    (members_are_at c.args.depth c.args.reader.now r l.invariant.0 (l.invariant.1 ∙ members_done c.args.depth l.invariant.0 l.reader r (grind arith))).0

pub pass_members-members-smaller : goal.pass_members-members-smaller
pass_members-members-smaller t c =
    let l = c.members in
    let k = c.in-Ok-Some.field-0-0.now in
    let s = c.next_key.new.self in
    let named : read_key l.reader ≡ Some (Some k, s) = grind arith in
    omega (arith, read_key-shorter l.reader (Some k) s named, has_shorter c.args.depth _ _ c.in_ok-pass-in-Ok-Some.ensures.passed)

pub pass_members-members-preserved : goal.pass_members-members-preserved
pass_members-members-preserved t c =
    let l = c.members in
    let k = c.in-Ok-Some.field-0-0.now in
    let s = c.next_key.new.self in
    let named : read_key l.reader ≡ Some (Some k, s) = grind arith in
    let d = value_at c.args.depth s in
    (put k d l.invariant.0, l.invariant.1 ∙ members_next c.args.depth l.invariant.0 l.reader s c.pass.new.reader k d named c.in_ok-pass-in-Ok-Some.ensures.passed)

pub pass_members-returns-in_err-pass-in-Ok-Some-clause-err : goal.pass_members-returns-in_err-pass-in-Ok-Some-clause-err
pass_members-returns-in_err-pass-in-Ok-Some-clause-err t c refused =
    let l = c.members in
    let k = c.in-Ok-Some.field-0-0.now in
    let s = c.next_key.new.self in
    let named : read_key l.reader ≡ Some (Some k, s) = grind arith in
    l.invariant.1 ∙ members_stop c.args.depth l.invariant.0 l.reader s k named (c.pass.ensures.err (grind arith))
