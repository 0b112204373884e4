-- One side after the other.
use Rattle.std.proofs.Common.{◌≡◌, suc, ◌+◌, [], ◌∷◌, ◌++◌, Some, sym, ap, ◌∙◌, arith, append_assoc}
use Rattle.std.proofs.lemmas.List.{append-nil}
use Rattle.look_classes.specs.Tree.{sides_of}
use Rattle.look_classes.specs.Looks.{each_where, has_child, both}
use Rattle.look_classes.specs.Codes.{child_code}
use Rattle.look_classes.proofs.Dead.{where_zero, where_none, where_skip, where_take}
use Rattle.look_classes.proofs.faces.with_children.Goals as goal
use Rattle.look_classes.proofs.faces.with_children.Goals.{then-is_child+in-Some+in_ok-push, else-is_child}

pub loop-j-init : goal.loop-j-init
loop-j-init c = ([], where_zero (has_child c.args.places.now c.args.cell) (child_code c.args.places.now c.args.cells.now c.args.cell), sym (append-nil c.args.key.items))

pub returns-in_default : goal.returns-in_default
returns-in_default c =
    let r = c.args.places.now in
    let all : c.sides-j-end.result ≡ sides_of r c.args.cell = c.sides-j-end.ensures.value ∙ ap (λ s. sides_of s c.args.cell) c.region.ensures.value in
    where_none (sides_of r c.args.cell) c.loop-j.j (has_child r c.args.cell) (child_code r c.args.cells.now c.args.cell) (omega (arith, c.loop-j-test.true, all)) (sym c.is_child.ensures ∙ c.if-is_child.true) (sym c.child_number.ensures ∙ c.in_default.is)

pub loop-j-preserved : goal.loop-j-preserved
loop-j-preserved c =
    let r = c.args.places.now in
    let j = c.loop-j.j in
    let one : j + 1 ≡ suc j = omega arith in
    let cs = c.loop-j.invariant.0 in
    let there = c.loop-j.invariant.1 in
    let items = c.loop-j.invariant.2 in
    let key = c.args.key.items in
    elim c.if-is_child.branch [
      | then-is_child+in-Some+in_ok-push w ↦
          let x = w.in-Some.child in (
            cs ++ x ∷ [],
            ap (λ k. each_where k (has_child r c.args.cell) (child_code r c.args.cells.now c.args.cell)) one ∙ (where_take j (has_child r c.args.cell) (child_code r c.args.cells.now c.args.cell) (sym c.is_child.ensures ∙ w.if-is_child.true) ∙ (ap (λ o. both (λ xs x. xs ++ x ∷ []) o (child_code r c.args.cells.now c.args.cell j)) there ∙ ap (λ o. both (λ xs x. xs ++ x ∷ []) (Some cs) o) (sym w.child_number.ensures ∙ w.in-Some.is))),
            ap (λ v. v.items) w.key-is ∙ (w.in_ok-push.ensures.items ∙ (ap (λ ys. ys ++ x ∷ []) items ∙ append_assoc key cs (x ∷ []))),
          )
      | else-is_child w ↦ (cs, ap (λ k. each_where k (has_child r c.args.cell) (child_code r c.args.cells.now c.args.cell)) one ∙ (where_skip j (has_child r c.args.cell) (child_code r c.args.cells.now c.args.cell) (sym c.is_child.ensures ∙ w.if-is_child.false) ∙ there), ap (λ v. v.items) w.key-is ∙ items)
    ]
