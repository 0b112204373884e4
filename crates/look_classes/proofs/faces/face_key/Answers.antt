-- One side after the other.
use Rattle.std.proofs.Common.{◌≡◌, [], ◌∷◌, ◌++◌, sym, ap, ap₂, ◌∙◌, arith}
use Rattle.std.specs.Option.{option_map}
use Rattle.coincidence.specs.Tables.{kind_of, type_at}
use Rattle.look_classes.specs.Tree.{sides_of, counted}
use Rattle.look_classes.specs.Codes.{side_code, face_code, flat}
use Rattle.look_classes.proofs.Dead.{each_zero, each_more, each_none, flat_more, three}
use Rattle.look_classes.proofs.faces.face_key.Goals as goal

pub loop-j-init : goal.loop-j-init
loop-j-init c =
    let r = c.args.places.now in
    let ty : c.type_of-counted.result ≡ type_at r.table (counted r c.args.cell 0) = c.type_of-counted.ensures.value ∙ (ap (λ t. type_at t c.counted.result) (c.joins.ensures.value ∙ ap (λ s. s.table) c.region-region.ensures.value) ∙ ap (type_at r.table) c.counted.ensures.value) in
    let kind : c.from.result ≡ kind_of r.table.origins c.args.cell = c.from.ensures ∙ (ap (λ d. d.0) c.counted-2.view_is ∙ ap (λ d. d.0) ty) in
    let residue : c.from-2.result ≡ (type_at r.table (counted r c.args.cell 0)).1 = c.from-2.ensures ∙ (ap (λ d. d.1) c.counted-2.view_is ∙ ap (λ d. d.1) ty) in
    ([], each_zero (side_code c.args.places.now c.args.corners.now c.args.cell), c.in_ok-push-2.ensures.items ∙ (ap (λ l. l ++ c.from-2.result ∷ []) (c.in_ok-push.ensures.items ∙ ap (λ l. l ++ c.from.result ∷ []) c.new-key.ensures.items) ∙ ap₂ (λ a b. a ∷ b ∷ []) kind residue))

pub returns-in_default : goal.returns-in_default
unfolding face_code
returns-in_default c =
    let r = c.args.places.now in
    let all : c.sides-j-end.result ≡ sides_of r c.args.cell = c.sides-j-end.ensures.value ∙ ap (λ s. sides_of s c.args.cell) c.region-region.ensures.value in
    ap (option_map (λ ss. kind_of r.table.origins c.args.cell ∷ (type_at r.table (counted r c.args.cell 0)).1 ∷ flat ss)) (each_none (sides_of r c.args.cell) c.loop-j.j (side_code r c.args.corners.now c.args.cell) (omega (arith, c.loop-j-test.true, all)) (sym c.side_numbers.ensures ∙ c.in_default.is))

pub loop-j-preserved : goal.loop-j-preserved
loop-j-preserved c =
    let r = c.args.places.now in
    let h = c.loop-j.invariant in
    let items = c.in_ok-push-5.ensures.items ∙ ap (λ l. l ++ c.in-Some.corner ∷ []) (c.in_ok-push-4.ensures.items ∙ ap (λ l. l ++ c.in-Some.place ∷ []) (c.in_ok-push-3.ensures.items ∙ ap (λ l. l ++ c.in-Some.rule ∷ []) h.2)) in
    (h.0 ++ (c.in-Some.rule, c.in-Some.place, c.in-Some.corner) ∷ [], each_more c.loop-j.j (side_code r c.args.corners.now c.args.cell) h.0 (c.in-Some.rule, c.in-Some.place, c.in-Some.corner) h.1 (sym c.side_numbers.ensures ∙ c.in-Some.is), items ∙ (three (kind_of r.table.origins c.args.cell ∷ (type_at r.table (counted r c.args.cell 0)).1 ∷ flat h.0) c.in-Some.rule c.in-Some.place c.in-Some.corner ∙ ap (λ l. kind_of r.table.origins c.args.cell ∷ (type_at r.table (counted r c.args.cell 0)).1 ∷ l) (sym (flat_more h.0 (c.in-Some.rule, c.in-Some.place, c.in-Some.corner)))))
