use Rattle.std.proofs.Common.{suc, ◌+◌, ◌<◌, ◌≤◌, length, ap, ◌∙◌, sym, arith, subst}
use Rattle.std.specs.Prelude.{All}
use Rattle.std.proofs.lemmas.List.{get_or_read}
use Rattle.ring_listing.specs.declared.family.Children.{Children}
use Rattle.ring_listing.specs.Populations.{children_sum}
use Rattle.ring_listing.proofs.Families.{one_more, one_new}
use Rattle.ring_listing.proofs.family.add_child.Goals as goal

pub overflow_add-index_mut : goal.overflow_add-index_mut
overflow_add-index_mut c =
    let few = subst (All (λ (x : Children). x.sides < 255)) (sym c.loop-at.invariant) c.requires in
    let here = few c.loop-at.at c.index_mut.result.now (omega (arith, c.len-at-end.ensures)) in
    omega (arith, here, ap (λ (x : Children). x.sides) c.index_mut.ensures.value)

pub returns-then-index-state-clause-sums : goal.returns-then-index-state-clause-sums
returns-then-index-state-clause-sums c = λ f.
    let cs = c.loop-at.children.items in
    let old = c.index_mut.result.now in
    let within : c.loop-at.at < length cs = omega (arith, c.len-at-end.ensures) in
    let read = get_or_read cs c.loop-at.at c.index.result.now within c.index.ensures old in
    let state = ap (λ (x : Children). x.state) (c.index_mut.ensures.value ∙ sym read) ∙ c.if-index-state.true in
    let more = one_more cs c.loop-at.at old c.args.state within c.index_mut.ensures.value state in
    more.0 f ∙ ap (λ xs. children_sum f xs + f c.args.state) c.loop-at.invariant

pub returns-then-index-state-clause-known : goal.returns-then-index-state-clause-known
returns-then-index-state-clause-known c = λ n less h.
    let cs = c.loop-at.children.items in
    let old = c.index_mut.result.now in
    let within : c.loop-at.at < length cs = omega (arith, c.len-at-end.ensures) in
    let read = get_or_read cs c.loop-at.at c.index.result.now within c.index.ensures old in
    let state = ap (λ (x : Children). x.state) (c.index_mut.ensures.value ∙ sym read) ∙ c.if-index-state.true in
    let more = one_more cs c.loop-at.at old c.args.state within c.index_mut.ensures.value state in
    more.1 n less (subst (All (λ (x : Children). x.state < n)) (sym c.loop-at.invariant) h)

pub returns-then-index-state-clause-few : goal.returns-then-index-state-clause-few
returns-then-index-state-clause-few c = λ n h.
    let cs = c.loop-at.children.items in
    let old = c.index_mut.result.now in
    let within : c.loop-at.at < length cs = omega (arith, c.len-at-end.ensures) in
    let read = get_or_read cs c.loop-at.at c.index.result.now within c.index.ensures old in
    let state = ap (λ (x : Children). x.state) (c.index_mut.ensures.value ∙ sym read) ∙ c.if-index-state.true in
    let more = one_more cs c.loop-at.at old c.args.state within c.index_mut.ensures.value state in
    more.2 n (subst (All (λ (x : Children). x.sides ≤ n)) (sym c.loop-at.invariant) h)

pub returns-clause-sums : goal.returns-clause-sums
returns-clause-sums c = λ f.
    ap (children_sum f) c.in_ok-push.ensures.items ∙ (one_new c.loop-at.children.items c.args.state).0 f ∙ ap (λ cs. children_sum f cs + f c.args.state) c.loop-at.invariant

pub returns-clause-known : goal.returns-clause-known
returns-clause-known c = λ n less h.
    let new = (one_new c.loop-at.children.items c.args.state).1 n less (subst (All (λ (x : Children). x.state < n)) (sym c.loop-at.invariant) h) in
    subst (All (λ (x : Children). x.state < n)) (sym c.in_ok-push.ensures.items) new

pub returns-clause-few : goal.returns-clause-few
returns-clause-few c = λ n h.
    let new = (one_new c.loop-at.children.items c.args.state).2 n (subst (All (λ (x : Children). x.sides ≤ n)) (sym c.loop-at.invariant) h) in
    subst (All (λ (x : Children). x.sides ≤ suc n)) (sym c.in_ok-push.ensures.items) new
