use Rattle.std.proofs.Common.{◌≡◌, suc, ◌+◌, ◌<◌, length, refl, ap, ◌∙◌, arith}
use Rattle.std.proofs.lemmas.List.{get_or_default}
use Rattle.rules_tools.specs.Keys.{class_of as number_at}
use Rattle.rules_tools.proofs.Roomy.{has_put, has_kept, has_only}
use Rattle.rules_tools.proofs.parents.put.Goals as goal

in_ends : (c : goal.After-p-2-1) → c.args.child < length c.args.p.now.ends.items
in_ends c = omega (arith, c.if-c-len.false, c.len.ensures, c.args.p.now.ends.ok.0)

known : (c : goal.After-p-2-1) → suc c.args.child < length c.args.p.now.starts.items
known c = omega (arith, c.if-c-len-2.false, c.len-else-c-len.ensures, c.args.p.now.starts.ok.0)

is_end : (c : goal.After-p-2-1) → c.index-at.result.now ≡ number_at c.args.p.now.ends.items c.args.child
is_end c = c.index-at.ensures ∙ get_or_default c.args.p.now.ends.items c.args.child c.index-at.result.now 0 (in_ends c)

start_is : (c : goal.After-p-2-1) → c.index.result.now ≡ number_at c.args.p.now.starts.items (suc c.args.child)
start_is c =
    let e : c.args.child + 1 ≡ suc c.args.child = omega arith in
    c.index.ensures ∙ get_or_default c.args.p.now.starts.items (c.args.child + 1) c.index.result.now 0 (omega (arith, known c)) ∙ ap (number_at c.args.p.now.starts.items) e

fits : (c : goal.After-p-2-1) → c.index-at.result.now < number_at c.args.p.now.starts.items (suc c.args.child)
fits c = omega (arith, c.if-at-index.false, start_is c)

in_entries : (c : goal.After-p-2-1) → c.index-at.result.now < length c.args.p.now.entries.items
in_entries c = omega (arith, c.if-at-len.false, c.len-else-at-index.ensures, c.args.p.now.entries.ok.0)

pub returns-clause-put : goal.returns-clause-put
returns-clause-put c = λ _. has_put c.args.p.now _ c.args.child c.index-at.result.now c.args.parent refl refl refl c.requires (in_ends c) (known c) (is_end c) (fits c) (in_entries c)

pub returns-clause-kept : goal.returns-clause-kept
returns-clause-kept c = has_kept c.args.p.now _ c.args.child c.index-at.result.now c.args.parent refl refl refl c.requires (in_ends c) (known c) (is_end c) (fits c) (in_entries c)

pub returns-clause-only : goal.returns-clause-only
returns-clause-only c = has_only c.args.p.now _ c.args.child c.index-at.result.now c.args.parent refl refl refl c.requires (in_ends c) (known c) (is_end c) (fits c) (in_entries c)
