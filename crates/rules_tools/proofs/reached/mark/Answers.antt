use Rattle.std.proofs.Common.{set, true, sym, ap, ◌∙◌, subst}
use Rattle.rules_tools.specs.Reached.{IsSearch, mark_at}
use Rattle.rules_tools.proofs.Searching.{marked_search}
use Rattle.rules_tools.proofs.reached.mark.Goals as goal

pub returns-clause-search : goal.returns-clause-search
returns-clause-search c = λ kinds a h r.
    subst (IsSearch kinds a (set c.args.marks.now.items c.args.s true)) (sym c.in_ok-push.ensures.items)
    (marked_search kinds a c.args.marks.now.items c.args.queue.now.items c.args.s c.requires (sym (ap (λ m. mark_at m c.args.s) c.deref.ensures.value) ∙ sym c.is_marked.ensures ∙ c.if-is_marked.false) h r)
