use Rattle.std.proofs.Common.{set, arith}
use Rattle.std.proofs.lemmas.List.{length-set, get_or-set_same, get_or-set_other}
use Rattle.rules_tools.proofs.Cutting.{set_members}
use Rattle.rules_tools.proofs.splitting.set_class.Goals as goal

pub returns-clause-members : goal.returns-clause-members
returns-clause-members c = λ h.
    set_members c.args.x.now.class.items (set c.args.x.now.class.items c.args.s c.args.number) c.args.x.now.members.items c.add_to.new.rows.items c.args.s c.args.number
    (length-set c.args.x.now.class.items c.args.s c.args.number)
    (get_or-set_same c.args.x.now.class.items c.args.s c.args.number 0 (omega (arith, c.if-s-len.false, c.len.ensures, c.args.x.now.class.ok.0)))
    (λ t other. get_or-set_other c.args.x.now.class.items c.args.s t c.args.number 0 other)
    c.in_ok-add_to.ensures.added c.in_ok-add_to.ensures.kept h
