-- The partner of a side is a side.
use Rattle.std.proofs.Common.{ℕ, Bool, sym, subst}
use Rattle.handed_kinds.specs.Handed.{IsSide}
use Rattle.handed_kinds.proofs.checks.is_involution.Goals as goal

pub partner_of-back-requires-clause-is_side : goal.partner_of-back-requires-clause-is_side
partner_of-back-requires-clause-is_side c = subst (λ (q : ℕ × ℕ × Bool). IsSide c.args.kinds.now (q.0, q.1)) (sym c.partner_of-other.ensures) (c.requires.partners (c.args.kind, c.args.residue) c.requires.is_side)
