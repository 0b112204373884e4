-- The partners and valences so far, followed by those that are left, are those of the kind as it is seen.
use Rattle.std.proofs.Common.{◌≡◌, ◌++◌, drop}
use Rattle.handed_kinds.specs.Expansion.{seen}
use Rattle.handed_kinds.proofs.expand.seen_kind.Given as goal

abbrev pub invariant-loop-j : goal.invariant-loop-j
invariant-loop-j l = record {
  partners : l.partner.items ++ drop l.j (seen l.kinds l.k l.mirrored).partner ≡ (seen l.kinds l.k l.mirrored).partner;
  valences : l.valence.items ++ drop l.j (seen l.kinds l.k l.mirrored).valence ≡ (seen l.kinds l.k l.mirrored).valence;
}
