-- What the fault of a count says of the fault of a list.
use Rattle.std.proofs.Common.{◌≡◌, ℕ, Ok, Err, Result, sym, ap, ◌∙◌, subst}
use Rattle.std.specs.Prelude.{IsErrAnd, IsErrOf}
use Rattle.structure_check.specs.Rules.{TreeRules}
use Rattle.ring_listing.specs.declared.fault.CountFault.{CountFault}
use Rattle.ring_listing.specs.declared.fault.CountFault.TheVariants as count
use Rattle.ring_listing.specs.declared.fault.RingFault.{RingFault}
use Rattle.ring_listing.specs.declared.fault.RingFault.TheVariants as ring
use Rattle.ring_listing.specs.Faults.{ring_fault}

-- a fact of one tree is one of the same tree
pub of_tree : (P : TreeRules → ℕ → Type 0) (r s : TreeRules) (k l : ℕ) → r ≡ s → k ≡ l → P r k → P s l
of_tree P r s k l rules kind h = subst (P s) kind (subst (λ x. P x k) rules h)

big_of : (e : CountFault) (q : ℕ) → ring_fault e ≡ ring.TooBig q → e ≡ count.TooBig q
big_of count.Far q is = absurd (cc)
big_of (count.TooBig r) q is = cc
big_of count.Memory q is = absurd (cc)

pub told_big : {T : Type 0} (e : CountFault) (result : Result T RingFault) (q : ℕ) → IsErrAnd result (λ y. y ≡ ring_fault e) → IsErrOf result (ring.TooBig q) → e ≡ count.TooBig q
told_big e (Ok x) q gives is = absurd gives
told_big e (Err y) q gives is = let same : y ≡ ring.TooBig q = cc in big_of e q (sym gives ∙ same)

pub told_memory : {T : Type 0} (e : CountFault) (result : Result T RingFault) → e ≡ count.Memory → IsErrAnd result (λ y. y ≡ ring_fault e) → result ≡ Err ring.Memory
told_memory e (Ok x) is gives = absurd gives
told_memory e (Err y) is gives = ap Err (gives ∙ ap ring_fault is)
