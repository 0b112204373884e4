use Rattle.std.proofs.Common.{◌≡◌, ◌≢◌, ◌⊎◌, inl, inr, ℕ, ◌+◌, ◌<◌, length, sym, subst, arith}
use Rattle.std.proofs.lemmas.Bool.{cases_eq}
use Rattle.rules_tools.specs.Keys.{class_of}
use Rattle.rules_tools.specs.Firsts.{HasFirst}
use Rattle.rules_tools.proofs.Stable.{first_stable}
use Rattle.rules_tools.proofs.stability.is_stable.Goals as goal

pub loop-s-preserved : goal.loop-s-preserved
loop-s-preserved c = record {
  firsts = c.agrees.ensures.firsts;
  has = λ t lt. go t lt (cases_eq t c.loop-s.s);
}
  where
    go : (t : ℕ) → t < c.loop-s.s + 1 → (t ≡ c.loop-s.s) ⊎ (t ≢ c.loop-s.s) → HasFirst c.args.a.now c.args.class.now c.agrees.new.firsts.items t
    go t lt (inl e) = subst (HasFirst c.args.a.now c.args.class.now c.agrees.new.firsts.items) (sym e) (c.in_ok-agrees.ensures.has c.if-not-branch.false)
    go t lt (inr d) =
        let (r, is, k) = c.loop-s.invariant.has t (omega (arith, lt, d)) in
        (r, c.agrees.ensures.kept (class_of c.args.class.now t) r is, k)

pub returns : goal.returns
returns c = λ kinds ok _.
    let e : c.loop-s.s ≡ length c.args.a.now.states = omega (arith, c.loop-s-test.false, c.loop-s.auto.s-end, c.count-s-end.ensures) in
    first_stable c.args.a.now c.args.class.now c.loop-s.firsts.items (λ s ls. c.loop-s.invariant.has s (omega (arith, ls, e))) kinds ok
