-- One number after the other.
use Rattle.std.proofs.Common.{◌≡◌, ℕ, ◌+◌, ◌<◌, ◌⊎◌, None, sym, ap, ◌∙◌, subst, inl, inr, arith}
use Rattle.std.proofs.lemmas.Bool.{cases_eq}
use Rattle.coincidence.specs.Darts.{pack, unpack}
use Rattle.coincidence.specs.Tables.{joined_to}
use Rattle.region_grower.specs.Ways.{IsDart}
use Rattle.look_classes.specs.Contours.{steps_at}
use Rattle.look_classes.proofs.Darts.{dart_number, dart_side, unpack_pack}
use Rattle.look_classes.proofs.contour.meet.Goals as goal

-- each number below the next one
one_more : (n : ℕ) (P : ℕ → Type 0) → ((k : ℕ) → k < n → P k) → P n → (k : ℕ) → k < n + 1 → P k
one_more n P before last k lt = go (cases_eq k n)
  where
    go : (k ≡ n) ⊎ (k ≡ n → ⊥) → P k
    go (inl e) = subst P (sym e) last
    go (inr other) = before k (omega (arith, lt, other))

pub loop-number-preserved : goal.loop-number-preserved
loop-number-preserved c =
    let r = c.args.tree.now in
    let h = c.loop-number.invariant in
    record {
      met = c.meet_if_open.ensures.met;
      meets = one_more c.loop-number.number (λ n. IsDart r.table (unpack n) → joined_to r.table (unpack n) ≡ None → 0 < steps_at c.meet_if_open.new.met (unpack n)) (λ k lt is_dart none. c.meet_if_open.ensures.stay (unpack k) (h.meets k lt is_dart none)) c.meet_if_open.ensures.meets;
    }

pub loop-number-2-init : goal.loop-number-2-init
loop-number-2-init c =
    let r = c.args.tree.now in
    let h = c.loop-number.invariant in
    let table = c.darts-number-end.ensures.table in
    record {
      met = h.met;
      opened = λ d is_dart none.
          let own = unpack_pack d (dart_side r table d is_dart) in
          let low = dart_number r table d is_dart in
          subst (λ x. 0 < steps_at c.loop-number.met x) own (h.meets (pack d) (omega (arith, low, c.loop-number-test.false, c.darts-number-end.ensures.value)) (subst (IsDart r.table) (sym own) is_dart) (ap (joined_to r.table) own ∙ none));
      meets = λ n lt. absurd (omega (arith, lt));
    }

pub loop-number-2-preserved : goal.loop-number-2-preserved
loop-number-2-preserved c =
    let r = c.args.tree.now in
    let h = c.loop-number-2.invariant in
    record {
      met = c.meet_if_new.ensures.met;
      opened = λ d is_dart none. c.meet_if_new.ensures.stay d (h.opened d is_dart none);
      meets = one_more c.loop-number-2.number (λ n. IsDart r.table (unpack n) → 0 < steps_at c.meet_if_new.new.met (unpack n)) (λ k lt is_dart. c.meet_if_new.ensures.stay (unpack k) (h.meets k lt is_dart)) c.meet_if_new.ensures.meets;
    }

pub returns-clause-all : goal.returns-clause-all
returns-clause-all c = λ d is_dart.
    let r = c.args.tree.now in
    let table = c.darts-number-end.ensures.table in
    let own = unpack_pack d (dart_side r table d is_dart) in
    let low = dart_number r table d is_dart in
    subst (λ x. 0 < steps_at c.loop-number-2.met x) own (c.loop-number-2.invariant.meets (pack d) (omega (arith, low, c.loop-number-2-test.false, c.darts-number-end-2.ensures.value)) (subst (IsDart r.table) (sym own) is_dart))
