-- One number after the other.
use Rattle.std.proofs.Common.{◌≡◌, ◌+◌, length, slice_index_or, false, sym, ap, ◌∙◌, subst, arith}
use Rattle.std.proofs.lemmas.List.{length_push}
use Rattle.coincidence.specs.Darts.{pack, unpack}
use Rattle.region_grower.specs.Ways.{IsDart}
use Rattle.look_classes.specs.Places.{is_key}
use Rattle.look_classes.proofs.Darts.{dart_number, dart_side, unpack_pack}
use Rattle.look_classes.proofs.Listed.{push_each}
use Rattle.look_classes.proofs.contour.keys.Goals as goal

pub loop-number-preserved : goal.loop-number-preserved
loop-number-preserved c =
    let r = c.args.tree.now in
    let h = c.loop-number.invariant in
    let items = c.in_ok-push.ensures.items in
    record {
      long = ap length items ∙ (length_push c.loop-number.keys.items _ ∙ ap (λ n. n + 1) h.long);
      tells = λ n lt. subst (λ xs. IsDart r.table (unpack n) → slice_index_or xs n false ≡ is_key r (unpack n)) (sym items) (push_each c.loop-number.keys.items c.is_key_number.result false c.loop-number.number (λ k b. IsDart r.table (unpack k) → b ≡ is_key r (unpack k)) h.long h.tells c.is_key_number.ensures n lt);
    }

pub returns : goal.returns
returns c =
    let r = c.args.tree.now in
    let table = c.darts-number-end.ensures.table in
    let h = c.loop-number.invariant in
    record {
      long = h.long ∙ omega (arith, c.loop-number-test.false, c.loop-number.auto.number-end, c.darts-number-end.ensures.value);
      tells = λ d is_dart.
          let own = unpack_pack d (dart_side r table d is_dart) in
          let low = dart_number r table d is_dart in
          h.tells (pack d) (omega (arith, low, c.loop-number-test.false, c.darts-number-end.ensures.value)) (subst (IsDart r.table) (sym own) is_dart) ∙ ap (is_key r) own;
    }
