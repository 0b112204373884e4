-- The way round a corner.
use Rattle.std.proofs.Common.{◌≡◌, ℕ, ◌+◌, ◌<◌, ◌≤◌, List, [], ◌∷◌, ◌++◌, Option, Some, None, IfSome, IfNone, ℤ, pos, ◌-ℤ◌, refl, sym, ap, ◌∙◌, subst, arith, add-one}
use Rattle.std.specs.Option.{option_map, option_and_then}
use Rattle.region_grower.specs.Regions.{RegionState}
use Rattle.region_grower.specs.Corners.{further, rounds, valence_at}
use Rattle.look_classes.specs.Tree.{distance}
use Rattle.look_classes.specs.Looks.{each_below, distances_from}
use Rattle.state_candidates.specs.declared.darts.Stop.{Stop}
use Rattle.state_candidates.specs.Stops.{IsStop, IsNextStop, IsOnWay, offset_at}
use Rattle.state_candidates.proofs.Each.{each_none, each_more, each_missing}

pub way_start : (r : RegionState) (b : ℕ × ℕ) (near : ℕ) → IsStop r b near → IsOnWay r b near 0 [] (Some (record { dart = b; distance = near }))
way_start r b near stop = record {
  base = stop;
  all = each_none (offset_at r b);
  come = refl;
  stop = stop;
  more = omega arith;
  less = omega arith;
}

-- what stands for the next stop, or for none
abbrev pub IsNext : RegionState → Stop → Option Stop → Type 0
IsNext r s None = further r.table s.dart ≡ None
IsNext r s (Some x) = IsNextStop r s.dart s.distance x.dart x.distance

pub way_more : (r : RegionState) (b : ℕ × ℕ) (near j : ℕ) (offsets : List ℤ) (s : Stop) (z : ℤ) (o : Option Stop)
    → IsOnWay r b near j offsets (Some s) → z ≡ pos s.distance -ℤ pos near → IsNext r s o
    → IsOnWay r b near (j + 1) (offsets ++ z ∷ []) o
way_more r b near j offsets s z o way is next = record {
  base = way.base;
  all = each_more (offset_at r b) j offsets z way.all here;
  come = subst (λ k. rounds k r.table b ≡ option_map (λ (x : Stop). x.dart) o) (sym (add-one j)) (ap (option_and_then (further r.table)) way.come ∙ come o next);
  stop = stop o next;
  more = more o next;
  less = less o next;
}
  where
    here : offset_at r b j ≡ Some z
    here =
        let from : offset_at r b j ≡ Some (pos (distance r s.dart.0) -ℤ pos (distance r b.0)) = ap (option_map (λ (e : ℕ × ℕ). pos (distance r e.0) -ℤ pos (distance r b.0))) way.come in
        let same : pos (distance r s.dart.0) -ℤ pos (distance r b.0) ≡ z = ap (λ n. pos n -ℤ pos (distance r b.0)) (sym way.stop.value) ∙ (ap (λ n. pos s.distance -ℤ pos n) (sym way.base.value) ∙ sym is) in
        from ∙ ap Some same

    come : (o : Option Stop) → IsNext r s o → further r.table s.dart ≡ option_map (λ (x : Stop). x.dart) o
    come None next = next
    come (Some x) next = next.joined

    stop : (o : Option Stop) → IsNext r s o → IfSome o (λ x. IsStop r x.dart x.distance)
    stop None next = tt
    stop (Some x) next = next.stop

    more : (o : Option Stop) → IsNext r s o → IfSome o (λ x. x.distance ≤ near + (j + 1))
    more None next = tt
    more (Some x) next = omega (arith, next.more, way.more)

    less : (o : Option Stop) → IsNext r s o → IfSome o (λ x. near ≤ x.distance + (j + 1))
    less None next = tt
    less (Some x) next = omega (arith, next.less, way.less)

pub way_out : (r : RegionState) (b : ℕ × ℕ) (near j : ℕ) (offsets : List ℤ) → IsOnWay r b near j offsets None → j < valence_at r.table b → distances_from r b ≡ None
unfolding distances_from
way_out r b near j offsets way below = each_missing (offset_at r b) (valence_at r.table b) j below (ap (option_map (λ (e : ℕ × ℕ). pos (distance r e.0) -ℤ pos (distance r b.0))) way.come)

pub way_done : (r : RegionState) (b : ℕ × ℕ) (near j : ℕ) (offsets : List ℤ) (at : Option Stop) → IsOnWay r b near j offsets at → j ≡ valence_at r.table b → distances_from r b ≡ Some offsets
unfolding distances_from
way_done r b near j offsets at way all = ap (λ n. each_below n (offset_at r b)) (sym all) ∙ way.all

pub next_of : (r : RegionState) (s : Stop) (o : Option Stop) → IfSome o (λ x. IsNextStop r s.dart s.distance x.dart x.distance) → IfNone o (further r.table s.dart ≡ None) → IsNext r s o
next_of r s None some none = none
next_of r s (Some x) some none = some
