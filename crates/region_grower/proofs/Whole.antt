-- Whole corners: they are closed, their darts are joined, and they stay whole.
use Rattle.std.proofs.Common.{◌≡◌, ℕ, zero, suc, ◌+◌, ◌-◌, ◌<◌, length, Some, option_and_then, sym, ap, ◌∙◌, subst, inl, inr, arith}
use Rattle.std.proofs.lemmas.Bool.{cases_eq}
use Rattle.coincidence.specs.Cells.{turn_at, name}
use Rattle.coincidence.specs.Tables.{JoinTable, joined_to}
use Rattle.coincidence.specs.Joined.{IsTable}
use Rattle.region_grower.specs.Ways.{IsDart, IsJoined}
use Rattle.region_grower.specs.Corners.{left_of, further, rounds, valence_at, IsClosed, IsWhole}
use Rattle.region_grower.specs.Growth.{HasGrown, AreWhole}
use Rattle.region_grower.proofs.Ways.{dart_name, named_dart}
use Rattle.region_grower.proofs.Left.{divides_le, unnamed}
use Rattle.region_grower.proofs.Rounds.{rounds_before}
use Rattle.region_grower.proofs.Closing.{some_valence}
use Rattle.region_grower.proofs.Steps.{grown_longer, grown_valence}

module _ (t : JoinTable) (table : IsTable t) (d : ℕ × ℕ) (is_dart : IsDart t d) (whole : IsWhole t d) where
  abbrev before : ℕ
  before = valence_at t d - 1

  -- the last step leads back
  last : rounds (suc before) t d ≡ Some (name t.cells d)
  last = ap (λ m. rounds m t d) (some_valence t table d is_dart) ∙ whole

  pub whole_closed : IsClosed t d
  whole_closed e come = sym (ap (option_and_then (further t)) come) ∙ last

  pub whole_joined : IsJoined t d
  whole_joined =
      let h = rounds_before t table before d (name t.cells d) last in
      let back = table.back (left_of h.0) (name t.cells d) h.2 in
      record { over = name t.cells (left_of h.0); joined = ap (joined_to t) (sym (dart_name t table d is_dart)) ∙ back }

module _ (t t' : JoinTable) (table : IsTable t) (table' : IsTable t') (grown : HasGrown t t') where
  -- LX so often leads to what the dart is now
  rounds_grown : (n : ℕ) (d e : ℕ × ℕ) → rounds n t d ≡ Some e → rounds n t' (name t'.cells d) ≡ Some (name t'.cells e)
  rounds_grown zero d e come = let same : d ≡ e = cc (come) in ap (λ x. Some (name t'.cells x)) same
  rounds_grown (suc n) d e come =
      let h = rounds_before t table n d e come in
      let f = h.0 in
      let next = left_of (name t'.cells f) in
      let live = (named_dart t' table' f).live in
      let beside : name t'.cells (left_of f) ≡ name t'.cells next = table'.beside f.0 f.1 in
      let step : joined_to t' next ≡ Some (name t'.cells e) = sym (unnamed t' table' next live) ∙ (ap (joined_to t') (sym beside) ∙ grown.kept (left_of f) e h.2) in
      ap (option_and_then (further t')) (rounds_grown n d f h.1) ∙ step

  pub whole_grown : (n : ℕ) → AreWhole t n → AreWhole t' n
  whole_grown n are =
      let longer = grown_longer t t' grown in
      record {
        made = omega (arith, are.made, longer);
        whole = λ d is_dart low.
            let made : d.0 < length t.origins = omega (arith, low, are.made) in
            let fallen = grown.turns d.0 made is_dart.live in
            let less = divides_le (turn_at t.cells d.0) (turn_at t'.cells d.0) fallen.was_live fallen.divides in
            let below = is_dart.below in
            let was : IsDart t d = record { live = fallen.was_live; below = omega (arith, below, less) } in
            let on = rounds_grown (valence_at t d) d (name t.cells d) (are.whole d was low) in
            ap (λ v. rounds v t' d) (grown_valence t t' grown d made) ∙ (ap (rounds (valence_at t d) t') (sym (dart_name t' table' d is_dart)) ∙ (on ∙ ap Some (grown.names d made)));
      }

-- one cell more
pub whole_more : (t : JoinTable) (n : ℕ) → n < length t.origins → AreWhole t n → ((i : ℕ) → IsDart t (n, i) → IsWhole t (n, i)) → AreWhole t (n + 1)
whole_more t n made are here = record {
  made = omega (arith, made);
  whole = λ d is_dart low. elim (cases_eq d.0 n) [
    | inl e ↦ subst (λ c. IsDart t (c, d.1) → IsWhole t (c, d.1)) (sym e) (here d.1) is_dart
    | inr other ↦ are.whole d is_dart (omega (arith, low, other))
  ];
}
