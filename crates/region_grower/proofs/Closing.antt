-- A corner that is found closed, or is closed.
use Rattle.std.proofs.Common.{◌≡◌, ℕ, zero, suc, ◌+◌, ◌-◌, ◌<◌, ◌≤◌, true, length, Option, Some, None, option_and_then, sym, ap, ◌∙◌, arith, mod-lt}
use Rattle.std.proofs.Common.{inl, inr}
use Rattle.std.proofs.lemmas.Bool.{cases_eq}
use Rattle.tile_model.specs.Tessellations.{kind_at, IsType}
use Rattle.coincidence.specs.Cells.{turn_at, IsLive, name}
use Rattle.coincidence.specs.Atlases.{LieAcross}
use Rattle.coincidence.specs.Tables.{JoinTable, joined_to, type_at, atlas, kind_of}
use Rattle.coincidence.specs.Joined.{IsTable, HasRenamed}
use Rattle.region_grower.specs.Ways.{IsDart}
use Rattle.region_grower.specs.Corners.{left_of, further, rounds, valence_at, IsClosed}
use Rattle.region_grower.specs.Passes.{HasPassed}
use Rattle.region_grower.proofs.Ways.{dart_name}
use Rattle.region_grower.proofs.Rounds.{round_across}
use Rattle.region_grower.proofs.Left.{divides_le, closed_on, unfinished_lt}

-- where a join is missing, none is found farther on
pub rounds_stuck : (t : JoinTable) (d : ℕ × ℕ) (m n : ℕ) → m ≤ n → rounds m t d ≡ None → rounds n t d ≡ None
rounds_stuck t d m zero le none = let e : m ≡ 0 = omega (arith, le) in ap (λ k. rounds k t d) (sym e) ∙ none
rounds_stuck t d m (suc n) le none = elim (cases_eq m (suc n)) [
  | inl e ↦ ap (λ k. rounds k t d) (sym e) ∙ none
  | inr other ↦ ap (option_and_then (further t)) (rounds_stuck t d m n (omega (arith, le, other)) none)
]

module _ (t : JoinTable) (table : IsTable t) (d : ℕ × ℕ) (is_dart : IsDart t d) where
  pub dart_made : d.0 < length t.origins
  dart_made = table.live_made d.0 is_dart.live

  pub dart_side : d.1 < 64
  dart_side =
      let kind = table.kinds_there d.0 dart_made in
      let wide = table.valid.sides (kind_of t.origins d.0) kind in
      let three = wide.0 in
      let short = divides_le (kind_at t.kinds (kind_of t.origins d.0)).sides (turn_at t.cells d.0) (omega (arith, three)) (table.turns d.0 is_dart.live) in
      let below = is_dart.below in
      omega (arith, below, short, wide.1)

  pub dart_type : IsType t.kinds (type_at t d)
  dart_type = let kind = table.kinds_there d.0 dart_made in let some = (table.valid.repeat (kind_of t.origins d.0) kind).positive in (kind, mod-lt d.1 (omega (arith, some)))

  pub some_valence : suc (valence_at t d - 1) ≡ valence_at t d
  some_valence = let wide = (table.valid.valence (type_at t d) dart_type).0 in omega (arith, wide)

  pub closed_none : rounds (valence_at t d - 1) t d ≡ None → IsClosed t d
  closed_none none e come = absurd (cc (none, come))

  pub closed_back : (last : ℕ × ℕ) → rounds (valence_at t d - 1) t d ≡ Some last → joined_to t (left_of last) ≡ Some d → IsClosed t d
  closed_back last is back e come =
      let same : last ≡ e = cc (is, come) in
      ap (further t) (sym same) ∙ (back ∙ ap Some (sym (dart_name t table d is_dart)))

  pub last_across : (last : ℕ × ℕ) → rounds (valence_at t d - 1) t d ≡ Some last → LieAcross (atlas t) (left_of last) d
  last_across last is = round_across t table (valence_at t d - 1) d last dart_made some_valence is

  pub passed_joined : {D : JoinTable → Type 0} (t' : JoinTable) (over : ℕ × ℕ) → IsTable t' → HasRenamed t t' → IsLive t.cells over.0 → ¬ (joined_to t over ≡ Some d) → joined_to t' (name t'.cells over) ≡ Some (name t'.cells d) → HasPassed t t' true D
  passed_joined t' over table' renamed live not_yet joined = record {
    table = table';
    moved = closed_on t t' table table' renamed;
    falls = λ e. unfinished_lt t t' table table' renamed over d live is_dart not_yet joined;
    unchanged = λ e. absurd (cc (e));
    done = λ e. absurd (cc (e));
  }

-- one time more
pub rounds_more : (t : JoinTable) (d a : ℕ × ℕ) (n : ℕ) (o : Option (ℕ × ℕ)) → rounds n t d ≡ Some a → o ≡ joined_to t (left_of a) → o ≡ rounds (n + 1) t d
rounds_more t d a n o is over =
    let next : n + 1 ≡ suc n = omega arith in
    over ∙ (sym (ap (option_and_then (further t)) is) ∙ ap (λ m. rounds m t d) (sym next))
