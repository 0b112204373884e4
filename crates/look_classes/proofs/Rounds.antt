-- Going back round a corner, and what has no place.
use Rattle.std.proofs.Common.{◌≡◌, ℕ, zero, suc, ◌+◌, true, false, cond, Option, Some, None, refl, ap, ◌∙◌, arith}
use Rattle.std.specs.Option.{option_map, option_and_then}
use Rattle.coincidence.specs.Cells.{IsLive}
use Rattle.coincidence.specs.Tables.{joined_to}
use Rattle.coincidence.specs.Joined.{IsTable}
use Rattle.region_grower.specs.Regions.{RegionState}
use Rattle.look_classes.specs.Tree.{right_of}
use Rattle.look_classes.specs.Places.{is_key, back, placed_within}
use Rattle.look_classes.proofs.Darts.{dead_unjoined}
use Rattle.look_classes.proofs.Steps.{key_none}

abbrev pub on : ℕ → ℕ × (ℕ × ℕ) → ℕ × (ℕ × ℕ)
on t b = (t + b.0, b.1)

pub within_key : (r : RegionState) (n : ℕ) (d : ℕ × ℕ) → is_key r d ≡ true → placed_within (suc n) r d ≡ Some (0, d)
unfolding placed_within
within_key r n d e = ap (λ b. cond b (Some (0, d)) (option_map (λ (b : ℕ × (ℕ × ℕ)). (suc b.0, b.1)) (option_and_then (placed_within n r) (back r d)))) e

pub within_next : (r : RegionState) (n : ℕ) (d e : ℕ × ℕ) → is_key r d ≡ false → joined_to r.table d ≡ Some e → placed_within (suc n) r d ≡ option_map (λ (b : ℕ × (ℕ × ℕ)). (suc b.0, b.1)) (placed_within n r (right_of r e))
unfolding placed_within
within_next r n d e off joined = ap (λ b. cond b (Some (0, d)) (option_map (λ (b : ℕ × (ℕ × ℕ)). (suc b.0, b.1)) (option_and_then (placed_within n r) (back r d)))) off ∙ ap (λ o. option_map (λ (b : ℕ × (ℕ × ℕ)). (suc b.0, b.1)) (option_and_then (placed_within n r) (option_map (right_of r) o))) joined

pub within_end : (r : RegionState) (n : ℕ) (d : ℕ × ℕ) → is_key r d ≡ false → joined_to r.table d ≡ None → placed_within n r d ≡ None
unfolding placed_within
within_end r zero d off none = refl
within_end r (suc n) d off none = ap (λ b. cond b (Some (0, d)) (option_map (λ (b : ℕ × (ℕ × ℕ)). (suc b.0, b.1)) (option_and_then (placed_within n r) (back r d)))) off ∙ ap (λ o. option_map (λ (b : ℕ × (ℕ × ℕ)). (suc b.0, b.1)) (option_and_then (placed_within n r) (option_map (right_of r) o))) none

pub within_none : (r : RegionState) (d : ℕ × ℕ) → placed_within 0 r d ≡ None
unfolding placed_within
within_none r d = refl

-- one more tile back
pub on_next : (t : ℕ) (o : Option (ℕ × (ℕ × ℕ))) → option_map (on t) (option_map (λ (b : ℕ × (ℕ × ℕ)). (suc b.0, b.1)) o) ≡ option_map (on (t + 1)) o
on_next t None = refl
on_next t (Some b) = ap (λ n. Some (n, b.1)) (omega arith)

pub on_none : (o : Option (ℕ × (ℕ × ℕ))) → option_map (on 0) o ≡ o
on_none None = refl
on_none (Some b) = ap (λ n. Some (n, b.1)) (omega arith)

pub placed_dead : (r : RegionState) (table : IsTable r.table) (n : ℕ) (d : ℕ × ℕ) → (IsLive r.table.cells d.0 → ⊥) → placed_within n r d ≡ None
placed_dead r table n d dead = let none = dead_unjoined r table d dead in within_end r n d (key_none r d none) none
