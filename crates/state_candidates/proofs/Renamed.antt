-- Of a renamed cell nothing is read.
use Rattle.std.proofs.Common.{◌≡◌, ℕ, zero, suc, ◌+◌, ◌%◌, ◌<◌, ◌==◌, false, not, ◌&&◌, ◌*◌, List, length, Some, None, refl, ap, ap₂, ◌∙◌, if◌then◌else◌}
use Rattle.std.proofs.Math.Bool.{and-false}
use Rattle.tree_model.specs.declared.Rule.{Rule}
use Rattle.tree_model.specs.declared.Claim.{Claim}
use Rattle.tree_model.specs.Automata.{TreeState}
use Rattle.std.specs.Option.{option_map, option_and_then}
use Rattle.coincidence.specs.Darts.{pack, slot_at}
use Rattle.coincidence.specs.Cells.{turn_at}
use Rattle.coincidence.specs.Tables.{JoinTable, joined_to, dart_in, kind_of, type_at}
use Rattle.region_grower.specs.Regions.{RegionState}
use Rattle.region_grower.specs.Corners.{valence_at}
use Rattle.look_classes.specs.Tree.{holds, in_tree, right_of, sides_of, counted}
use Rattle.look_classes.specs.Places.{is_key, comes_to, placed_within, back}
use Rattle.look_classes.specs.Looks.{both, CornerLook, look_from}
use Rattle.look_classes.specs.Classes.{ClassLists}
use Rattle.state_candidates.specs.Reading.{corner_number, claim_of, claims_of, claim_at_side, rules_of, state_of, corner_of}
use Rattle.state_candidates.proofs.Each.{both_none, each_missing}

not_joined : (t : JoinTable) (d : ℕ × ℕ) → turn_at t.cells d.0 ≡ 0 → joined_to t d ≡ None
not_joined t d gone = ap (λ n. if n == 0 then None else dart_in (slot_at t.slots (pack (d.0, d.1 % turn_at t.cells d.0)))) gone

no_key : (r : RegionState) (d : ℕ × ℕ) → turn_at r.table.cells d.0 ≡ 0 → is_key r d ≡ false
unfolding is_key
no_key r d gone = ap (λ o. not (in_tree r d) && holds (comes_to (64 * length r.table.origins) r d) o) (not_joined r.table d gone) ∙ and-false (not (in_tree r d))

not_placed : (n : ℕ) (r : RegionState) (d : ℕ × ℕ) → turn_at r.table.cells d.0 ≡ 0 → placed_within n r d ≡ None
unfolding placed_within
not_placed zero r d gone = refl
not_placed (suc n) r d gone =
    let none : option_map (λ (b : ℕ × (ℕ × ℕ)). (suc b.0, b.1)) (option_and_then (placed_within n r) (back r d)) ≡ None = ap (λ o. option_map (λ (b : ℕ × (ℕ × ℕ)). (suc b.0, b.1)) (option_and_then (placed_within n r) (option_map (right_of r) o))) (not_joined r.table d gone) in
    ap (λ k. if k then Some (0, d) else option_map (λ (b : ℕ × (ℕ × ℕ)). (suc b.0, b.1)) (option_and_then (placed_within n r) (back r d))) (no_key r d gone) ∙ none

-- a state needs rules and claims
abbrev pub made_state : RegionState → ℕ → List Rule → List Claim → TreeState
made_state r c rules claims = record {
  kind = kind_of r.table.origins c;
  off = (type_at r.table (counted r c 0)).1;
  rules = rules;
  claims = claims;
}

pub state_without_rules : (r : RegionState) (x : ClassLists) (s g c : ℕ) → rules_of r x s c ≡ None → state_of r x s g c ≡ None
unfolding state_of
state_without_rules r x s g c none = ap (λ o. both (made_state r c) o (claims_of r x g c)) none

pub state_without_claims : (r : RegionState) (x : ClassLists) (s g c : ℕ) → claims_of r x g c ≡ None → state_of r x s g c ≡ None
unfolding state_of
state_without_claims r x s g c none = ap (both (made_state r c) (rules_of r x s c)) none ∙ both_none (made_state r c) (rules_of r x s c)

pub state_with : (r : RegionState) (x : ClassLists) (s g c : ℕ) (rules : List Rule) (claims : List Claim) → rules_of r x s c ≡ Some rules → claims_of r x g c ≡ Some claims → state_of r x s g c ≡ Some (made_state r c rules claims)
unfolding state_of
state_with r x s g c rules claims some all = ap₂ (both (made_state r c)) some all

pub no_state : (r : RegionState) (x : ClassLists) (s g c : ℕ) → turn_at r.table.cells c ≡ 0 → 0 < sides_of r c → state_of r x s g c ≡ None
unfolding state_of claims_of claim_of
no_state r x s g c gone some =
    let d = counted r c 0 in
    let none : claim_of r x g d ≡ None = ap (λ o. both (λ m p. record { corner = g + m; place = p }) (corner_number r x d) (option_map (λ b. b.0) o)) (not_placed (valence_at r.table d) r d gone) ∙ both_none (λ m p. record { corner = g + m; place = p }) (corner_number r x d) in
    let missing : claims_of r x g c ≡ None = each_missing (claim_at_side r x g c) (sides_of r c) 0 some none in
    state_without_claims r x s g c missing

pub no_corner_type : (r : RegionState) (x : ClassLists) (g : ℕ) (d : ℕ × ℕ) → turn_at r.table.cells d.0 ≡ 0 → corner_of r x g d ≡ None
unfolding corner_of
no_corner_type r x g d gone = ap (λ o. both (λ (look : CornerLook) (outer : Claim). (look.distances, outer)) (option_and_then (λ (b : ℕ × (ℕ × ℕ)). look_from r b.1) o) (option_and_then (claim_of r x g) (option_map (λ (b : ℕ × (ℕ × ℕ)). right_of r b.1) o))) (not_placed (valence_at r.table d) r d gone)
