-- The walk along the contour, from each side outside the tree, stops at the side that lies across, and its counter fits a machine number.
use Rattle.std.proofs.Common.{◌≡◌, ℕ, suc, ◌^◌, ◌<◌, Bool, true, false, List, length, refl, arith, pos, ◌≤ℤ◌}
use Rattle.std.proofs.lemmas.Int.{ints}
use Rattle.std.proofs.lemmas.Nat.{mul-le}
use Rattle.tile_model.specs.Tessellations.{TileKind}
use Rattle.tile_model.specs.Validity.{IsValid}
use Rattle.tree_model.specs.Automata.{TreeAutomaton, outer}
use Rattle.tree_model.specs.OuterLinks.{entered}
use Rattle.tree_laws.specs.Ranks.{corner_count}
use Rattle.tree_laws.proofs.RankSizes.{rank_small}
use Rattle.tree_model.specs.Conditions.{IsAccepted}
use Rattle.tree_model.specs.Contours.{Mark, Tree, Opens, Closes, mirrored}
use Rattle.tree_model.specs.Positions.{Position, IsPosition, mark, turn_right, from_left, from_right}
use Rattle.tree_model.proofs.Positions.{right_position}
use Rattle.tree_laws.specs.Directions.{mark_towards, inner_corner, most_open, Arrives}
use Rattle.tree_laws.proofs.Ends.{opened, closed, there_match}
use Rattle.tree_laws.proofs.Bounds.{forwards, backwards}
use Rattle.tree_laws.proofs.TreePlane.{tree_land, plane, corner_known}

closes_back : (m : Mark) → mirrored m ≡ Opens → m ≡ Closes
closes_back Tree e = absurd (cc)
closes_back Opens e = absurd (cc)
closes_back Closes e = refl

module _ (kinds : List TileKind) (a : TreeAutomaton) (k : ℕ) (valid : IsValid kinds) (ok : IsAccepted kinds a) (known : k < length kinds) where
  -- from a side that opens a bracket in the direction of the walk
  pub arrives : (d : Bool) (p : Position) → IsPosition kinds a k p → mark_towards kinds a k d p ≡ Opens → (q : Position) × Arrives kinds a k d p q
  arrives true x h o =
      let pl = plane kinds a k valid ok known in
      let (y, m) = opened Position (IsPosition kinds a k) (tree_land kinds a k) pl x h o in
      let r = forwards Position (IsPosition kinds a k) (tree_land kinds a k) pl h m in
      (y, record { position = there_match Position (IsPosition kinds a k) (tree_land kinds a k) pl h m; across = from_left m; moves = r.moves; few = r.few; runs = r.halts })
  arrives false y h o =
      let pl = plane kinds a k valid ok known in
      let (x, hx, m) = closed Position (IsPosition kinds a k) (tree_land kinds a k) pl y h (closes_back (mark kinds a k y) o) in
      let r = backwards Position (IsPosition kinds a k) (tree_land kinds a k) pl hx m in
      (x, record { position = hx; across = from_right hx m; moves = r.moves; few = r.few; runs = r.halts })

  -- the corner at the inner end is a corner type
  pub inner_known : (d : Bool) (p : Position) → IsPosition kinds a k p → inner_corner kinds a k d p < length a.corners
  inner_known true p h = corner_known kinds a k valid ok known p h
  inner_known false p h = corner_known kinds a k valid ok known (turn_right kinds a k p) (right_position kinds a k p h)

module _ (kinds : List TileKind) (a : TreeAutomaton) (k : ℕ) (ok : IsAccepted kinds a) where
  entered_low : (g : ℕ) → g < length a.corners → entered a g ≤ℤ pos 64
  entered_low g l =
      let o = ok.c1.outer g l in
      let s = (ok.c1.offsets (outer a g).corner o.0).small (outer a g).place (omega (arith, o.1)) in
      omega (arith, ints, s)

  -- The counter fits, where the name is that of a tile below a name in memory.
  pub most_open_fits : (d : Bool) (p : Position) → length p.name < 2 ^ 65 → most_open kinds a k d p < 2 ^ 127
  most_open_fits d p deep =
      let small = rank_small a ok.c1.limits.corners.1 (λ g l. (ok.c1.outer g l).0) entered_low (inner_corner kinds a k d p) in
      let m = mul-le (corner_count a) (suc (length p.name)) 20000 (2 ^ 65) ok.c1.limits.corners.1 deep in
      omega (arith, m, small)
