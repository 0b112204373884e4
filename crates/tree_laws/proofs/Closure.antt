-- In the tree of accepted rules exactly one position lies across each position, it lies across in turn, their types are partners, and
-- going round a corner leads back.
use Rattle.std.proofs.Common.{◌≡◌, ℕ, ◌<◌, List, [], ◌∷◌, length, refl, sym, ap, subst}
use Rattle.tile_model.specs.declared.Letter.TheVariants.{L, X}
use Rattle.tile_model.specs.Tessellations.{TileKind, left, cross, valence}
use Rattle.tile_model.specs.Validity.{IsValid}
use Rattle.tile_model.specs.Walks.{times}
use Rattle.tree_model.specs.declared.Rule.TheVariants.{Left, Right}
use Rattle.tree_model.specs.Automata.{TreeAutomaton}
use Rattle.tree_model.specs.Conditions.{IsAccepted}
use Rattle.tree_model.specs.Positions.{Position, IsPosition, mark_of_rule, rule_of, claim_of, type_of_side, MatchesLeftwards, LiesAcross, Leads}
use Rattle.tree_model.specs.Positions as positions
use Rattle.tree_laws.proofs.Across.{Lies, in_tree, leftwards, rightwards, Round, at_end, turns, some, one, back, there_across, one_close, one_open, round}
use Rattle.tree_laws.proofs.Ends.{opened, closed, there_match}
use Rattle.tree_laws.proofs.Types.{across_type}
use Rattle.tree_laws.proofs.TreePlane.{tree_land, plane, typed, valence_is}

module _ (kinds : List TileKind) (a : TreeAutomaton) (k : ℕ) where
  abbrev There : Position → Type 0
  There = IsPosition kinds a k

  abbrev X' : Position → Position → Type 0
  X' = Lies Position There (tree_land kinds a k)

  pub lies : {p q : Position} → LiesAcross kinds a k p q → X' p q
  lies (positions.in_tree t e) = in_tree t e
  lies (positions.from_left m) = leftwards m
  lies (positions.from_right h m) = rightwards h m

  pub lies_across : {p q : Position} → X' p q → LiesAcross kinds a k p q
  lies_across (in_tree t e) = positions.in_tree t e
  lies_across (leftwards m) = positions.from_left m
  lies_across (rightwards h m) = positions.from_right h m

  leads_round : {n : ℕ} {p q : Position} → Round Position There (tree_land kinds a k) n p q → Leads kinds a k p (times n (L ∷ X ∷ [])) q
  leads_round {n} {p} {q} (at_end z e) = subst (λ i. Leads kinds a k p (times i (L ∷ X ∷ [])) q) (sym z) e
  leads_round {n} {p} {q} (turns i m z x r) = subst (λ j. Leads kinds a k p (times j (L ∷ X ∷ [])) q) (sym z) (positions.turn_left kinds a k p, refl, (m, lies_across x, leads_round r))

module _ (kinds : List TileKind) (a : TreeAutomaton) (k : ℕ) (valid : IsValid kinds) (ok : IsAccepted kinds a) (known : k < length kinds) where
  -- each Left side is matched with exactly one Right side
  pub left_matched : (x : Position) → IsPosition kinds a k x → rule_of kinds a k x ≡ Left → (y : Position) × IsPosition kinds a k y × MatchesLeftwards kinds a k x y
  left_matched x h e =
      let pl = plane kinds a k valid ok known in
      let (y, m) = opened Position (IsPosition kinds a k) (tree_land kinds a k) pl x h (ap mark_of_rule e) in
      (y, there_match Position (IsPosition kinds a k) (tree_land kinds a k) pl h m, m)

  pub one_right : (x y z : Position) → MatchesLeftwards kinds a k x y → MatchesLeftwards kinds a k x z → y ≡ z
  one_right x y z m n = one_close Position (IsPosition kinds a k) (tree_land kinds a k) (plane kinds a k valid ok known) m n

  -- each Right side is matched with exactly one Left side
  pub right_matched : (y : Position) → IsPosition kinds a k y → rule_of kinds a k y ≡ Right → (x : Position) × IsPosition kinds a k x × MatchesLeftwards kinds a k x y
  right_matched y h e = closed Position (IsPosition kinds a k) (tree_land kinds a k) (plane kinds a k valid ok known) y h (ap mark_of_rule e)

  pub one_left : (x z y : Position) → IsPosition kinds a k x → IsPosition kinds a k z → MatchesLeftwards kinds a k x y → MatchesLeftwards kinds a k z y → x ≡ z
  one_left x z y hx hz m n = one_open Position (IsPosition kinds a k) (tree_land kinds a k) (plane kinds a k valid ok known) hx hz m n

  -- exactly one position lies across
  pub across : (p : Position) → IsPosition kinds a k p → (q : Position) × IsPosition kinds a k q × LiesAcross kinds a k p q
  across p h =
      let (q, hq, x) = some Position (IsPosition kinds a k) (tree_land kinds a k) (plane kinds a k valid ok known) p h in
      (q, hq, lies_across kinds a k x)

  pub across_same : (p q r : Position) → LiesAcross kinds a k p q → LiesAcross kinds a k p r → q ≡ r
  across_same p q r x y = one Position (IsPosition kinds a k) (tree_land kinds a k) (plane kinds a k valid ok known) (lies kinds a k x) (lies kinds a k y)

  pub across_position : (p q : Position) → IsPosition kinds a k p → LiesAcross kinds a k p q → IsPosition kinds a k q
  across_position p q h x = there_across Position (IsPosition kinds a k) (tree_land kinds a k) (plane kinds a k valid ok known) h (lies kinds a k x)

  -- across is its own inverse
  pub across_back : (p q : Position) → IsPosition kinds a k p → LiesAcross kinds a k p q → LiesAcross kinds a k q p
  across_back p q h x = lies_across kinds a k (back Position (IsPosition kinds a k) (tree_land kinds a k) (plane kinds a k valid ok known) h (lies kinds a k x))

  -- the types of the two are partners
  pub across_types : (p q : Position) → IsPosition kinds a k p → LiesAcross kinds a k p q → type_of_side kinds a k q ≡ cross kinds (type_of_side kinds a k p)
  across_types p q h x =
      across_type Position (IsPosition kinds a k) (tree_land kinds a k) (plane kinds a k valid ok known) (ℕ × ℕ) (left kinds) (cross kinds) (type_of_side kinds a k) (typed kinds a k valid ok known) h (across_position p q h x) (lies kinds a k x)

  -- LX, as often as the valence, leads back
  pub round_corner : (p : Position) → IsPosition kinds a k p → Leads kinds a k p (times (valence kinds (type_of_side kinds a k p)) (L ∷ X ∷ [])) p
  round_corner p h =
      let r = leads_round kinds a k (round Position (IsPosition kinds a k) (tree_land kinds a k) (plane kinds a k valid ok known) p h) in
      subst (λ n. Leads kinds a k p (times n (L ∷ X ∷ [])) p) (valence_is kinds a k valid ok known p h) r
