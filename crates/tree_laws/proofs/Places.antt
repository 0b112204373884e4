-- Each walk has one place: two walks have one place exactly where they are related, and places of one name exactly where they are at the
-- same tile.
use Rattle.std.proofs.Common.{◌≡◌, ℕ, suc, ◌+◌, ◌-◌, ◌<◌, ◌≤◌, ◌⊎◌, ◌↔◌, inl, inr, List, ◌++◌, length, replicate, refl, sym, ap, ◌∙◌, subst, arith}
use Rattle.std.proofs.lemmas.Bool.{cases_lt}
use Rattle.tile_model.specs.declared.Letter.{Letter}
use Rattle.tile_model.specs.declared.Letter.TheVariants.{L}
use Rattle.tile_model.specs.Tessellations.{TileKind, sides}
use Rattle.tile_model.specs.Validity.{IsValid}
use Rattle.tile_model.specs.Walks.{type_of}
use Rattle.tile_model.specs.Relation.{AreRelated, AreAtSameTile}
use Rattle.tile_model.proofs.Relations.{related_on, related_back}
use Rattle.tree_model.specs.Automata.{TreeAutomaton, state_at, side_count, type_at}
use Rattle.tree_model.specs.Conditions.{IsAccepted}
use Rattle.tree_model.specs.Names.{state_of}
use Rattle.tree_model.specs.Positions.{Position, IsPosition, root, type_of_side, Leads}
use Rattle.tree_model.specs.Places.{position_word, IsPlace}
use Rattle.tree_model.proofs.Positions.{make_position, same_position}
use Rattle.tree_laws.proofs.Walking.{leads_append, lefts_lead, lefts_over, lefts_stay, sides_of_type, leads_on, leads_same, leads_position, leads_type, related_leads}
use Rattle.tree_laws.proofs.Words.{root_position, root_type, word_leads, leads_word}

module _ (kinds : List TileKind) (a : TreeAutomaton) (k : ℕ) (valid : IsValid kinds) (ok : IsAccepted kinds a) (known : k < length kinds) where
  abbrev Place : List Letter → Position → Type 0
  Place = IsPlace kinds a k

  abbrev Go : Position → List Letter → Position → Type 0
  Go = Leads kinds a k

  at_root : IsPosition kinds a k root
  at_root = root_position kinds a k valid ok known

  from_root : (u w : List Letter) (p : Position) → AreRelated kinds (k, 0) u w → Go root u p → Go root w p
  from_root u w p r f = related_leads kinds a k valid ok known root at_root (subst (λ d. AreRelated kinds d u w) (sym (root_type kinds a k valid ok known)) r) p f

  -- the position that a walk leads to is a place of it
  pub leads_place : (u : List Letter) (p : Position) → Go root u p → Place u p
  leads_place u p f =
      record {
        position = leads_position kinds a k valid ok known u root p at_root f;
        related = related_back kinds (leads_word kinds a k valid ok known u root p at_root f);
      }

  -- and each place of it is that position
  pub place_leads : (u : List Letter) (p : Position) → Place u p → Go root u p
  place_leads u p h = from_root (position_word p) u p h.related (word_leads kinds a k valid ok known p h.position)

  pub one_place : (u : List Letter) → (p : Position) × Place u p × Go root u p
  one_place u =
      let g = leads_on kinds a k valid ok known u root at_root in
      (g.0, leads_place u g.0 g.1, g.1)

  pub place_same : (u : List Letter) (p q : Position) → Place u p → Place u q → p ≡ q
  place_same u p q h g = leads_same kinds a k valid ok known u root p q (place_leads u p h) (place_leads u q g)

  -- one place exactly where related
  pub places_related : (u w : List Letter) (p q : Position) → Place u p → Place w q → (p ≡ q) ↔ AreRelated kinds (k, 0) u w
  places_related u w p q h g = (
    (λ e. related_on kinds (related_back kinds h.related) (subst (λ o. AreRelated kinds (k, 0) (position_word o) w) (sym e) g.related)),
    (λ r. leads_same kinds a k valid ok known w root p q (from_root u w p r (place_leads u p h)) (place_leads w q g)),
  )

  -- turns to the left from one side of a tile to another
  pub turns_to : (m : List ℕ) (i j : ℕ) → i < side_count kinds a (state_of a k m) → j < side_count kinds a (state_of a k m) → (s : ℕ) × (s < side_count kinds a (state_of a k m)) × Go (make_position m i) (replicate s L) (make_position m j)
  turns_to m i j hi hj = go (cases_lt j i)
    where
      go : (j < i) ⊎ (i ≤ j) → (s : ℕ) × (s < side_count kinds a (state_of a k m)) × Go (make_position m i) (replicate s L) (make_position m j)
      go (inr l) =
          let e : i + (j - i) ≡ j = omega arith in
          (j - i, omega arith, subst (λ x. Go (make_position m i) (replicate (j - i) L) (make_position m x)) e (lefts_lead kinds a k (j - i) m i (omega arith)))
      go (inl l) = (side_count kinds a (state_of a k m) - suc i + suc j, omega arith, lefts_over kinds a k m i j hi hj)

  -- the side at a walk's place has the walk's type
  pub place_type : (u : List Letter) (p : Position) → Place u p → type_of_side kinds a k p ≡ type_of kinds (k, 0) u
  place_type u p h =
      let from_there = leads_type kinds a k valid ok known u root p at_root (place_leads u p h) in
      from_there ∙ ap (λ d. type_of kinds d u) (root_type kinds a k valid ok known)

  -- and its state is one of the type's kind
  pub place_kind : (u : List Letter) (p : Position) → Place u p → (state_at a (state_of a k p.name)).kind ≡ (type_of kinds (k, 0) u).0
  unfolding type_at
  place_kind u p h = ap (λ d. d.0) (place_type u p h)

  -- the tile of a place has the sides of its walk's type
  pub place_sides : (u : List Letter) (p : Position) → Place u p → side_count kinds a (state_of a k p.name) ≡ sides kinds (type_of kinds (k, 0) u)
  place_sides u p h = sides_of_type kinds a k p ∙ ap (sides kinds) (place_type u p h)

  -- one name exactly where at the same tile
  pub places_same_tile : (u w : List Letter) (p q : Position) → Place u p → Place w q → (p.name ≡ q.name) ↔ AreAtSameTile kinds (k, 0) u w
  places_same_tile u w p q h g = (
    (λ e.
        let there : q.side < side_count kinds a (state_of a k p.name) = subst (λ m. q.side < side_count kinds a (state_of a k m)) (sym e) g.position.side in
        let s = turns_to p.name p.side q.side h.position.side there in
        let to_q : Go p (replicate s.0 L) q = subst (λ o. Go p (replicate s.0 L) o) (same_position (make_position p.name q.side) q e refl) s.2 in
        let whole = leads_append kinds a k u (replicate s.0 L) root p q (place_leads u p h) to_q in
        let fewer = subst (λ n. s.0 < n) (place_sides u p h) s.1 in
        record { turns = s.0; fewer = fewer; related = (places_related (u ++ replicate s.0 L) w q q (leads_place (u ++ replicate s.0 L) q whole) g).0 refl }),
    (λ r.
        let (m, f) = leads_on kinds a k valid ok known (replicate r.turns L) p h.position in
        let whole = leads_append kinds a k u (replicate r.turns L) root p m (place_leads u p h) f in
        let e = leads_same kinds a k valid ok known w root m q (from_root (u ++ replicate r.turns L) w m r.related whole) (place_leads w q g) in
        sym (lefts_stay kinds a k r.turns p m f) ∙ ap (λ o. o.name) e),
  )
