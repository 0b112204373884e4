-- The tree of accepted rules has names of each length.
use Rattle.std.proofs.Common.{◌≡◌, ℕ, zero, suc, ◌+◌, ◌*◌, ◌<◌, ◌≤◌, ◌⊎◌, inl, inr, List, [], ◌∷◌, ◌++◌, length, refl, sym, ap, ◌∙◌, arith, mul-le-mul_left}
use Rattle.std.proofs.lemmas.Bool.{cases_lt}
use Rattle.std.proofs.lemmas.List.{length_push}
use Rattle.tile_model.specs.Tessellations.{TileKind}
use Rattle.tile_model.specs.Validity.{IsValid}
use Rattle.tree_model.specs.declared.Rule.{Rule}
use Rattle.tree_model.specs.declared.Rule.TheVariants.{Parent, Child, Left, Right}
use Rattle.tree_model.specs.Automata.{TreeAutomaton, rule_at, root_at}
use Rattle.tree_model.specs.Conditions.{IsAccepted}
use Rattle.tree_model.specs.Contours.{Opens}
use Rattle.tree_model.specs.Names.{child_of, IsNameBelow, IsName, state_of}
use Rattle.tree_model.specs.Positions.{Position, IsPosition, mark_of_rule, rule_of, claim_of, mark}
use Rattle.tree_model.proofs.Names.{name_push, name_state}
use Rattle.tree_model.proofs.Positions.{make_position, some_sides}
use Rattle.tree_laws.specs.Ranks.{corner_count, derived_rank, greatest}
use Rattle.tree_laws.proofs.Ranks.{greatest_at}
use Rattle.tree_laws.proofs.Ends.{closed}
use Rattle.tree_laws.proofs.TreePlane.{tree_land, plane, corner_known}
use Rattle.endless_laws.proofs.Outwards.{heavy}

-- of a great weight much is due to the depth
depth_most : (count depth rank most n : ℕ) → 1 ≤ count → rank ≤ most → count * n + most ≤ count * depth + rank → n ≤ depth
depth_most count depth rank most n some small great = go (cases_lt depth n)
  where
    go : (depth < n) ⊎ (n ≤ depth) → n ≤ depth
    go (inr l) = l
    go (inl l) =
        let le : suc depth ≤ n = omega (arith, l) in
        let m : count * suc depth ≤ count * n = mul-le-mul_left count le in
        let u : count * suc depth ≡ count * depth + count = omega arith in
        absurd (omega (arith, m, u, some, small, great))

module _ (kinds : List TileKind) (a : TreeAutomaton) where
  -- a name that is cut is one
  cut_name : (s : ℕ) (name : List ℕ) (n : ℕ) → IsNameBelow kinds a s name → n ≤ length name → (short : List ℕ) × IsNameBelow kinds a s short × (length short ≡ n)
  cut_name s name zero h l = ([], tt, refl)
  cut_name s [] (suc n) h l = absurd (omega (arith, l))
  cut_name s (i ∷ name) (suc n) h l =
      let (short, g, e) = cut_name (child_of (rule_at a s i)) name n h.2 (omega (arith, l)) in
      (i ∷ short, (h.0, h.1, g), ap (λ m. suc m) e)

module _ (kinds : List TileKind) (a : TreeAutomaton) (k : ℕ) (valid : IsValid kinds) (ok : IsAccepted kinds a) (known : k < length kinds) where
  abbrev There : Position → Type 0
  There = IsPosition kinds a k

  abbrev HasName : ℕ → Type 0
  HasName n = (name : List ℕ) × IsName kinds a k name × (length name ≡ n)

  abbrev HasOpening : Type 0
  HasOpening = (x : Position) × There x × (mark kinds a k x ≡ Opens)

  -- where a side opens, outer ones are as deep as one likes
  from_opening : HasOpening → (n : ℕ) → HasName n
  from_opening (x, h, o) n =
      let most = greatest (corner_count a) (derived_rank a) in
      let r = heavy Position There (tree_land kinds a k) (plane kinds a k valid ok known) x h o (corner_count a * n + most) in
      let g = (claim_of kinds a k r.side).corner in
      let small = greatest_at (corner_count a) (derived_rank a) g (corner_known kinds a k valid ok known r.side r.there) in
      let deep = depth_most (corner_count a) (length r.side.name) (derived_rank a g) most n ok.c1.limits.corners.0 small r.weighs_much in
      cut_name kinds a (root_at a k) r.side.name n r.there.name deep

  -- a name goes on by side 1, or this side leads to one that opens
  goes_on : (n : ℕ) → HasName n → HasName (suc n) ⊎ HasOpening
  goes_on n (name, h, e) = go (rule_of kinds a k p) refl
    where
      p : Position
      p = make_position name 1

      s : state_of a k name < length a.states
      s = name_state kinds a ok.c1 (root_at a k) name (ok.c1.root k known) h

      there : There p
      there = record { name = h; side = omega (arith, some_sides kinds a k valid ok known (state_of a k name) s) }

      go : (r : Rule) → rule_of kinds a k p ≡ r → HasName (suc n) ⊎ HasOpening
      go Parent f = absurd (omega (arith, ((ok.c2 (state_of a k name) 1 s there.side).parent.0 f).0))
      go (Child c) f =
          let child = f ∙ ap Child (sym (ap child_of f)) in
          inl (name ++ 1 ∷ [], name_push kinds a (root_at a k) name 1 h there.side child, omega (arith, length_push name 1, e))
      go Left f = inr (p, there, ap mark_of_rule f)
      go Right f =
          let (x, hx, m) = closed Position There (tree_land kinds a k) (plane kinds a k valid ok known) p there (ap mark_of_rule f) in
          inr (x, hx, m.opens)

  pub names_go_on : (n : ℕ) → HasName n
  names_go_on zero = ([], tt, refl)
  names_go_on (suc n) = go (goes_on n (names_go_on n))
    where
      go : HasName (suc n) ⊎ HasOpening → HasName (suc n)
      go (inl name) = name
      go (inr opening) = from_opening opening (suc n)
