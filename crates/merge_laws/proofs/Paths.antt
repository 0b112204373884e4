-- Paths that tell states apart, side by side.
use Rattle.std.proofs.Common.{◌≡◌, ◌≢◌, ℕ, ◌<◌, List, [], ◌∷◌, subst}
use Rattle.tile_model.specs.Tessellations.{TileKind}
use Rattle.tree_model.specs.declared.Rule.TheVariants.{Child}
use Rattle.tree_model.specs.Automata.{TreeAutomaton, rule_at, side_count}
use Rattle.tree_model.specs.Names.{child_of}
use Rattle.merge_model.specs.Faces.{face_at}
use Rattle.merge_model.specs.Telling.{AreTold, AreAlike}
use Rattle.merge_laws.proofs.Copies.{face_sides, face_child}

module _ (kinds : List TileKind) (a : TreeAutomaton) where
  -- side i of state s is a Child
  abbrev pub GoesOn : ℕ → ℕ → Type 0
  GoesOn s i = (i < side_count kinds a s) × (rule_at a s i ≡ Child (child_of (rule_at a s i)))

  -- the child at side i
  abbrev pub child_at : ℕ → ℕ → ℕ
  child_at s i = child_of (rule_at a s i)

  pub alike_face : (s t : ℕ) → AreAlike kinds a s t → face_at a s ≡ face_at a t
  alike_face s t h = h [] tt tt

  pub same_goes_on : (s t i : ℕ) → face_at a s ≡ face_at a t → GoesOn s i → GoesOn t i
  same_goes_on s t i e g = (subst (λ n. i < n) (face_sides kinds a s t e) g.0, face_child kinds a s t e i g.1)

  pub alike_child : (s t i : ℕ) → AreAlike kinds a s t → GoesOn s i → AreAlike kinds a (child_at s i) (child_at t i)
  alike_child s t i h g path n n' =
      let g' = same_goes_on s t i (alike_face s t h) g in
      h (i ∷ path) (g.0, g.1, n) (g'.0, g'.1, n')

  -- of states in a relation that keeps faces and children no path tells two apart
  pub stable_alike : (R : ℕ → ℕ → Type 0)
      → ((s t : ℕ) → R s t → face_at a s ≡ face_at a t)
      → ((s t i : ℕ) → R s t → GoesOn s i → R (child_at s i) (child_at t i))
      → (s t : ℕ) → R s t → AreAlike kinds a s t
  stable_alike R faces children s t r [] n n' = faces s t r
  stable_alike R faces children s t r (i ∷ path) n n' =
      stable_alike R faces children (child_at s i) (child_at t i) (children s t i r (n.0, n.1)) path n.2 n'.2

  pub face_told : (s t : ℕ) → face_at a s ≢ face_at a t → AreTold kinds a s t
  face_told s t d = ([], record { from_first = tt; from_second = tt; differ = d })

  pub child_told : (s t i : ℕ) → GoesOn s i → GoesOn t i → AreTold kinds a (child_at s i) (child_at t i) → AreTold kinds a s t
  child_told s t i g g' (path, h) =
      (i ∷ path, record { from_first = (g.0, g.1, h.from_first); from_second = (g'.0, g'.1, h.from_second); differ = h.differ })

  pub told_not_alike : (s t : ℕ) → AreTold kinds a s t → AreAlike kinds a s t → ⊥
  told_not_alike s t (path, h) alike = h.differ (alike path h.from_first h.from_second)
