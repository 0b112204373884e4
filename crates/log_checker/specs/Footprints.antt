-- Walks of which each letter tells the type at which it stands.
use Rattle.std.specs.Prelude.{◌≡◌, ℕ, List, [], ◌∷◌, map}
use Rattle.tile_model.specs.declared.Letter.{Letter}
use Rattle.tile_model.specs.Tessellations.{TileKind}
use Rattle.tile_model.specs.Walks.{step}

-- a letter and the type at which it stands
abbrev pub TypedLetter : Type 0
TypedLetter = Letter × (ℕ × ℕ)

-- the letters of a walk from a type, each with the type at which it stands
abbrev pub typed : List TileKind → ℕ × ℕ → List Letter → List TypedLetter
typed kinds d [] = []
typed kinds d (x ∷ walk) = (x, d) ∷ typed kinds (step kinds d x) walk

-- the letters alone
abbrev pub letters : List TypedLetter → List Letter
letters footprints = map (λ (x, d). x) footprints

-- each letter tells the type at which it stands in the walk from d
abbrev pub AreTyped : List TileKind → ℕ × ℕ → List TypedLetter → Type 0
AreTyped kinds d footprints = footprints ≡ typed kinds d (letters footprints)
