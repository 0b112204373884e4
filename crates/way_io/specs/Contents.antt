-- What files hold, as a function of their names.
use Rattle.std.specs.Prelude.{◌≡◌, ◌≢◌, ◌<◌, ℕ, List, length, Option, IsSomeAnd}

-- the contents of all names are as before
abbrev pub KeepsAll : (List ℕ → Option (List ℕ)) → (List ℕ → Option (List ℕ)) → Type 0
KeepsAll old new = (name : List ℕ) → new name ≡ old name

-- the contents of all names but this one are as before
abbrev pub KeepsOthers : (List ℕ → Option (List ℕ)) → (List ℕ → Option (List ℕ)) → List ℕ → Type 0
KeepsOthers old new name = (other : List ℕ) → other ≢ name → new other ≡ old other

-- the file of this name has more bytes than the limit
abbrev pub IsLonger : (List ℕ → Option (List ℕ)) → List ℕ → ℕ → Type 0
IsLonger contents name limit = IsSomeAnd (contents name) (λ bytes. limit < length bytes)
