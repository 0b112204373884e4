-- Names: lists of sides, the side next to the root first.
use Rattle.std.specs.Prelude.{ℕ, ◌<◌, List, All}

-- each side is below 64
abbrev pub IsName : List ℕ → Type 0
IsName name = All (λ side. side < 64) name
