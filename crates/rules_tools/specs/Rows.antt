-- Rows: for each number a list of states.
use Rattle.std.specs.Prelude.{ℕ, List, [], map, slice_index_or, Vec}
use Rattle.std.specs.declared.alloc.Global.{Global}

-- the states of row k, none where there is no such row
abbrev pub row : List (Vec ℕ Global) → ℕ → List ℕ
row rows k = slice_index_or (map (λ v. v.items) rows) k []
