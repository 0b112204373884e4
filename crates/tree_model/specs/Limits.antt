-- How far from the root of its tree a walker or a ring may be, and how large a ring may be.
use Rattle.std.specs.Prelude.{ℕ}

-- the most crossings from the root
abbrev pub deepest : ℕ
deepest = 4000

-- the most tiles of a ring that are counted
abbrev pub most_counted : ℕ
most_counted = 340282366920938463463374607431768211455

-- the most tiles of a ring that are listed
abbrev pub most_listed : ℕ
most_listed = 100000
