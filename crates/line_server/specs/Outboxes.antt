-- What an outbox says: the sink takes some of it at once, and the rest waits to be written.
-- `taken` and `waiting` are what the sink had taken and what waited before,
-- `taken'` and `waiting'` what it has taken and what waits afterwards.
use Rattle.std.specs.Prelude.{◌≡◌, ℕ, Bool, IsTrue, List, ◌++◌}
use Rattle.way_io.specs.Pieces.{AppendsPrefix}

-- The bytes were said: behind what was said before they are taken, or wait.
pub record HasSaid (tells : Bool) (taken waiting bytes taken' waiting' : List ℕ) : Type 0 where
  pub sent : List ℕ
  pub split : waiting ++ bytes ≡ sent ++ waiting'
  pub written : IsTrue tells → taken' ≡ taken ++ sent

-- Something failed on the way: of what was said and of the bytes the sink took a prefix.
abbrev pub HasBroken : (tells : Bool) (taken waiting bytes taken' : List ℕ) → Type 0
HasBroken tells taken waiting bytes taken' =
    IsTrue tells → AppendsPrefix taken taken' (waiting ++ bytes)
