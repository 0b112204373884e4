-- A piece of bytes that is written part by part.
use Rattle.std.specs.Prelude.{◌≡◌, ℕ, List, ◌++◌}

-- of the piece, `rest` is still to be appended to `old`, and `new` is what stands
pub record IsSent (old new piece rest : List ℕ) : Type 0 where
  pub sent : List ℕ
  pub split : piece ≡ sent ++ rest
  pub appended : new ≡ old ++ sent

-- `new` is `old` followed by a prefix of the piece
pub record AppendsPrefix (old new piece : List ℕ) : Type 0 where
  pub rest : List ℕ
  pub sent : IsSent old new piece rest
