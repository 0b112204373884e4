-- The calls of an object in memory: they are numbered from 1, and those of certain numbers fail.
use Rattle.std.specs.Prelude.{ℕ, ◌==◌, Bool, List}
use Rattle.std.specs.List.{list_any}
use Rattle.way_io.specs.Counts.{counted}

pub record CallsMade : Type 0 where
  pub made : ℕ
  pub failing : List ℕ

-- no call was made yet
abbrev pub no_calls : List ℕ → CallsMade
no_calls failing = record { made = 0; failing = failing }

-- one more call was made
abbrev pub one_more : CallsMade → CallsMade
one_more calls = record { made = counted calls.made; failing = calls.failing }

-- whether the next call has the number of one that fails
abbrev pub next_fails : CallsMade → Bool
next_fails calls = list_any (λ number. number == counted calls.made) calls.failing
