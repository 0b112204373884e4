-- How many tiles lie so many crossings away from the root, by a reading. There is always one number
-- of them, in both readings.
use Rattle.std.specs.Prelude.{ℕ, ◌<◌, ◌≤◌}
use Rattle.tree_model.specs.Limits.{most_counted}
use Rattle.reply_model.specs.Readings.{Reading}

module _ (reading : Reading) where
  -- more tiles lie d crossings away than are counted
  pub record IsTooBig (d : ℕ) : Type 0 where
    pub size : ℕ
    pub away : reading.LieAway d size
    pub big : most_counted < size

  -- Of the distances up to d, r is the first at which too many lie.
  pub record IsFirstTooBig (d r : ℕ) : Type 0 where
    pub within : r ≤ d
    pub big : IsTooBig r
    pub first : (q : ℕ) → q < r → ¬ (IsTooBig q)

  -- At no distance up to d too many lie, and n tiles lie d crossings away.
  pub record AreCounted (d n : ℕ) : Type 0 where
    pub none_big : (r : ℕ) → r ≤ d → ¬ (IsTooBig r)
    pub away : reading.LieAway d n
