-- What is known of the files and the streams of the machine: how many calls failed.
use Rattle.std.specs.Prelude.{ℕ}

pub record FileFaults : Type 0 where
  pub fetches : ℕ
  pub stores : ℕ

-- a reader or a writer, and how often it failed
pub record Counting (S : Type 0) : Type 0 where
  pub stream : S
  pub faults : ℕ
