-- The states of the sources and the sink in memory.
use Rattle.std.specs.Prelude.{ℕ, List, replicate}
use Rattle.way_io.specs.Calls.{CallsMade}
use Rattle.way_io.specs.declared.fill_source.FillSource.{FillSource}

-- a read gives the next of the bytes left, at most `step` of them
pub record SourceState : Type 0 where
  pub left : List ℕ
  pub step : ℕ
  pub calls : CallsMade
  pub faults : ℕ

-- a write takes at most `step` bytes, and at most as many as there is room
pub record SinkState : Type 0 where
  pub taken : List ℕ
  pub room : ℕ
  pub step : ℕ
  pub calls : CallsMade
  pub faults : ℕ

-- the bytes that are left
abbrev pub fill_left : FillSource → List ℕ
fill_left source = replicate source.count source.byte
