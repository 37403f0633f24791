-- Sources and sinks over bytes in memory: what they hold, and what a call leaves.
use Rattle.std.specs.Prelude.{ℕ, ◌-◌, ◌≤◌, List, ◌++◌, length, take, drop, min, Contains, ◌<◌}
use Rattle.sh_io.specs.Causes.{counted}

-- how many calls there were, how many of them failed, and the numbers of those that are to fail
pub record Calls : Type 0 where
  pub count : ℕ
  pub faults : ℕ
  pub failing : List ℕ

-- the next call is one of those that are to fail
abbrev pub IsListed : Calls → Type 0
IsListed calls = Contains calls.failing (counted calls.count)

abbrev pub after_success : Calls → Calls
after_success calls = record calls { count = counted calls.count }

abbrev pub after_failure : Calls → Calls
after_failure calls = record calls { count = counted calls.count; faults = counted calls.faults }

-- the bytes still to come, and the most that one call gives
pub record SourceState : Type 0 where
  pub rest : List ℕ
  pub per_call : ℕ
  pub calls : Calls

-- how many bytes a read into a buffer of this length gives
abbrev pub read_count : SourceState → ℕ → ℕ
read_count s room = min (min (length s.rest) room) s.per_call

abbrev pub after_read : SourceState → ℕ → SourceState
after_read s n = record s { rest = drop n s.rest; calls = after_success s.calls }

abbrev pub after_failed_read : SourceState → SourceState
after_failed_read s = record s { calls = after_failure s.calls }

-- the bytes that were taken, how many there is room for in all, and the most that one call takes
pub record SinkState : Type 0 where
  pub bytes : List ℕ
  pub room : ℕ
  pub per_call : ℕ
  pub calls : Calls

-- how many bytes a write of a piece of this length takes
abbrev pub write_count : SinkState → ℕ → ℕ
write_count s n = min (min n (s.room - length s.bytes)) s.per_call

-- a piece that isn't empty meets a sink whose room is full
abbrev pub IsFull : SinkState → List ℕ → Type 0
IsFull s piece = (0 < length piece) × (s.room ≤ length s.bytes)

abbrev pub after_write : SinkState → List ℕ → ℕ → SinkState
after_write s piece n = record s { bytes = s.bytes ++ take n piece; calls = after_success s.calls }

abbrev pub after_failed_write : SinkState → SinkState
after_failed_write s = record s { calls = after_failure s.calls }
