-- What a source, a sink and files tell at one moment.
use Rattle.std.specs.Prelude.{ℕ, List, Option}
use Rattle.psi_outside.specs.Names.{FileMap}

-- a source: the bytes that are left, where it tells them, and how many reads have failed
pub record SourceTold : Type 0 where
  pub left : Option (List ℕ)
  pub faults : ℕ

-- a sink: the bytes written and how many of them were flushed, where it tells them, and how many writes and flushes have failed
pub record SinkTold : Type 0 where
  pub written : Option (List ℕ)
  pub flushed : Option ℕ
  pub faults : ℕ

-- files: their map, where they tell it, and how many reads have failed
pub record FilesTold : Type 0 where
  pub files : Option FileMap
  pub faults : ℕ

-- the two ends of a stream of requests and replies
pub record Ends : Type 0 where
  pub source : SourceTold
  pub sink : SinkTold

abbrev pub ends : SourceTold → SinkTold → Ends
ends source sink = record { source = source; sink = sink }
