use Rattle.std.proofs.Common.{◌≡◌, ◌++◌, length}
use Rattle.std.specs.List.{All}
use Rattle.psi_frames.specs.Feeds.{table_of}
use Rattle.psi_frames.specs.Frames.{IsFrame, frames_bytes}
use Rattle.psi_frames.proofs.cut.cut_frames.Given as goal

-- the frames so far and what is left are all bytes
abbrev pub invariant-loop-end : goal.invariant-loop-end
invariant-loop-end l = record {
  whole : l.bytes ≡ frames_bytes l.frames.items ++ l.rest;
  each : All (IsFrame (table_of l.replies)) l.frames.items;
}

abbrev pub decreases-loop-end : goal.decreases-loop-end
decreases-loop-end l = length l.rest
