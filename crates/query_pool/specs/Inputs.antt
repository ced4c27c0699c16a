-- Inputs that are served to their end, and those that are not.
use Rattle.std.specs.Prelude.{◌⊎◌, ℕ, ◌<◌, ◌≤◌, List, length, Option, None, IsSome}
use Rattle.psi_frames.specs.declared.frame.Frame.{Frame}
use Rattle.psi_frames.specs.Frames.{AreWholeFrames, Fault, most_bytes, request_table}

-- whole frames to the end, and no more bytes than are looked at
pub record AreGoodFrames (bytes : List ℕ) : Type 0 where
  pub frames : List Frame
  pub whole : AreWholeFrames request_table bytes frames None
  pub size : length bytes ≤ most_bytes

-- a bad frame, or the end within a frame, or more bytes
pub record AreBadFrames (bytes : List ℕ) : Type 0 where
  pub frames : List Frame
  pub fault : Option Fault
  pub whole : AreWholeFrames request_table bytes frames fault
  pub bad : IsSome fault ⊎ (most_bytes < length bytes)
