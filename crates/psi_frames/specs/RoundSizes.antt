-- The size of a round so far, by which it is seen to be full.
use Rattle.std.specs.Prelude.{◌≡◌, ℕ, ◌-◌, ◌^◌, min, Bool, List, length}
use Rattle.std.specs.List.{list_any}
use Rattle.psi_frames.specs.declared.frame.Frame.{Frame}
use Rattle.psi_frames.specs.Frames.{frames_bytes}
use Rattle.psi_frames.specs.Rounds.{is_go}

-- the greatest number that is counted
abbrev pub most_counted : ℕ
most_counted = 2 ^ 64 - 1

-- The size of a round's frames: whether there is a Go frame, and the number of their bytes, which stands still at its type's end.
pub record HasSize (has_go : Bool) (size : ℕ) (frames : List Frame) : Type 0 where
  pub go : has_go ≡ list_any is_go frames
  pub bytes : size ≡ min (length (frames_bytes frames)) most_counted
