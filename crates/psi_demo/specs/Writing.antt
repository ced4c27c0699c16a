-- How far a script is written.
use Rattle.std.specs.Prelude.{◌≡◌, ◌+◌, List, ◌++◌, length}
use Rattle.std.specs.List.{All}
use Rattle.psi_frames.specs.Frames.{IsFrame, frames_bytes, request_table}
use Rattle.psi_demo.specs.declared.written.Written.{Written}
use Rattle.psi_demo.specs.Scripts.{Unnumbered, numbered}

-- These requests were written behind a text, with the numbers that follow on.
pub record Writes (old new : Written) (requests : List Unnumbered) : Type 0 where
  pub text : new.text.items ≡ old.text.items ++ frames_bytes (numbered old.requests requests)
  pub count : new.requests ≡ old.requests + length requests
  pub each : All (IsFrame request_table) (numbered old.requests requests)
