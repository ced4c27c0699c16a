-- The frame that some bytes begin with, and what stands behind it.
use Rattle.std.specs.Prelude.{ℕ, ◌-◌, List, take, drop, slice_index}
use Rattle.byteorder.specs.Endian.{big_number}
use Rattle.psi_frames.specs.declared.frame.Frame.{Frame}
use Rattle.psi_frames.specs.Frames.{head_bytes}

-- the length word of the frame that begins these bytes, without what it counts before the body
abbrev pub body_length : List ℕ → ℕ
body_length bytes = big_number 4 bytes - head_bytes

-- the frame that the bytes begin with: its kind stands at place 4, its session at 5, its number at 7 and its body at 11
unfoldable pub front_frame : List ℕ → Frame
front_frame bytes = record { kind = slice_index bytes 4; session = big_number 2 (drop 5 bytes); number = big_number 4 (drop 7 bytes); body = take (body_length bytes) (drop 11 bytes) }

-- what stands behind that frame
unfoldable pub behind_front : List ℕ → List ℕ
behind_front bytes = drop (body_length bytes) (drop 11 bytes)
