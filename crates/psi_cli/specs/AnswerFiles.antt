-- Files with an answer: one reply frame of kind Answer.
use Rattle.std.specs.Prelude.{◌≡◌, ◌≤◌, ℕ, List, length}
use Rattle.psi_frames.specs.declared.frame.Frame.{Frame}
use Rattle.psi_frames.specs.declared.reply.Reply.TheVariants as reply
use Rattle.psi_frames.specs.Frames.{IsFrame, frame_bytes, reply_table}
use Rattle.psi_frames.specs.ReplyFrames.{Tells}

-- the most bytes of a file: those of the greatest answer that parameters allow
abbrev pub most_answer : ℕ
most_answer = 5242915

-- the bytes are one frame of the table of replies, and nothing else
pub record IsOneReply (bytes : List ℕ) (frame : Frame) : Type 0 where
  pub is_frame : IsFrame reply_table frame
  pub whole : bytes ≡ frame_bytes frame

-- the bytes are one frame of an Answer with this reply body
pub record IsAnswerFile (bytes body : List ℕ) : Type 0 where
  pub few_bytes : length bytes ≤ most_answer
  pub frame : Frame
  pub one : IsOneReply bytes frame
  pub place : ℕ
  pub tells : Tells frame.kind frame.body (reply.Answer place body)
