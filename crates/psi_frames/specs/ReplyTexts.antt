-- Bytes read as the replies that they tell.
use Rattle.std.specs.Prelude.{◌≡◌, ℕ, ◌<◌, ◌^◌, List}
use Rattle.std.specs.List.{All, AllZip}
use Rattle.psi_frames.specs.declared.frame.Frame.{Frame}
use Rattle.psi_frames.specs.Frames.{IsFrame, answer_fits, frames_bytes, reply_content, reply_table}
use Rattle.psi_frames.specs.ReplyFrames.{AreInRange, Tells}
use Rattle.psi_frames.specs.Served.{Sent, text_of}

-- the frame tells the reply, with its session and number
pub record TellsSent (f : Frame) (s : Sent) : Type 0 where
  pub session : f.session ≡ s.session
  pub number : f.number ≡ s.number
  pub reply : Tells f.kind f.body s.reply

-- The bytes are whole frames of the table of replies, which tell these replies one by one: their numbers are in the ranges of their fields.
pub record AreReplies (bytes : List ℕ) (sents : List Sent) : Type 0 where
  pub frames : List Frame
  pub whole : bytes ≡ frames_bytes frames
  pub each : All (IsFrame reply_table) frames
  pub told : AllZip TellsSent frames sents

-- a reply whose numbers are in the ranges of their fields, with a body of bytes that a frame has room for
pub record CanBeSent (s : Sent) : Type 0 where
  pub session : s.session < 2 ^ 16
  pub number : s.number < 2 ^ 32
  pub range : AreInRange s.reply
  pub content : All (λ b. b < 2 ^ 8) (reply_content s.reply)
  pub fits : answer_fits s.reply

-- Bytes are read as replies in one way.
abbrev pub RepliesAreOne : Type 0
RepliesAreOne = (bytes : List ℕ) (sents others : List Sent) → AreReplies bytes sents → AreReplies bytes others → sents ≡ others

-- They are the text of the replies as which they are read.
abbrev pub RepliesAreTheirText : Type 0
RepliesAreTheirText = (bytes : List ℕ) (sents : List Sent) → AreReplies bytes sents → bytes ≡ text_of sents

-- The text of replies that can be sent is read as these.
abbrev pub TextsAreReadBack : Type 0
TextsAreReadBack = (sents : List Sent) → All CanBeSent sents → AreReplies (text_of sents) sents
