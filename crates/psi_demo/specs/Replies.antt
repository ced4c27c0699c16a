-- Bytes as the replies that they tell.
use Rattle.std.specs.Prelude.{◌≡◌, ℕ, ◌<◌, List, ◌++◌, length, map, ⊤}
use Rattle.std.specs.List.{All}
use Rattle.psi_frames.specs.declared.reply.Reply.{Reply}
use Rattle.psi_frames.specs.Frames.{answer_fits, reply_frame_bytes}
use Rattle.psi_frames.specs.Served.{Sent, text_of}
use Rattle.psi_demo.specs.declared.fault.SumFault.{SumFault}
use Rattle.psi_demo.specs.declared.fault.SumFault.TheVariants as sum

-- each reply has a frame of a length that a frame may have
abbrev pub AreFit : List Sent → Type 0
AreFit sents = All (λ s. answer_fits s.reply) sents

-- The bytes are the frames of these replies, one after another, and nothing else.
pub record AreSent (bytes : List ℕ) (sents : List Sent) : Type 0 where
  pub text : bytes ≡ text_of sents
  pub fit : AreFit sents

-- no frame of a reply begins the bytes
abbrev pub BeginsNoReply : List ℕ → Type 0
BeginsNoReply bytes = (s : Sent) (more : List ℕ) → answer_fits s.reply → bytes ≡ reply_frame_bytes s.session s.number s.reply ++ more → ⊥

-- The bytes are the frames of replies up to an offset, and there no such frame begins; so they are no list of them.
pub record IsTorn (bytes : List ℕ) (offset : ℕ) : Type 0 where
  pub before : List Sent
  pub fit : AreFit before
  pub rest : List ℕ
  pub whole : bytes ≡ text_of before ++ rest
  pub reached : offset ≡ length (text_of before)
  pub some : 0 < length rest
  pub none : BeginsNoReply rest
  pub never : (sents : List Sent) → AreSent bytes sents → ⊥

-- the replies alone
abbrev pub replies_of : List Sent → List Reply
replies_of sents = map (λ s. s.reply) sents

-- why bytes are not read as replies
abbrev pub IsReadFault : (bytes : List ℕ) → SumFault → Type 0
IsReadFault bytes (sum.Torn offset) = IsTorn bytes offset
IsReadFault bytes (sum.Codec fault) = ⊥
IsReadFault bytes sum.NoMemory = ⊤
