-- The requests of a round, and the replies of one lane.
use Rattle.std.specs.Prelude.{◌≡◌, ℕ}
use Rattle.psi_frames.specs.declared.reply.Reply.{Reply}
use Rattle.psi_frames.specs.declared.reply.Reply.TheVariants as reply

-- the bytes of the body of a reply with 64 planes in 4 rows
abbrev pub longest_body : ℕ
longest_body = 5242896

-- no reply that a row moved
abbrev pub IsNoMoved : Reply → Type 0
IsNoMoved r = (place from stamp : ℕ) → r ≡ reply.Moved place from stamp → ⊥
