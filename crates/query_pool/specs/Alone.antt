-- What one lane makes of a book that it has for itself.
use Rattle.std.specs.Prelude.{◌≡◌, ◌⊎◌, ℕ, ◌<◌, ◌≤◌, List, ◌++◌, length}
use Rattle.psi_residue.specs.Parameters.{Parameters}
use Rattle.psi_bundle.specs.declared.history.Answer.{Answer}
use Rattle.psi_bundle.specs.declared.history.Call.{Call}
use Rattle.bundle_cache.specs.Caches.{CacheOf}
use Rattle.psi_bundle.specs.Histories.{most_entries}
use Rattle.psi_frames.specs.declared.reply.Reply.{Reply}
use Rattle.psi_frames.specs.declared.reply.Reply.TheVariants as reply
use Rattle.psi_frames.specs.declared.request.Request.{Request}
use Rattle.psi_frames.specs.OneLane.{call_on, entries_by, lane_next, lane_reply, reply_telling}
use Rattle.psi_frames.specs.Requests.{journal_full}
use Rattle.sender_core.specs.Kept.{Contents, IsAsBefore, IsStep, version_of}

-- The call is entered, and the reply tells its answer at the entry's place; a query's body comes with it.
pub record IsEntered (old new : Contents CacheOf) (c : Call) (body : List ℕ) (told : Reply) : Type 0 where
  pub room : length old.journal < most_entries
  pub answer : Answer
  pub stepped : IsStep old new c answer
  pub tells : told ≡ reply_telling answer (length old.journal) body

-- The journal is full, nothing changed, and the reply says so.
pub record IsFull (old new : Contents CacheOf) (told : Reply) : Type 0 where
  pub full : most_entries ≤ length old.journal
  pub kept : IsAsBefore old new
  pub tells : told ≡ reply.Refused journal_full

-- what a call makes of a book, and the reply to it
abbrev pub IsCalled : Contents CacheOf → Contents CacheOf → Call → (body : List ℕ) → Reply → Type 0
IsCalled old new c body told = IsEntered old new c body told ⊎ IsFull old new told

-- A request that is served alone: the reply, the version behind it and the entry are the one-thread sender's; parameters and start stay.
pub record IsAnsweredAlone (p : Parameters) (old new : Contents CacheOf) (r : Request) (told : Reply) : Type 0 where
  pub reply : told ≡ lane_reply p (version_of old) r
  pub version : version_of new ≡ lane_next (version_of old) r
  pub entries : new.journal ≡ old.journal ++ entries_by (version_of old) (call_on (version_of old) r)
  pub parameters : new.parameters ≡ old.parameters
  pub start : new.start ≡ old.start
