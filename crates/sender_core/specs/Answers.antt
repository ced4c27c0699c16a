-- The answers of a book's calls as the answers of a step, and the cause of a refusal.
use Rattle.std.specs.Prelude.{◌≡◌, ℕ, nat_lt, if◌then◌else◌, List, None, ⊤}
use Rattle.psi_bundle.specs.declared.history.Answer.{Answer}
use Rattle.psi_bundle.specs.declared.history.Answer.TheVariants as answer
use Rattle.sender_core.specs.declared.answers.Put.{Put}
use Rattle.sender_core.specs.declared.answers.Put.TheVariants as put
use Rattle.sender_core.specs.declared.answers.DropAnswer.{DropAnswer}
use Rattle.sender_core.specs.declared.answers.DropAnswer.TheVariants as dropped
use Rattle.sender_core.specs.declared.answers.RepackAnswer.{RepackAnswer}
use Rattle.sender_core.specs.declared.answers.RepackAnswer.TheVariants as repacked
use Rattle.sender_core.specs.declared.answers.Refusal.{Refusal}
use Rattle.sender_core.specs.declared.answers.Refusal.TheVariants as refusal
use Rattle.psi_bundle.specs.Histories.{most_entries}
use Rattle.sender_core.specs.Kept.{Kept, kept_at}

-- the step's answer that a Put tells
abbrev pub answer_of_put : Put → Answer
answer_of_put put.Added = answer.Added
answer_of_put put.Replaced = answer.Replaced
answer_of_put (put.Full planes cells) = answer.Full planes cells

-- the step's answer that a Drop tells
abbrev pub answer_of_drop : DropAnswer → Answer
answer_of_drop dropped.Removed = answer.Removed
answer_of_drop dropped.Absent = answer.Absent

-- the step's answer that a Repack tells
abbrev pub answer_of_repack : RepackAnswer → Answer
answer_of_repack (repacked.Done before after) = answer.Done before after
answer_of_repack (repacked.Moved stamp) = answer.Moved stamp

-- a row that was packed has no caches
abbrev pub LeavesBare : {C : Type 0} → RepackAnswer → List (Kept C) → Type 0
LeavesBare (repacked.Done before after) row = (u : ℕ) → (kept_at row u).cache ≡ None
LeavesBare (repacked.Moved stamp) row = ⊤

-- why a call is refused where the journal has so many entries
abbrev pub cause_at : ℕ → Refusal
cause_at entries = if nat_lt entries most_entries then refusal.NoMemory else refusal.JournalFull most_entries
