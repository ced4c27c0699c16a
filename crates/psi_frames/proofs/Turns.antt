-- One turn of the one-thread sender: what a request makes of a version, its reply, and the count of entries behind it.
use Rattle.std.specs.Prelude.{◌≡◌, ℕ, ◌+◌, ◌<◌, ◌≤◌, Bool, true, false, nat_lt, nat_le, List, length, Option, Some, None, IsSome, if◌then◌else◌}
use Rattle.std.proofs.Common.{refl, arith, inl, inr, ◌⊎◌}
use Rattle.std.proofs.lemmas.Bool.{ltb-true}
use Rattle.std.proofs.lemmas.Bool.Decides.{nat_tests}
use Rattle.psi_bundle.specs.declared.history.Call.{Call}
use Rattle.psi_bundle.specs.declared.history.Call.TheVariants as call
use Rattle.psi_bundle.specs.declared.history.Answer.{Answer}
use Rattle.psi_bundle.specs.declared.history.Answer.TheVariants as answer
use Rattle.psi_bundle.specs.Versions.{Version, row_at, greatest_stamp, packed_row, members_of_row}
use Rattle.psi_bundle.specs.Steps.{Step, step, repack, unchanged}
use Rattle.psi_bundle.proofs.Steps.{count-step}
use Rattle.psi_bundle.specs.Histories.{most_entries}
use Rattle.psi_frames.specs.declared.reply.Reply.TheVariants as reply
use Rattle.psi_frames.specs.declared.request.Request.{Request}
use Rattle.psi_frames.specs.declared.request.Request.TheVariants as request
use Rattle.psi_frames.specs.Requests.{call_of, code_of}
use Rattle.psi_frames.specs.Served.{place_of, from_of, body_of, answer_of}
use Rattle.psi_frames.specs.OneLane.{reply_telling, call_on, version_by, entries_by}

-- the reply that tells an answer at a place: its place, its answer, its `from` and its body
pub place-reply : (a : Answer) (n : ℕ) (body : List ℕ) → place_of (reply_telling a n body) ≡ Some n
place-reply answer.Added n body = refl
place-reply answer.Replaced n body = refl
place-reply answer.Removed n body = refl
place-reply answer.Absent n body = refl
place-reply (answer.Full x y) n body = refl
place-reply answer.Seen n body = refl
place-reply (answer.Done x y) n body = refl
place-reply (answer.Moved x) n body = refl

pub answer-reply : (a : Answer) (n : ℕ) (body : List ℕ) → answer_of (reply_telling a n body) ≡ Some a
answer-reply answer.Added n body = refl
answer-reply answer.Replaced n body = refl
answer-reply answer.Removed n body = refl
answer-reply answer.Absent n body = refl
answer-reply (answer.Full x y) n body = refl
answer-reply answer.Seen n body = refl
answer-reply (answer.Done x y) n body = refl
answer-reply (answer.Moved x) n body = refl

pub from-reply : (a : Answer) (n : ℕ) (body : List ℕ) (from : ℕ) → from_of (reply_telling a n body) ≡ Some from → from ≡ n
from-reply answer.Added n body from e = cc
from-reply answer.Replaced n body from e = cc
from-reply answer.Removed n body from e = cc
from-reply answer.Absent n body from e = cc
from-reply (answer.Full x y) n body from e = cc
from-reply answer.Seen n body from e = cc
from-reply (answer.Done x y) n body from e = cc
from-reply (answer.Moved x) n body from e = cc

pub body-reply : (a : Answer) (n : ℕ) (body told : List ℕ) → body_of (reply_telling a n body) ≡ Some told → told ≡ body
body-reply answer.Added n body told e = cc
body-reply answer.Replaced n body told e = cc
body-reply answer.Removed n body told e = cc
body-reply answer.Absent n body told e = cc
body-reply (answer.Full x y) n body told e = cc
body-reply answer.Seen n body told e = cc
body-reply (answer.Done x y) n body told e = cc
body-reply (answer.Moved x) n body told e = cc

pub no_refusal : (a : Answer) (n code : ℕ) (body : List ℕ) → reply_telling a n body ≡ reply.Refused code → ⊥
no_refusal answer.Added n code body e = cc
no_refusal answer.Replaced n code body e = cc
no_refusal answer.Removed n code body e = cc
no_refusal answer.Absent n code body e = cc
no_refusal (answer.Full x y) n code body e = cc
no_refusal answer.Seen n code body e = cc
no_refusal (answer.Done x y) n code body e = cc
no_refusal (answer.Moved x) n code body e = cc

-- an answer to a Repack is told with a `from`
either_from : (b : Bool) (x y : Step) (n : ℕ) (body : List ℕ) → IsSome (from_of (reply_telling x.answer n body)) → IsSome (from_of (reply_telling y.answer n body)) → IsSome (from_of (reply_telling (if b then x else y).answer n body))
either_from true x y n body p q = p
either_from false x y n body p q = q

pub repack-tells : (v : Version) (row from n : ℕ) (body : List ℕ) → IsSome (from_of (reply_telling (step v (call.Repack row from)).answer n body))
unfolding step
repack-tells v row from n body =
    let packed = packed_row v.parameters.capacity (v.count + 1) (members_of_row (row_at v.rows row)) in
    either_from (nat_le (greatest_stamp (row_at v.rows row)) from) (repack v row packed)
    (record { answer = answer.Moved (greatest_stamp (row_at v.rows row)); version = unchanged v }) n body refl refl

-- a request has a code, or makes a call
abbrev pub CodedOrCalls : Request → ℕ → Type 0
CodedOrCalls r from = ((code : ℕ) × (code_of r ≡ Some code) × (call_of r from ≡ None)) ⊎ ((c : Call) × (code_of r ≡ None) × (call_of r from ≡ Some c))

pub coded_or_calls : (r : Request) (from : ℕ) → CodedOrCalls r from
coded_or_calls (request.Put session number tag label) from = inr (_, refl, refl)
coded_or_calls (request.Drop session number tag) from = inr (_, refl, refl)
coded_or_calls (request.Ask session number query) from = inr (_, refl, refl)
coded_or_calls (request.Repack session number row) from = inr (_, refl, refl)
coded_or_calls (request.Bad session number code) from = inl (code, refl, refl)

-- what a request is to a version: it has a code, or it finds the journal full, or it makes a call
pub data Turned (v : Version) (r : Request) : Type 0 where
  Coded : (code : ℕ) → code_of r ≡ Some code → call_on v r ≡ None → Turned v r
  Full : code_of r ≡ None → most_entries ≤ v.count → call_on v r ≡ None → Turned v r
  Makes : (c : Call) → code_of r ≡ None → v.count < most_entries → call_of r v.count ≡ Some c → call_on v r ≡ Some c → Turned v r

turned_by : (v : Version) (r : Request) (b : Bool) → nat_lt v.count most_entries ≡ b → CodedOrCalls r v.count → Turned v r
unfolding call_on
turned_by v r true test (inl coded) = Coded coded.0 coded.1 (let none = coded.2 in rw test none)
turned_by v r true test (inr calls) = Makes calls.0 calls.1 (ltb-true v.count most_entries test) calls.2 (let some = calls.2 in rw test some)
turned_by v r false test (inl coded) = Coded coded.0 coded.1 (rw test refl)
turned_by v r false test (inr calls) = Full calls.1 (grind (arith, nat_tests, test)) (rw test refl)

pub turned : (v : Version) (r : Request) → Turned v r
turned v r = turned_by v r (nat_lt v.count most_entries) refl (coded_or_calls r v.count)

-- the count of entries behind a call, and behind none
pub count-behind : (v : Version) (o : Option Call) → (version_by v o).count ≡ v.count + length (entries_by v o)
count-behind v (Some c) = count-step v c
count-behind v None = omega arith
