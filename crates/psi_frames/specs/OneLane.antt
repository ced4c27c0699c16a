-- The one-thread sender: it takes the requests of an input in their order, each on the version that the one before left.
use Rattle.std.specs.Prelude.{◌≡◌, ℕ, ◌<◌, nat_lt, List, [], ◌∷◌, ◌++◌, Option, None, Some, if◌then◌else◌}
use Rattle.std.specs.List.{All}
use Rattle.psi_residue.specs.Parameters.{Parameters}
use Rattle.psi_bundle.specs.declared.history.Answer.{Answer}
use Rattle.psi_bundle.specs.declared.history.Answer.TheVariants as answer
use Rattle.psi_bundle.specs.declared.history.Call.{Call}
use Rattle.psi_bundle.specs.declared.history.Entry.{Entry}
use Rattle.psi_bundle.specs.Versions.{Version}
use Rattle.psi_bundle.specs.Steps.{step}
use Rattle.psi_bundle.specs.Histories.{IsLegal, replay, most_entries}
use Rattle.query_codec.specs.Replies.{reply_body}
use Rattle.psi_frames.specs.declared.reply.Reply.{Reply}
use Rattle.psi_frames.specs.declared.reply.Reply.TheVariants as reply
use Rattle.psi_frames.specs.declared.request.Request.{Request}
use Rattle.psi_frames.specs.Requests.{call_of, code_of, asked_ciphertexts, session_of, number_of, journal_full}
use Rattle.psi_frames.specs.Served.{Sent, IsOneLane, IsOneLaneText, IsServed, exchanges, requests_of, text_of}

-- the reply that tells an answer at a place; a query's body is told with Seen, and a Repack's `from` is its place
abbrev pub reply_telling : Answer → (place : ℕ) → (body : List ℕ) → Reply
reply_telling answer.Added place body = reply.Added place
reply_telling answer.Replaced place body = reply.Replaced place
reply_telling answer.Removed place body = reply.Removed place
reply_telling answer.Absent place body = reply.Absent place
reply_telling (answer.Full planes cells) place body = reply.Full place planes cells
reply_telling answer.Seen place body = reply.Answer place body
reply_telling (answer.Done before after) place body = reply.Repacked place place before after
reply_telling (answer.Moved stamp) place body = reply.Moved place place stamp

-- the call that a request makes on a version, a Repack from the version's own count; none where the request has a code, or the journal is full
unfoldable pub call_on : Version → Request → Option Call
call_on v r = if nat_lt v.count most_entries then call_of r v.count else None

-- the code of a refusal: the request's own, or else that of a full journal
abbrev pub refusal_code : Option ℕ → ℕ
refusal_code (Some code) = code
refusal_code None = journal_full

-- the reply to a request that makes this call, or none
abbrev pub reply_by : Parameters → Version → Request → Option Call → Reply
reply_by p v r (Some c) = reply_telling (step v c).answer v.count (reply_body p v.rows (asked_ciphertexts r))
reply_by p v r None = reply.Refused (refusal_code (code_of r))

-- the version after it
abbrev pub version_by : Version → Option Call → Version
version_by v (Some c) = (step v c).version
version_by v None = v

-- the entry that it makes
abbrev pub entries_by : Version → Option Call → List Entry
entries_by v (Some c) = record { call = c; answer = (step v c).answer } ∷ []
entries_by v None = []

-- the reply to a request on a version
abbrev pub lane_reply : Parameters → Version → Request → Reply
lane_reply p v r = reply_by p v r (call_on v r)

-- the version that it leaves
abbrev pub lane_next : Version → Request → Version
lane_next v r = version_by v (call_on v r)

-- the reply as it is sent
abbrev pub lane_sent : Parameters → Version → Request → Sent
lane_sent p v r = record { session = session_of r; number = number_of r; reply = lane_reply p v r }

-- the replies to requests, in order
unfoldable pub lane_replies : Parameters → Version → List Request → List Sent
lane_replies p v [] = []
lane_replies p v (r ∷ rs) = lane_sent p v r ∷ lane_replies p (lane_next v r) rs

-- the entries that they make
unfoldable pub lane_history : Version → List Request → List Entry
lane_history v [] = []
lane_history v (r ∷ rs) = entries_by v (call_on v r) ++ lane_history (lane_next v r) rs

-- a code that the bytes of a request may have
abbrev pub HasByteCode : Request → Type 0
HasByteCode r = (code : ℕ) → code_of r ≡ Some code → code < journal_full

-- From each start without entries, behind each legal history, exactly one text is that of one lane.
abbrev pub OneTextIsOfOneLane : Type 0
OneTextIsOfOneLane =
    (p : Parameters) (start : Version) (given : List Entry) (rounds : List (List Request))
    → start.count ≡ 0 → IsLegal start given → All HasByteCode (requests_of rounds)
    → (text : List ℕ) × IsOneLaneText p start given rounds text × ((other : List ℕ) → IsOneLaneText p start given rounds other → other ≡ text)

-- The text of the one-thread sender's replies is that one.
abbrev pub LaneRepliesAreOfOneLane : Type 0
LaneRepliesAreOfOneLane =
    (p : Parameters) (start : Version) (given : List Entry) (rounds : List (List Request))
    → start.count ≡ 0 → IsLegal start given → All HasByteCode (requests_of rounds)
    → IsOneLaneText p start given rounds (text_of (lane_replies p (replay start given) (requests_of rounds)))

-- no bundle of the version was changed by an entry
abbrev pub HasNoStamps : Version → Type 0
HasNoStamps v = All (λ row. All (λ u. u.stamp ≡ 0) row) v.rows

-- Of one lane, from a start without entries and stamps, no reply is Moved.
abbrev pub OneLaneNeverMoves : Type 0
OneLaneNeverMoves =
    (p : Parameters) (start : Version) (given history : List Entry) (rounds : List (List Request)) (sents : List Sent)
    → start.count ≡ 0 → HasNoStamps start
    → IsServed p start given history rounds sents → IsOneLane (exchanges rounds sents)
    → All (λ e. (place from stamp : ℕ) → e.reply ≡ reply.Moved place from stamp → ⊥) (exchanges rounds sents)
