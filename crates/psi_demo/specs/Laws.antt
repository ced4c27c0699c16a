-- Replies that serve a script are counted.
use Rattle.std.specs.Prelude.{◌≡◌, ℕ, ◌+◌, ◌*◌, ◌≤◌, List, [], ◌++◌, length, Some}
use Rattle.std.specs.List.{All, flat_map}
use Rattle.psi_bundle.specs.declared.history.Entry.{Entry}
use Rattle.psi_bundle.specs.Histories.{version_at}
use Rattle.psi_bundle.specs.Versions.{IsSound, empty_version}
use Rattle.query_codec.specs.Replies.{IsReply}
use Rattle.psi_frames.specs.declared.frame.Frame.{Frame}
use Rattle.psi_frames.specs.declared.request.Request.{Request}
use Rattle.psi_frames.specs.Frames.{greatest_length}
use Rattle.psi_frames.specs.Requests.{count_asks}
use Rattle.psi_frames.specs.Rounds.{request_rounds}
use Rattle.psi_frames.specs.Served.{IsServed, Sent, body_of, requests_of, text_of}
use Rattle.psi_demo.specs.declared.fault.SumFault.{SumFault}
use Rattle.psi_demo.specs.declared.fault.SumFault.TheVariants as sum
use Rattle.psi_demo.specs.Faults.{IsSumFault}
use Rattle.psi_demo.specs.Items.{demo_parameters}
use Rattle.psi_demo.specs.Replies.{AreFit, AreSent}
use Rattle.psi_demo.specs.Scripts.{IsScript}

-- Replies whose text is short have frames of a length that a frame may have.
abbrev pub ShortTextsFit : Type 0
ShortTextsFit = (sents : List Sent) → length (text_of sents) ≤ greatest_length → AreFit sents

-- the body of an answer is one under the parameters of the demonstration
abbrev pub HasReplyBody : Sent → Type 0
HasReplyBody s = (body : List ℕ) → body_of s.reply ≡ Some body → IsReply demo_parameters body

-- The set at a place of a history is sound, and has these parameters.
pub record IsSoundAt (history : List Entry) (place : ℕ) : Type 0 where
  pub parameters : (version_at (empty_version demo_parameters) history place).parameters ≡ demo_parameters
  pub sound : IsSound (version_at (empty_version demo_parameters) history place)

-- Replies that serve rounds have such bodies, where the sets of the history are sound.
abbrev pub ServedBodiesAreReplies : Type 0
ServedBodiesAreReplies =
    (history : List Entry) (rounds : List (List Request)) (sents : List Sent)
    → ((place : ℕ) → IsSoundAt history place) → IsServed demo_parameters (empty_version demo_parameters) [] history rounds sents → All HasReplyBody sents

-- Of replies with such bodies there is a summary, unless memory runs out.
abbrev pub RepliesAreCounted : Type 0
RepliesAreCounted =
    (number : ℕ) (bytes : List ℕ) (sents : List Sent) (fault : SumFault) → AreSent bytes sents → All HasReplyBody sents → IsSumFault number bytes fault → fault ≡ sum.NoMemory

-- A text that serves requests, where the sets of the history are sound: each request adds 35 bytes at most, and each Ask 5,242,874 more.
abbrev pub ServedTextsAreShort : Type 0
ServedTextsAreShort =
    (history : List Entry) (rounds : List (List Request)) (sents : List Sent)
    → ((place : ℕ) → IsSoundAt history place) → IsServed demo_parameters (empty_version demo_parameters) [] history rounds sents
    → length (text_of sents) ≤ 35 * length (requests_of rounds) + 5242874 * count_asks (requests_of rounds)

-- A script has 441 requests, and three of them are Asks; so its first rounds have no more.
abbrev pub ScriptsAskThrice : Type 0
ScriptsAskThrice =
    (number : ℕ) (frames more : List Frame) (rounds : List (List Frame)) → IsScript number frames → frames ≡ flat_map (λ round. round) rounds ++ more
    → (length (requests_of (request_rounds demo_parameters rounds)) ≤ 441) × (count_asks (requests_of (request_rounds demo_parameters rounds)) ≤ 3)
