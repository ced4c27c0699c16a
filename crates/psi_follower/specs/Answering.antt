-- What a follower answers to a query.
use Rattle.std.specs.Prelude.{◌≡◌, ℕ, ◌<◌, ◌≤◌, List, length, Result, Ok, Err}
use Rattle.psi_residue.specs.Parameters.{Parameters}
use Rattle.psi_bundle.specs.declared.history.Entry.{Entry}
use Rattle.psi_bundle.specs.Versions.{empty_version}
use Rattle.psi_bundle.specs.Histories.{replay}
use Rattle.query_codec.specs.Replies.{reply_body}
use Rattle.sender_core.specs.declared.answers.Placed.{Placed}
use Rattle.psi_follower.specs.declared.follower.AnswerFault.{AnswerFault}
use Rattle.psi_follower.specs.declared.follower.AnswerFault.TheVariants as fault

-- the reply body from the set that these entries lead to
abbrev pub body_after : Parameters → List Entry → (query : List (List (List ℕ))) → List ℕ
body_after p entries query = reply_body p (replay (empty_version p) entries).rows query

-- A query with a floor is answered from all the entries, with their number as the place, or there are fewer than the floor, or memory ran out.
abbrev pub IsAnswered : Parameters → (entries : List Entry) (floor : ℕ) (query : List (List (List ℕ))) → Result (Placed (List ℕ)) AnswerFault → Type 0
IsAnswered p entries floor query (Ok told) = (floor ≤ length entries) × (told.place ≡ length entries) × (told.answer ≡ body_after p entries query)
IsAnswered p entries floor query (Err (fault.Behind have)) = (length entries < floor) × (have ≡ length entries)
IsAnswered p entries floor query (Err fault.NoMemory) = floor ≤ length entries
