-- The script of a number: the requests of three rounds, as frames (this project's own).
use Rattle.std.specs.Prelude.{◌≡◌, ◌≤◌, ℕ, ◌+◌, ◌%◌, List, [], ◌∷◌, ◌++◌, length, None}
use Rattle.psi_frames.specs.declared.frame.Frame.{Frame}
use Rattle.psi_frames.specs.Frames.{AreWholeFrames, frames_bytes, most_bytes, request_table, put_kind, drop_kind, ask_kind, repack_kind, go_kind}
use Rattle.psi_receiver.specs.Queries.{IsQueryOf}
use Rattle.psi_demo.specs.Items.{asked_tags, demo_parameters, demo_item, demo_label, run, demo_seed}

-- A request that has no number yet.
pub record Unnumbered : Type 0 where
  pub kind : ℕ
  pub session : ℕ
  pub body : List ℕ

-- its frame, with a number
abbrev pub numbered_frame : ℕ → Unnumbered → Frame
numbered_frame n r = record { kind = r.kind; session = r.session; number = n; body = r.body }

-- the frames of requests, which are numbered from n on
unfoldable pub numbered : ℕ → List Unnumbered → List Frame
numbered n [] = []
numbered n (r ∷ rs) = numbered_frame n r ∷ numbered (n + 1) rs

-- the frame that ends a round
abbrev pub go_frame : Frame
go_frame = record { kind = go_kind; session = 0; number = 0; body = [] }

-- the session that puts and drops item i
abbrev pub session_of_item : ℕ → ℕ
session_of_item i = 1 + i % 4

-- an item's Put: its length, itself, and its label
abbrev pub put : (number i : ℕ) → Unnumbered
put number i = record { kind = put_kind; session = session_of_item i; body = 12 ∷ demo_item number i ++ demo_label number i }

-- its Drop
abbrev pub drop : (number i : ℕ) → Unnumbered
drop number i = record { kind = drop_kind; session = session_of_item i; body = 12 ∷ demo_item number i }

-- an Ask with a query
abbrev pub asking : (session : ℕ) → (query : List ℕ) → Unnumbered
asking session query = record { kind = ask_kind; session = session; body = query }

-- the Repack of row 0
abbrev pub packing : Unnumbered
packing = record { kind = repack_kind; session = 6; body = 0 ∷ [] }

-- the requests of the rounds: items 0 to 299 are put ..
unfoldable pub first_round : (number : ℕ) → List Unnumbered
first_round number = run (put number) 0 1 300

-- .. items 300 to 399 are put and items 4, 12, 20, .., 292 dropped, between two asks ..
unfoldable pub second_round : (number : ℕ) → (first second : List ℕ) → List Unnumbered
second_round number first second = asking 5 first ∷ run (put number) 300 1 100 ++ run (drop number) 4 8 37 ++ packing ∷ asking 7 second ∷ []

-- .. and all is asked once more
unfoldable pub third_round : (third : List ℕ) → List Unnumbered
third_round third = asking 5 third ∷ []

-- three rounds, each with a Go frame behind it; their requests are numbered from 0 on, through all of them
unfoldable pub rounds_frames : (first second third : List Unnumbered) → List Frame
rounds_frames first second third =
    numbered 0 first ++ go_frame ∷ numbered (length first) second ++ go_frame ∷ numbered (length first + length second) third ++ go_frame ∷ []

-- the frames of the script with the bodies of three queries
abbrev pub script_frames : (number : ℕ) → (first second third : List ℕ) → List Frame
script_frames number first second third = rounds_frames (first_round number) (second_round number first second) (third_round third)

-- a body is the query of an ask for tags
abbrev pub IsAsked : (number ask : ℕ) → (tags : List (List ℕ)) → (body : List ℕ) → Type 0
IsAsked number ask tags body = IsQueryOf demo_parameters (demo_seed number ask) tags body

-- The frames are the script of the number; so the asked items have a placement.
pub record IsScript (number : ℕ) (frames : List Frame) : Type 0 where
  pub first : List ℕ
  pub second : List ℕ
  pub third : List ℕ
  pub first_asked : IsAsked number 0 (asked_tags number) first
  pub second_asked : IsAsked number 1 (asked_tags number) second
  pub third_asked : IsAsked number 2 (asked_tags number) third
  pub frames_are : frames ≡ script_frames number first second third

-- The bytes are the script of the number: so many whole request frames, and nothing else.
pub record IsScriptText (number : ℕ) (bytes : List ℕ) : Type 0 where
  pub frames : List Frame
  pub script : IsScript number frames
  pub text : bytes ≡ frames_bytes frames
  pub few_bytes : length bytes ≤ most_bytes
  pub whole : AreWholeFrames request_table bytes frames None
