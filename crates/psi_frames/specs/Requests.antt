-- Requests as values: what a request frame asks, or the code of a refusal that its bytes alone decide (the codes are this project's own).
use Rattle.std.specs.Prelude.{◌≡◌, ℕ, ◌+◌, ◌*◌, ◌≤◌, ◌<◌, ⊤, Bool, true, false, ◌&&◌, not, nat_eq, nat_lt, nat_le, count_by, List, [], ◌∷◌, length, take, drop, slice_index, Option, None, Some, if◌then◌else◌}
use Rattle.std.specs.List.{fold}
use Rattle.psi_residue.specs.Parameters.{Parameters}
use Rattle.item_slots.specs.Tags.{tag_of}
use Rattle.psi_bundle.specs.Versions.{HasLabelLength, has_label_length}
use Rattle.psi_bundle.specs.declared.history.Call.{Call}
use Rattle.psi_bundle.specs.declared.history.Call.TheVariants as call
use Rattle.query_codec.specs.declared.fault.CodecFault.{CodecFault}
use Rattle.query_codec.specs.declared.fault.CodecFault.TheVariants as faults
use Rattle.query_codec.specs.Queries.{query_fault, query_ciphertexts}
use Rattle.psi_frames.specs.declared.frame.Frame.{Frame}
use Rattle.psi_frames.specs.declared.request.Request.{Request}
use Rattle.psi_frames.specs.declared.request.Request.TheVariants as request
use Rattle.psi_frames.specs.Frames.{put_kind, drop_kind, ask_kind, go_kind}

-- the codes: of a wrong length, a residue that is none, other parameters, a label of another length, a row that is none, a query too many in its round, and a full journal
abbrev pub wrong_length : ℕ
wrong_length = 1

abbrev pub wrong_residue : ℕ
wrong_residue = 2

abbrev pub wrong_parameters : ℕ
wrong_parameters = 3

abbrev pub wrong_label : ℕ
wrong_label = 4

abbrev pub wrong_row : ℕ
wrong_row = 5

abbrev pub too_many_asks : ℕ
too_many_asks = 6

abbrev pub journal_full : ℕ
journal_full = 7

-- queries that one round answers
abbrev pub asks_of_round : ℕ
asks_of_round = 32

-- the item of a Put or Drop: a byte m, then m bytes
abbrev pub item_end : List ℕ → ℕ
item_end body = 1 + slice_index body 0

abbrev pub item_of : List ℕ → List ℕ
item_of body = take (slice_index body 0) (drop 1 body)

abbrev pub has_item : List ℕ → Bool
has_item body = nat_lt 0 (length body) && nat_le (item_end body) (length body)

-- what follows the item of a Put
abbrev pub put_label : List ℕ → List ℕ
put_label body = drop (item_end body) body

-- the code of a Put, by its body, if it has one
abbrev pub put_code : Parameters → List ℕ → Option ℕ
put_code p body = if not (has_item body) then Some wrong_length else (if has_label_length p (put_label body) then None else Some wrong_label)

abbrev pub drop_code : List ℕ → Option ℕ
drop_code body = if has_item body && nat_eq (length body) (item_end body) then None else Some wrong_length

-- the code of a query's fault; want of memory is none of its body
abbrev pub code_of_fault : Option CodecFault → Option ℕ
code_of_fault (Some (faults.Length want)) = Some wrong_length
code_of_fault (Some faults.WrongParams) = Some wrong_parameters
code_of_fault (Some (faults.Residue index)) = Some wrong_residue
code_of_fault (Some faults.NoMemory) = None
code_of_fault None = None

abbrev pub ask_code : Parameters → List ℕ → Option ℕ
ask_code p body = code_of_fault (query_fault p body)

abbrev pub repack_code : Parameters → List ℕ → Option ℕ
repack_code p body = if not (nat_eq (length body) 1) then Some wrong_length else (if nat_lt (slice_index body 0) p.rows then None else Some wrong_row)

-- a request, unless it has a code
abbrev pub unless_coded : Option ℕ → Frame → Request → Request
unless_coded None f r = r
unless_coded (Some code) f r = request.Bad f.session f.number code

-- what a frame of each kind asks
abbrev pub put_request : Parameters → Frame → Request
put_request p f = unless_coded (put_code p f.body) f (request.Put f.session f.number (tag_of (item_of f.body)) (put_label f.body))

abbrev pub drop_request : Frame → Request
drop_request f = unless_coded (drop_code f.body) f (request.Drop f.session f.number (tag_of (item_of f.body)))

abbrev pub ask_request : Parameters → Frame → Request
ask_request p f = unless_coded (ask_code p f.body) f (request.Ask f.session f.number (query_ciphertexts p f.body))

abbrev pub repack_request : Parameters → Frame → Request
repack_request p f = unless_coded (repack_code p f.body) f (request.Repack f.session f.number (slice_index f.body 0))

-- the request of a frame that is no Go frame, by its bytes alone
unfoldable pub request_of : Parameters → Frame → Request
request_of p f =
    if nat_eq f.kind put_kind then put_request p f
    else (if nat_eq f.kind drop_kind then drop_request f else (if nat_eq f.kind ask_kind then ask_request p f else repack_request p f))

-- the request behind so many Asks of its round: one Ask too many has a code of its own
abbrev pub counted : ℕ → Request → Request
counted asks (request.Ask session number query) = if nat_le asks_of_round asks then request.Bad session number too_many_asks else request.Ask session number query
counted asks (request.Put session number tag label) = request.Put session number tag label
counted asks (request.Drop session number tag) = request.Drop session number tag
counted asks (request.Repack session number row) = request.Repack session number row
counted asks (request.Bad session number code) = request.Bad session number code

-- the Asks behind one frame more
abbrev pub asks_behind : ℕ → Frame → ℕ
asks_behind asks f = if nat_eq f.kind ask_kind then asks + 1 else asks

-- the Asks behind some frames more
abbrev pub asks_after : ℕ → List Frame → ℕ
asks_after asks fs = fold asks_behind asks fs

-- the requests of a round's frames, behind so many Asks of the round; a Go frame is none
unfoldable pub requests_from : Parameters → (asks : ℕ) → List Frame → List Request
requests_from p asks [] = []
requests_from p asks (f ∷ fs) =
    if nat_eq f.kind go_kind then requests_from p asks fs else counted asks (request_of p f) ∷ requests_from p (asks_behind asks f) fs

-- the session of a request
abbrev pub session_of : Request → ℕ
session_of (request.Put session number tag label) = session
session_of (request.Drop session number tag) = session
session_of (request.Ask session number query) = session
session_of (request.Repack session number row) = session
session_of (request.Bad session number code) = session

-- its number
abbrev pub number_of : Request → ℕ
number_of (request.Put session number tag label) = number
number_of (request.Drop session number tag) = number
number_of (request.Ask session number query) = number
number_of (request.Repack session number row) = number
number_of (request.Bad session number code) = number

-- its code, if it has one
abbrev pub code_of : Request → Option ℕ
code_of (request.Bad session number code) = Some code
code_of (request.Put session number tag label) = None
code_of (request.Drop session number tag) = None
code_of (request.Ask session number query) = None
code_of (request.Repack session number row) = None

-- the call of a request without a code; a Repack takes this `from`
abbrev pub call_of : Request → ℕ → Option Call
call_of (request.Put session number tag label) from = Some (call.Put tag label)
call_of (request.Drop session number tag) from = Some (call.Drop tag)
call_of (request.Ask session number query) from = Some call.Ask
call_of (request.Repack session number row) from = Some (call.Repack row from)
call_of (request.Bad session number code) from = None

-- the ciphertexts of a query; of another request none
abbrev pub asked_ciphertexts : Request → List (List (List ℕ))
asked_ciphertexts (request.Ask session number query) = query
asked_ciphertexts (request.Put session number tag label) = []
asked_ciphertexts (request.Drop session number tag) = []
asked_ciphertexts (request.Repack session number row) = []
asked_ciphertexts (request.Bad session number code) = []

-- a Repack
abbrev pub is_repack : Request → Bool
is_repack (request.Repack session number row) = true
is_repack (request.Put session number tag label) = false
is_repack (request.Drop session number tag) = false
is_repack (request.Ask session number query) = false
is_repack (request.Bad session number code) = false

-- an Ask
abbrev pub is_ask : Request → Bool
is_ask (request.Ask session number query) = true
is_ask (request.Put session number tag label) = false
is_ask (request.Drop session number tag) = false
is_ask (request.Repack session number row) = false
is_ask (request.Bad session number code) = false

-- the Asks among some requests
abbrev pub count_asks : List Request → ℕ
count_asks rs = count_by is_ask rs

-- A request that fits the parameters: a label has the set's length, a query a ciphertext for each row and power, a row to pack anew is
-- one of the set's, and a refusal has a code that the bytes of a round decide.
abbrev pub IsFit : Parameters → Request → Type 0
IsFit p (request.Put session number tag label) = HasLabelLength p label
IsFit p (request.Drop session number tag) = ⊤
IsFit p (request.Ask session number query) = length query ≡ p.rows * p.capacity
IsFit p (request.Repack session number row) = row < p.rows
IsFit p (request.Bad session number code) = (wrong_length ≤ code) × (code ≤ too_many_asks)
