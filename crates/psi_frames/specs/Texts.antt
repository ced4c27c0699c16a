-- The addresses of requests, and their replies with them.
use Rattle.std.specs.Prelude.{ℕ, List, map, min}
use Rattle.std.specs.List.{sum_by, zip}
use Rattle.psi_frames.specs.declared.reply.Reply.{Reply}
use Rattle.psi_frames.specs.declared.request.Request.{Request}
use Rattle.psi_frames.specs.declared.texts.Address.{Address}
use Rattle.psi_frames.specs.Frames.{reply_length}
use Rattle.psi_frames.specs.Requests.{number_of, session_of}
use Rattle.psi_frames.specs.RoundSizes.{most_counted}
use Rattle.psi_frames.specs.Served.{Sent}

-- the session and the number of a request
abbrev pub address_of : Request → Address
address_of r = record { session = session_of r; number = number_of r }

-- replies with these addresses, as they are sent
unfoldable pub sent_to : List Address → List Reply → List Sent
sent_to addresses replies = map (λ e. record { session = e.0.session; number = e.0.number; reply = e.1 }) (zip addresses replies)

-- the bytes that their text has, as far as they are counted
abbrev pub room_of : List Reply → ℕ
room_of replies = min (sum_by reply_length replies) most_counted
