-- What requests ask of a set: a label of the set's length, and tags and labels of bytes.
use Rattle.std.proofs.Common.{◌≡◌, ℕ, ◌+◌, ◌<◌, nat_eq, List, [], ◌∷◌, ◌++◌, Option, None, Some, refl, sym, subst, arith, inl, inr, get_or-drop, drop, length, nat_le}
use Rattle.std.specs.List.{All, AllByRecursion, flat_map}
use Rattle.std.proofs.lemmas.Bool.{cases_Bool, cases_lt}
use Rattle.std.proofs.lemmas.Bool.Decides.{nat_tests}
use Rattle.std.proofs.lemmas.List.{get_or_past}
use Rattle.std.proofs.lemmas.List.Elements.{All-head, All-tail}
use Rattle.psi_residue.specs.Parameters.{Parameters}
use Rattle.item_slots.specs.Tags.{tag_of}
use Rattle.psi_bundle.specs.declared.history.Call.{Call}
use Rattle.psi_bundle.specs.Histories.{AreBytes, HasBytes, IsFitting}
use Rattle.psi_bundle.specs.Versions.{HasLabelLength, has_label_length}
use Rattle.psi_frames.specs.declared.frame.Frame.{Frame}
use Rattle.psi_frames.specs.declared.request.Request.{Request}
use Rattle.psi_frames.specs.declared.request.Request.TheVariants as request
use Rattle.psi_frames.specs.Frames.{IsFrame, IsSpellable, ask_kind, drop_kind, go_kind, put_kind, request_table}
use Rattle.psi_frames.specs.Requests.{ask_code, ask_request, asks_behind, asks_of_round, call_of, counted, drop_code, drop_request, has_item, item_end, item_of, put_label, put_code, put_request, repack_code, repack_request, request_of, requests_from, unless_coded}
use Rattle.psi_frames.specs.Rounds.{request_rounds}
use Rattle.psi_frames.specs.Served.{requests_of}
use Rattle.psi_frames.proofs.Each.{each-append}
use Rattle.psi_frames.proofs.RoundRequests.{put-fits}
use Rattle.psi_receiver.proofs.TagBytes.{tag_of-bytes}

-- a request whose call a set of these parameters takes, with a tag and a label of bytes
abbrev pub IsTaken : Parameters → Request → Type 0
IsTaken p (request.Put session number tag label) = HasLabelLength p label × AreBytes tag × AreBytes label
IsTaken p (request.Drop session number tag) = AreBytes tag
IsTaken p (request.Ask session number query) = Unit {0}
IsTaken p (request.Repack session number row) = Unit {0}
IsTaken p (request.Bad session number code) = Unit {0}

-- a call, if there is one, fits and has bytes
abbrev option_call : Parameters → Option Call → Type 0
option_call p None = Unit {0}
option_call p (Some c) = IsFitting p c × HasBytes c

-- its call
pub taken-call : (p : Parameters) (r : Request) (from : ℕ) (c : Call) → IsTaken p r → call_of r from ≡ Some c → IsFitting p c × HasBytes c
taken-call p (request.Put session number tag label) from c h e = subst (λ (o : Option Call). option_call p o) e (h.0, (h.1, h.2))
taken-call p (request.Drop session number tag) from c h e = subst (λ (o : Option Call). option_call p o) e (tt, h)
taken-call p (request.Ask session number query) from c h e = subst (λ (o : Option Call). option_call p o) e (tt, tt)
taken-call p (request.Repack session number row) from c h e = subst (λ (o : Option Call). option_call p o) e (tt, tt)
taken-call p (request.Bad session number code) from c h e = absurd (cc)

-- unless a request has a code
unless : (p : Parameters) (o : Option ℕ) (f : Frame) (r : Request) → (o ≡ None → IsTaken p r) → IsTaken p (unless_coded o f r)
unless p None f r h = h refl
unless p (Some code) f r h = tt

-- bytes behind others are bytes
bytes-behind : (n : ℕ) (body : List ℕ) → AreBytes body → AreBytes (drop n body)
bytes-behind n body h i = subst (λ (b : ℕ). b < 256) (sym (get_or-drop n body i 0)) (h (n + i))

put-taken : (p : Parameters) (f : Frame) → AreBytes f.body → IsTaken p (put_request p f)
put-taken p f h = unless p (put_code p f.body) f (request.Put f.session f.number (tag_of (item_of f.body)) (put_label f.body))
    (λ none. (put-fits p f.body none, tag_of-bytes (item_of f.body), bytes-behind (item_end f.body) f.body h))

drop-taken : (p : Parameters) (f : Frame) → IsTaken p (drop_request f)
drop-taken p f = unless p (drop_code f.body) f (request.Drop f.session f.number (tag_of (item_of f.body))) (λ none. tag_of-bytes (item_of f.body))

ask-taken : (p : Parameters) (f : Frame) → IsTaken p (ask_request p f)
ask-taken p f = unless p (ask_code p f.body) f _ (λ none. tt)

repack-taken : (p : Parameters) (f : Frame) → IsTaken p (repack_request p f)
repack-taken p f = unless p (repack_code p f.body) f _ (λ none. tt)

request-taken : (p : Parameters) (f : Frame) → AreBytes f.body → IsTaken p (request_of p f)
unfolding request_of
request-taken p f h = elim (cases_Bool (nat_eq f.kind put_kind)) [
  | inl put ↦ rw put (put-taken p f h)
  | inr no_put ↦ elim (cases_Bool (nat_eq f.kind drop_kind)) [
    | inl drop ↦ rw (no_put, drop) (drop-taken p f)
    | inr no_drop ↦ elim (cases_Bool (nat_eq f.kind ask_kind)) [
      | inl ask ↦ rw (no_put, no_drop, ask) (ask-taken p f)
      | inr no_ask ↦ rw (no_put, no_drop, no_ask) (repack-taken p f)
    ]
  ]
]

counted-taken : (p : Parameters) (asks : ℕ) (r : Request) → IsTaken p r → IsTaken p (counted asks r)
counted-taken p asks (request.Ask session number query) h = elim (cases_Bool (nat_le asks_of_round asks)) [
  | inl many ↦ rw many tt
  | inr few ↦ rw few tt
]
counted-taken p asks (request.Put session number tag label) h = h
counted-taken p asks (request.Drop session number tag) h = h
counted-taken p asks (request.Repack session number row) h = h
counted-taken p asks (request.Bad session number code) h = h

-- the requests of a round's frames
requests-taken : (p : Parameters) (asks : ℕ) (fs : List Frame) → AllByRecursion (λ f. AreBytes f.body) fs → AllByRecursion (IsTaken p) (requests_from p asks fs)
unfolding requests_from
requests-taken p asks [] h = tt
requests-taken p asks (f ∷ fs) h = elim (cases_Bool (nat_eq f.kind go_kind)) [
  | inl go ↦ rw go (requests-taken p asks fs h.1)
  | inr no_go ↦ rw no_go (counted-taken p asks (request_of p f) (request-taken p f h.0), requests-taken p (asks_behind asks f) fs h.1)
]

front-each : {X : Type 0} (P : X → Type 0) (xs ys : List X) → AllByRecursion P (xs ++ ys) → AllByRecursion P xs × AllByRecursion P ys
front-each P [] ys h = (tt, h)
front-each P (x ∷ xs) ys h = let rest = front-each P xs ys h.1 in ((h.0, rest.0), rest.1)

-- and of rounds of frames
rounds-taken_by : (p : Parameters) (rounds : List (List Frame)) → AllByRecursion (λ f. AreBytes f.body) (flat_map (λ round. round) rounds) → AllByRecursion (IsTaken p) (requests_of (request_rounds p rounds))
rounds-taken_by p [] h = tt
rounds-taken_by p (round ∷ rounds) h =
    let parts = front-each (λ f. AreBytes f.body) round (flat_map (λ r. r) rounds) h in
    each-append (IsTaken p) (requests_from p 0 round) (requests_of (request_rounds p rounds)) (requests-taken p 0 round parts.0) (rounds-taken_by p rounds parts.1)

-- a byte of a frame's body, and 0 behind its end
body_byte : (f : Frame) → IsSpellable f → AreBytes f.body
body_byte f s i = elim (cases_lt i (length f.body)) [
  | inl lt ↦ s.body i 0 lt
  | inr ge ↦ omega (arith, get_or_past f.body i 0 ge)
]

-- the bodies of frames are bytes
bodies : (fs : List Frame) → All (IsFrame request_table) fs → AllByRecursion (λ f. AreBytes f.body) fs
bodies [] h = tt
bodies (f ∷ fs) h = (
  (λ i. body_byte f (All-head (IsFrame request_table) f fs h).spellable i),
  bodies fs (All-tail (IsFrame request_table) f fs h),
)

pub rounds-taken : (p : Parameters) (frames : List Frame) (rounds : List (List Frame)) → All (IsFrame request_table) frames → frames ≡ flat_map (λ round. round) rounds → AllByRecursion (IsTaken p) (requests_of (request_rounds p rounds))
rounds-taken p frames rounds each all = rounds-taken_by p rounds (subst (AllByRecursion (λ f. AreBytes f.body)) all (bodies frames each))
