-- The requests of a round: each fits the parameters, there are no more than frames, and few are Asks.
use Rattle.std.proofs.Common.{◌≡◌, ℕ, suc, ◌+◌, ◌-◌, ◌*◌, ◌<◌, ◌≤◌, Bool, true, false, not, ◌||◌, nat_eq, nat_lt, nat_le, List, [], ◌∷◌, ◌++◌, length, take, drop, slice_index, Option, None, Some, IfSome, refl, sym, ap, ◌∙◌, arith, append_assoc, if◌then◌else◌}
use Rattle.std.proofs.lemmas.Bool.{eqb-true, ltb-true, leb-false}
use Rattle.std.proofs.lemmas.List.{append-nil, length-take-le}
use Rattle.std.proofs.lemmas.List.Elements.{All-append, All-cons, All-nil, All-weaker}
use Rattle.std.proofs.lemmas.List.Sums.{sum_by-cons}
use Rattle.std.proofs.lemmas.List.FromFn.{length-map-range_with_len}
use Rattle.std.specs.List.{All, list_any}
use Rattle.psi_residue.specs.Parameters.{Parameters}
use Rattle.item_slots.specs.Tags.{tag_of}
use Rattle.psi_bundle.specs.Versions.{HasLabelLength, has_label_length}
use Rattle.query_codec.specs.declared.fault.CodecFault.{CodecFault}
use Rattle.query_codec.specs.declared.fault.CodecFault.TheVariants as faults
use Rattle.query_codec.specs.Ciphertexts.{ciphertext_in, ciphertexts_in}
use Rattle.query_codec.specs.Queries.{query_ciphertexts, query_fault, powers_of}
use Rattle.psi_frames.specs.declared.frame.Frame.{Frame}
use Rattle.psi_frames.specs.declared.request.Request.{Request}
use Rattle.psi_frames.specs.declared.request.Request.TheVariants as request
use Rattle.psi_frames.specs.Frames.{ask_kind, drop_kind, go_kind, put_kind}
use Rattle.psi_frames.specs.OneLane.{HasByteCode}
use Rattle.psi_frames.specs.Requests.{IsFit, ask_code, ask_request, asks_after, asks_behind, asks_of_round, code_of_fault, count_asks, counted, drop_code, drop_request, has_item, is_ask, item_of, put_label, put_code, put_request, repack_code, repack_request, request_of, requests_from, too_many_asks, unless_coded, wrong_label, wrong_length, wrong_row}
use Rattle.psi_frames.specs.Rounds.{IsRound, frames_of_round, is_full, is_go, request_rounds}
use Rattle.psi_frames.specs.Served.{requests_of}

-- a code that the bytes of a round decide
abbrev IsByteCode : ℕ → Type 0
IsByteCode code = (wrong_length ≤ code) × (code ≤ too_many_asks)

-- a request fits, where it does without its code
fit-unless : (p : Parameters) (o : Option ℕ) (f : Frame) (r : Request) → IfSome o IsByteCode → (o ≡ None → IsFit p r) → IsFit p (unless_coded o f r)
fit-unless p None f r few fits = fits refl
fit-unless p (Some code) f r few fits = few

-- the codes of each kind of frame
code-put : (item label : Bool) → IfSome (if not item then Some wrong_length else (if label then None else Some wrong_label)) IsByteCode
code-put false label = (omega arith, omega arith)
code-put true true = tt
code-put true false = (omega arith, omega arith)

code-drop : (whole : Bool) → IfSome (if whole then None else Some wrong_length) IsByteCode
code-drop true = tt
code-drop false = (omega arith, omega arith)

code-ask : (o : Option CodecFault) → IfSome (code_of_fault o) IsByteCode
code-ask None = tt
code-ask (Some (faults.Length want)) = (omega arith, omega arith)
code-ask (Some faults.WrongParams) = (omega arith, omega arith)
code-ask (Some (faults.Residue index)) = (omega arith, omega arith)
code-ask (Some faults.NoMemory) = tt

code-repack : (one row : Bool) → IfSome (if not one then Some wrong_length else (if row then None else Some wrong_row)) IsByteCode
code-repack false row = (omega arith, omega arith)
code-repack true true = tt
code-repack true false = (omega arith, omega arith)

-- what a frame without a code has
pub put-fits : (p : Parameters) (body : List ℕ) → put_code p body ≡ None → HasLabelLength p (put_label body)
put-fits p body e = by_item (has_item body) (has_label_length p (put_label body)) refl e where
  by_item : (item label : Bool) → has_label_length p (put_label body) ≡ label → (if not item then Some wrong_length else (if label then None else Some wrong_label)) ≡ None → HasLabelLength p (put_label body)
  by_item false label is e = absurd (cc)
  by_item true false is e = absurd (cc)
  by_item true true is e = eqb-true (length (put_label body)) (10 * p.units) is

ask-fits : (p : Parameters) (body : List ℕ) → length (query_ciphertexts p body) ≡ p.rows * p.capacity
unfolding query_ciphertexts ciphertexts_in
ask-fits p body = length-map-range_with_len (ciphertext_in (drop 8 body)) 0 (powers_of p)

repack-fits : (p : Parameters) (body : List ℕ) → repack_code p body ≡ None → slice_index body 0 < p.rows
repack-fits p body e = by_row (nat_eq (length body) 1) (nat_lt (slice_index body 0) p.rows) refl e where
  by_row : (one row : Bool) → nat_lt (slice_index body 0) p.rows ≡ row → (if not one then Some wrong_length else (if row then None else Some wrong_row)) ≡ None → slice_index body 0 < p.rows
  by_row false row is e = absurd (cc)
  by_row true false is e = absurd (cc)
  by_row true true is e = ltb-true (slice_index body 0) p.rows is

-- one of two requests
fit-chosen : (p : Parameters) (b : Bool) (r s : Request) → IsFit p r → IsFit p s → IsFit p (if b then r else s)
fit-chosen p true r s x y = x
fit-chosen p false r s x y = y

fit-request : (p : Parameters) (f : Frame) → IsFit p (request_of p f)
unfolding request_of
fit-request p f =
    let put : IsFit p (put_request p f) =
    fit-unless p (put_code p f.body) f (request.Put f.session f.number (tag_of (item_of f.body)) (put_label f.body)) (code-put (has_item f.body) (has_label_length p (put_label f.body))) (put-fits p f.body) in
    let drop : IsFit p (drop_request f) = fit-unless p (drop_code f.body) f (request.Drop f.session f.number (tag_of (item_of f.body))) (code-drop _) (λ _. tt) in
    let ask : IsFit p (ask_request p f) =
    fit-unless p (ask_code p f.body) f (request.Ask f.session f.number (query_ciphertexts p f.body)) (code-ask (query_fault p f.body)) (λ _. ask-fits p f.body) in
    let repack : IsFit p (repack_request p f) =
    fit-unless p (repack_code p f.body) f (request.Repack f.session f.number (slice_index f.body 0)) (code-repack (nat_eq (length f.body) 1) (nat_lt (slice_index f.body 0) p.rows)) (repack-fits p f.body) in
    fit-chosen p (nat_eq f.kind put_kind) (put_request p f) _ put
    (fit-chosen p (nat_eq f.kind drop_kind) (drop_request f) _ drop (fit-chosen p (nat_eq f.kind ask_kind) (ask_request p f) (repack_request p f) ask repack))

fit-counted : (p : Parameters) (asks : ℕ) (r : Request) → IsFit p r → IsFit p (counted asks r)
fit-counted p asks (request.Put session number tag label) fit = fit
fit-counted p asks (request.Drop session number tag) fit = fit
fit-counted p asks (request.Ask session number query) fit = fit-chosen p (nat_le asks_of_round asks) (request.Bad session number too_many_asks) (request.Ask session number query) (omega arith, omega arith) fit
fit-counted p asks (request.Repack session number row) fit = fit
fit-counted p asks (request.Bad session number code) fit = fit

-- the requests of a frame and of those behind it, where it is a Go frame or not
abbrev with_front : (go : Bool) → Parameters → (asks : ℕ) → Frame → List Frame → List Request
with_front go p asks f fs = if go then requests_from p asks fs else counted asks (request_of p f) ∷ requests_from p (asks_behind asks f) fs

-- all requests of some frames fit
fit-front : (go : Bool) (p : Parameters) (asks : ℕ) (f : Frame) (fs : List Frame) → All (IsFit p) (requests_from p asks fs) → All (IsFit p) (requests_from p (asks_behind asks f) fs)
    → All (IsFit p) (with_front go p asks f fs)
fit-front true p asks f fs same more = same
fit-front false p asks f fs same more = All-cons (IsFit p) (counted asks (request_of p f)) (requests_from p (asks_behind asks f) fs) (fit-counted p asks (request_of p f) (fit-request p f)) more

pub all-fit : (p : Parameters) (asks : ℕ) (fs : List Frame) → All (IsFit p) (requests_from p asks fs)
unfolding requests_from
all-fit p asks [] = All-nil (IsFit p)
all-fit p asks (f ∷ fs) = fit-front (nat_eq f.kind go_kind) p asks f fs (all-fit p asks fs) (all-fit p (asks_behind asks f) fs)

-- there are no more requests than frames
few-front : (go : Bool) (p : Parameters) (asks : ℕ) (f : Frame) (fs : List Frame) → length (requests_from p asks fs) ≤ length fs → length (requests_from p (asks_behind asks f) fs) ≤ length fs
    → length (with_front go p asks f fs) ≤ suc (length fs)
few-front true p asks f fs same more = omega (arith, same)
few-front false p asks f fs same more = omega (arith, more)

pub few-requests : (p : Parameters) (asks : ℕ) (fs : List Frame) → length (requests_from p asks fs) ≤ length fs
unfolding requests_from
few-requests p asks [] = omega arith
few-requests p asks (f ∷ fs) = few-front (nat_eq f.kind go_kind) p asks f fs (few-requests p asks fs) (few-requests p (asks_behind asks f) fs)

-- an Ask behind few Asks
ask-counted : (asks : ℕ) (r : Request) → is_ask (counted asks r) ≡ true → (asks < asks_of_round) × (is_ask r ≡ true)
ask-counted asks (request.Put session number tag label) e = absurd (cc)
ask-counted asks (request.Drop session number tag) e = absurd (cc)
ask-counted asks (request.Ask session number query) e = (leb-false asks_of_round asks (by_many (nat_le asks_of_round asks) e), refl) where
  by_many : (many : Bool) → is_ask (if many then request.Bad session number too_many_asks else request.Ask session number query) ≡ true → many ≡ false
  by_many true e = absurd (cc)
  by_many false e = refl
ask-counted asks (request.Repack session number row) e = absurd (cc)
ask-counted asks (request.Bad session number code) e = absurd (cc)

pub no_ask-unless : (o : Option ℕ) (f : Frame) (r : Request) → is_ask r ≡ false → is_ask (unless_coded o f r) ≡ false
no_ask-unless None f r e = e
no_ask-unless (Some code) f r e = refl

ask-kind : (p : Parameters) (f : Frame) → is_ask (request_of p f) ≡ true → f.kind ≡ ask_kind
unfolding request_of
ask-kind p f e = eqb-true f.kind ask_kind (by_kind (nat_eq f.kind put_kind) (nat_eq f.kind drop_kind) (nat_eq f.kind ask_kind) e) where
  by_kind : (put drop ask : Bool) → is_ask (if put then put_request p f else (if drop then drop_request f else (if ask then ask_request p f else repack_request p f))) ≡ true → ask ≡ true
  by_kind true drop ask e = let no = no_ask-unless (put_code p f.body) f (request.Put f.session f.number (tag_of (item_of f.body)) (put_label f.body)) refl in absurd (cc)
  by_kind false true ask e = let no = no_ask-unless (drop_code f.body) f (request.Drop f.session f.number (tag_of (item_of f.body))) refl in absurd (cc)
  by_kind false false true e = refl
  by_kind false false false e = let no = no_ask-unless (repack_code p f.body) f (request.Repack f.session f.number (slice_index f.body 0)) refl in absurd (cc)

-- the Asks behind a frame
asks-more : (asks : ℕ) (f : Frame) → asks ≤ asks_behind asks f
asks-more asks f = by_ask (nat_eq f.kind ask_kind) where
  by_ask : (ask : Bool) → asks ≤ (if ask then asks + 1 else asks)
  by_ask true = omega arith
  by_ask false = omega arith

asks-one_more : (asks : ℕ) (f : Frame) → f.kind ≡ ask_kind → asks_behind asks f ≡ asks + 1
asks-one_more asks f is = let test : nat_eq f.kind ask_kind ≡ true = ap (λ (k : ℕ). nat_eq k ask_kind) is in rw test refl

-- the Asks among a request and others
count-cons : (r : Request) (rs : List Request) (ask : Bool) → is_ask r ≡ ask → count_asks (r ∷ rs) ≡ (if ask then 1 else 0) + count_asks rs
count-cons r rs ask is = sum_by-cons (λ (x : Request). if is_ask x then 1 else 0) r rs ∙ ap (λ (b : Bool). (if b then 1 else 0) + count_asks rs) is

-- behind so many Asks of a round, no more than the others are Asks
ask-front : (ask : Bool) (p : Parameters) (asks : ℕ) (f : Frame) (fs : List Frame) → is_ask (counted asks (request_of p f)) ≡ ask
    → count_asks (requests_from p (asks_behind asks f) fs) ≤ asks_of_round - asks_behind asks f → count_asks (counted asks (request_of p f) ∷ requests_from p (asks_behind asks f) fs) ≤ asks_of_round - asks
ask-front true p asks f fs is more =
    let told = ask-counted asks (request_of p f) is in
    let one = asks-one_more asks f (ask-kind p f told.1) in
    let counted_one = count-cons (counted asks (request_of p f)) (requests_from p (asks_behind asks f) fs) true is in
    omega (arith, told.0, one, more, counted_one)
ask-front false p asks f fs is more =
    let grows = asks-more asks f in
    let counted_none = count-cons (counted asks (request_of p f)) (requests_from p (asks_behind asks f) fs) false is in
    omega (arith, grows, more, counted_none)

few-asks_front : (go : Bool) (p : Parameters) (asks : ℕ) (f : Frame) (fs : List Frame) → count_asks (requests_from p asks fs) ≤ asks_of_round - asks
    → count_asks (requests_from p (asks_behind asks f) fs) ≤ asks_of_round - asks_behind asks f → count_asks (with_front go p asks f fs) ≤ asks_of_round - asks
few-asks_front true p asks f fs same more = same
few-asks_front false p asks f fs same more = ask-front (is_ask (counted asks (request_of p f))) p asks f fs refl more

pub few-behind : (p : Parameters) (asks : ℕ) (fs : List Frame) → count_asks (requests_from p asks fs) ≤ asks_of_round - asks
unfolding requests_from
few-behind p asks [] = omega arith
few-behind p asks (f ∷ fs) = few-asks_front (nat_eq f.kind go_kind) p asks f fs (few-behind p asks fs) (few-behind p (asks_behind asks f) fs)

-- the requests of one frame, and those behind it
pub requests-one : (p : Parameters) (asks : ℕ) (f : Frame) (fs : List Frame) → requests_from p asks (f ∷ fs) ≡ requests_from p asks (f ∷ []) ++ requests_from p (asks_behind asks f) fs
unfolding requests_from
requests-one p asks f fs = by_go (nat_eq f.kind go_kind) refl where
  by_go : (go : Bool) → nat_eq f.kind go_kind ≡ go
      → (if go then requests_from p asks fs else counted asks (request_of p f) ∷ requests_from p (asks_behind asks f) fs)
      ≡ (if go then requests_from p asks [] else counted asks (request_of p f) ∷ requests_from p (asks_behind asks f) []) ++ requests_from p (asks_behind asks f) fs
  by_go true is =
      let other : nat_eq f.kind ask_kind ≡ false = ap (λ (k : ℕ). nat_eq k ask_kind) (eqb-true f.kind go_kind is) in
      rw other refl
  by_go false is = refl

-- the requests of some frames, and those of the frames behind them
pub requests-parts : (p : Parameters) (asks : ℕ) (front rest : List Frame) → requests_from p asks (front ++ rest) ≡ requests_from p asks front ++ requests_from p (asks_after asks front) rest
unfolding requests_from
requests-parts p asks [] rest = refl
requests-parts p asks (f ∷ fs) rest =
    requests-one p asks f (fs ++ rest) ∙ ap (λ (rs : List Request). requests_from p asks (f ∷ []) ++ rs) (requests-parts p (asks_behind asks f) fs rest)
    ∙ sym (append_assoc (requests_from p asks (f ∷ [])) (requests_from p (asks_behind asks f) fs) (requests_from p (asks_after (asks_behind asks f) fs) rest))
    ∙ ap (λ (rs : List Request). rs ++ requests_from p (asks_after (asks_behind asks f) fs) rest) (sym (requests-one p asks f fs))

-- a request that fits has no code of a full journal
pub fit-code : (p : Parameters) (r : Request) → IsFit p r → HasByteCode r
fit-code p (request.Put session number tag label) h code e = absurd (cc)
fit-code p (request.Drop session number tag) h code e = absurd (cc)
fit-code p (request.Ask session number query) h code e = absurd (cc)
fit-code p (request.Repack session number row) h code e = absurd (cc)
fit-code p (request.Bad session number own) h code e = let same : own ≡ code = cc in omega (arith, same, h.1)

-- so the requests of rounds of frames have no such code
pub codes-of : (p : Parameters) (rounds : List (List Frame)) → All HasByteCode (requests_of (request_rounds p rounds))
codes-of p [] = All-nil HasByteCode
codes-of p (round ∷ rounds) =
    let one = requests_from p 0 round in
    All-append HasByteCode one (requests_of (request_rounds p rounds)) (All-weaker (IsFit p) HasByteCode (fit-code p) one (all-fit p 0 round)) (codes-of p rounds)

-- frames that are not full are few
few-open : (fs : List Frame) → is_full fs ≡ false → length fs < frames_of_round
unfolding is_full
few-open fs short = leb-false frames_of_round (length fs) (by_number (list_any is_go fs) (nat_le frames_of_round (length fs)) _ short) where
  by_number : (go many long : Bool) → (go || (many || long)) ≡ false → many ≡ false
  by_number true many long e = absurd (cc)
  by_number false true long e = absurd (cc)
  by_number false false long e = refl

-- a round has at most 4096 frames
pub round-few : (fs : List Frame) → IsRound fs → length fs ≤ frames_of_round
round-few fs round =
    let some = round.some in
    let n = length fs - 1 in
    let few = few-open (take n fs) (round.first_full n (omega arith)) in
    omega (arith, few, length-take-le n fs (omega arith))

-- What was read and what is left are all requests of the frames.
pub record Reads (p : Parameters) (before asks : ℕ) (left : List Frame) (read : List Request) (frames : List Frame) : Type 0 where
  pub all : read ++ requests_from p asks left ≡ requests_from p before frames

pub reads-more : (p : Parameters) (before asks next : ℕ) (f : Frame) (rest frames : List Frame) (read new : List Request) → Reads p before asks (f ∷ rest) read frames
    → new ≡ read ++ requests_from p asks (f ∷ []) → next ≡ asks_behind asks f → Reads p before next rest new frames
reads-more p before asks next f rest frames read new was grown behind = record {
  all =
      (λ i. grown i ++ requests_from p (behind i) rest) ∙ append_assoc read (requests_from p asks (f ∷ [])) (requests_from p (asks_behind asks f) rest)
      ∙ ap (λ (t : List Request). read ++ t) (sym (requests-one p asks f rest)) ∙ was.all;
}

pub reads-first : (p : Parameters) (before : ℕ) (frames : List Frame) (read : List Request) → read ≡ [] → Reads p before before frames read frames
reads-first p before frames read none = record { all = ap (λ (t : List Request). t ++ requests_from p before frames) none }

pub reads-all : (p : Parameters) (before asks : ℕ) (left : List Frame) (read : List Request) (all frames : List Frame) → Reads p before asks left read all → left ≡ [] → all ≡ frames
    → read ≡ requests_from p before frames
unfolding requests_from
reads-all p before asks left read all frames was none given =
    sym (append-nil read) ∙ ap (λ (fs : List Frame). read ++ requests_from p asks fs) (sym none) ∙ was.all ∙ ap (requests_from p before) given
