-- How many requests a script has, and how many of them are asks.
use Rattle.std.proofs.Common.{◌≡◌, ℕ, ◌+◌, ◌*◌, ◌≤◌, Bool, true, false, cond, not, nat_eq, List, [], ◌∷◌, ◌++◌, length, map, slice_index, count_by, refl, sym, ap, ◌∙◌, arith, length-append, if◌then◌else◌}
use Rattle.std.specs.List.{flat_map, range_with_len}
use Rattle.std.proofs.lemmas.List.Sums.{count_by-le-length, sum_by-append, sum_by-cons}
use Rattle.psi_residue.specs.Parameters.{Parameters}
use Rattle.item_slots.specs.Tags.{tag_of}
use Rattle.psi_frames.specs.declared.frame.Frame.{Frame}
use Rattle.psi_frames.specs.declared.request.Request.{Request}
use Rattle.psi_frames.specs.declared.request.Request.TheVariants as request
use Rattle.psi_frames.specs.Frames.{ask_kind, drop_kind, go_kind, put_kind}
use Rattle.psi_frames.specs.Requests.{ask_request, asks_behind, count_asks, counted, drop_code, drop_request, is_ask, item_of, put_label, put_code, put_request, repack_code, repack_request, request_of, requests_from}
use Rattle.psi_frames.specs.Rounds.{request_rounds}
use Rattle.psi_frames.specs.Served.{requests_of}
use Rattle.psi_frames.proofs.RoundRequests.{no_ask-unless}
use Rattle.psi_demo.specs.Items.{demo_parameters, run}
use Rattle.psi_demo.specs.Laws.{ScriptsAskThrice}
use Rattle.psi_demo.specs.Scripts.{Unnumbered, asking, drop, first_round, go_frame, numbered, numbered_frame, packing, put, rounds_frames, second_round, third_round}
use Rattle.psi_demo.proofs.Numbering.{length-numbered}
use Rattle.psi_demo.proofs.ScriptFrames.{length-first, length-second, length-third}

-- a frame that is a request, and one that is an ask
is_request : Frame → Bool
is_request f = not (nat_eq f.kind go_kind)

is_asking : Frame → Bool
is_asking f = nat_eq f.kind ask_kind

-- ---- requests from frames

ask-counted : (asks : ℕ) (r : Request) → is_ask (counted asks r) ≡ true → is_ask r ≡ true
ask-counted asks (request.Put session number tag label) e = absurd (cc)
ask-counted asks (request.Drop session number tag) e = absurd (cc)
ask-counted asks (request.Ask session number query) e = refl
ask-counted asks (request.Repack session number row) e = absurd (cc)
ask-counted asks (request.Bad session number code) e = absurd (cc)

ask-kind : (p : Parameters) (f : Frame) → is_ask (request_of p f) ≡ true → nat_eq f.kind ask_kind ≡ true
unfolding request_of
ask-kind p f e = by_kind (nat_eq f.kind put_kind) (nat_eq f.kind drop_kind) (nat_eq f.kind ask_kind) e where
  by_kind : (put drop ask : Bool) → is_ask (if put then put_request p f else (if drop then drop_request f else (if ask then ask_request p f else repack_request p f))) ≡ true → ask ≡ true
  by_kind true drop ask e = let no = no_ask-unless (put_code p f.body) f (request.Put f.session f.number (tag_of (item_of f.body)) (put_label f.body)) refl in absurd (cc)
  by_kind false true ask e = let no = no_ask-unless (drop_code f.body) f (request.Drop f.session f.number (tag_of (item_of f.body))) refl in absurd (cc)
  by_kind false false true e = refl
  by_kind false false false e = let no = no_ask-unless (repack_code p f.body) f (request.Repack f.session f.number (slice_index f.body 0)) refl in absurd (cc)

-- one request more, of a frame that may be an ask
ask-one : (p : Parameters) (asks : ℕ) (f : Frame) → cond (is_ask (counted asks (request_of p f))) 1 0 ≤ cond (is_asking f) 1 0
unfolding is_asking
ask-one p asks f = by_ask (is_ask (counted asks (request_of p f))) refl where
  by_ask : (ask : Bool) → is_ask (counted asks (request_of p f)) ≡ ask → cond ask 1 0 ≤ cond (nat_eq f.kind ask_kind) 1 0
  by_ask true is = let kind = ask-kind p f (ask-counted asks (request_of p f) is) in rw kind (omega arith)
  by_ask false is = omega arith

few-requests : (p : Parameters) (asks : ℕ) (fs : List Frame) → length (requests_from p asks fs) ≤ count_by is_request fs
unfolding requests_from is_request
few-requests p asks [] = omega arith
few-requests p asks (f ∷ fs) =
    let split : count_by is_request (f ∷ fs) ≡ cond (is_request f) 1 0 + count_by is_request fs = sum_by-cons (λ (g : Frame). cond (is_request g) 1 0) f fs in
    by_go (nat_eq f.kind go_kind) (count_by is_request (f ∷ fs)) (count_by is_request fs) split (few-requests p asks fs) (few-requests p (asks_behind asks f) fs)
  where
    by_go : (go : Bool) (all rest : ℕ) → all ≡ cond (not go) 1 0 + rest → length (requests_from p asks fs) ≤ rest → length (requests_from p (asks_behind asks f) fs) ≤ rest
        → length (if go then requests_from p asks fs else counted asks (request_of p f) ∷ requests_from p (asks_behind asks f) fs) ≤ all
    by_go true all rest is same more = omega (arith, is, same)
    by_go false all rest is same more = omega (arith, is, more)

few-asks : (p : Parameters) (asks : ℕ) (fs : List Frame) → count_asks (requests_from p asks fs) ≤ count_by is_asking fs
unfolding requests_from
few-asks p asks [] = omega arith
few-asks p asks (f ∷ fs) =
    let split : count_by is_asking (f ∷ fs) ≡ cond (is_asking f) 1 0 + count_by is_asking fs = sum_by-cons (λ (g : Frame). cond (is_asking g) 1 0) f fs in
    by_go (nat_eq f.kind go_kind) (count_by is_asking (f ∷ fs)) (count_by is_asking fs) (cond (is_asking f) 1 0) split (ask-one p asks f) (few-asks p asks fs) (few-asks p (asks_behind asks f) fs)
  where
    by_go : (go : Bool) (all rest own : ℕ) → all ≡ own + rest → cond (is_ask (counted asks (request_of p f))) 1 0 ≤ own → count_asks (requests_from p asks fs) ≤ rest → count_asks (requests_from p (asks_behind asks f) fs) ≤ rest
        → count_asks (if go then requests_from p asks fs else counted asks (request_of p f) ∷ requests_from p (asks_behind asks f) fs) ≤ all
    by_go true all rest own is one same more = omega (arith, is, same)
    by_go false all rest own is one same more =
        let first : count_asks (counted asks (request_of p f) ∷ requests_from p (asks_behind asks f) fs) ≡ cond (is_ask (counted asks (request_of p f))) 1 0 + count_asks (requests_from p (asks_behind asks f) fs) =
        sum_by-cons (λ (r : Request). cond (is_ask r) 1 0) (counted asks (request_of p f)) (requests_from p (asks_behind asks f) fs) in
        omega (arith, is, one, more, first)

-- ---- of rounds

few-requests_rounds : (p : Parameters) (rounds : List (List Frame)) → length (requests_of (request_rounds p rounds)) ≤ count_by is_request (flat_map (λ round. round) rounds)
few-requests_rounds p [] = omega arith
few-requests_rounds p (round ∷ rounds) =
    let here = few-requests p 0 round in
    let more = few-requests_rounds p rounds in
    let parts = length-append (requests_from p 0 round) (requests_of (request_rounds p rounds)) in
    let split : count_by is_request (round ++ flat_map (λ r. r) rounds) ≡ count_by is_request round + count_by is_request (flat_map (λ r. r) rounds) = sum_by-append (λ (g : Frame). cond (is_request g) 1 0) round (flat_map (λ r. r) rounds) in
    omega (arith, here, more, parts, split)

few-asks_rounds : (p : Parameters) (rounds : List (List Frame)) → count_asks (requests_of (request_rounds p rounds)) ≤ count_by is_asking (flat_map (λ round. round) rounds)
few-asks_rounds p [] = omega arith
few-asks_rounds p (round ∷ rounds) =
    let here = few-asks p 0 round in
    let more = few-asks_rounds p rounds in
    let parts : count_asks (requests_from p 0 round ++ requests_of (request_rounds p rounds)) ≡ count_asks (requests_from p 0 round) + count_asks (requests_of (request_rounds p rounds)) =
    sum_by-append (λ (r : Request). cond (is_ask r) 1 0) (requests_from p 0 round) (requests_of (request_rounds p rounds)) in
    let split : count_by is_asking (round ++ flat_map (λ r. r) rounds) ≡ count_by is_asking round + count_by is_asking (flat_map (λ r. r) rounds) = sum_by-append (λ (g : Frame). cond (is_asking g) 1 0) round (flat_map (λ r. r) rounds) in
    omega (arith, here, more, parts, split)

-- ---- of the script

is_ask_of : Unnumbered → Bool
is_ask_of r = nat_eq r.kind ask_kind

count-numbered : (n : ℕ) (rs : List Unnumbered) → count_by is_asking (numbered n rs) ≡ count_by is_ask_of rs
unfolding numbered is_asking is_ask_of
count-numbered n [] = refl
count-numbered n (r ∷ rs) =
    sum_by-cons (λ (g : Frame). cond (is_asking g) 1 0) (numbered_frame n r) (numbered (n + 1) rs) ∙ ap (λ (k : ℕ). cond (is_ask_of r) 1 0 + k) (count-numbered (n + 1) rs) ∙ sym (sum_by-cons (λ (q : Unnumbered). cond (is_ask_of q) 1 0) r rs)

count-none : (f : ℕ → Unnumbered) → ((k : ℕ) → is_ask_of (f k) ≡ false) → (ks : List ℕ) → count_by is_ask_of (map f ks) ≡ 0
count-none f none [] = refl
count-none f none (k ∷ ks) =
    let more = count-none f none ks in
    let own : cond {A = ℕ} (is_ask_of (f k)) 1 0 ≡ 0 = ap (λ (b : Bool). cond {A = ℕ} b 1 0) (none k) in
    let split : count_by is_ask_of (f k ∷ map f ks) ≡ cond (is_ask_of (f k)) 1 0 + count_by is_ask_of (map f ks) = sum_by-cons (λ (q : Unnumbered). cond (is_ask_of q) 1 0) (f k) (map f ks) in
    omega (arith, more, own, split)

none-puts : (number first step n : ℕ) → count_by is_ask_of (run (put number) first step n) ≡ 0
unfolding is_ask_of
none-puts number first step n = count-none (λ (k : ℕ). put number (first + step * k)) (λ k. refl) (range_with_len 0 n)

none-drops : (number first step n : ℕ) → count_by is_ask_of (run (drop number) first step n) ≡ 0
unfolding is_ask_of
none-drops number first step n = count-none (λ (k : ℕ). drop number (first + step * k)) (λ k. refl) (range_with_len 0 n)

asks : List Unnumbered → ℕ
asks rs = count_by is_ask_of rs

asks-append : (xs ys : List Unnumbered) → asks (xs ++ ys) ≡ asks xs + asks ys
unfolding asks
asks-append xs ys = sum_by-append (λ (q : Unnumbered). cond (is_ask_of q) 1 0) xs ys

asks-cons : (x : Unnumbered) (xs : List Unnumbered) → asks (x ∷ xs) ≡ cond (is_ask_of x) 1 0 + asks xs
unfolding asks
asks-cons x xs = sum_by-cons (λ (q : Unnumbered). cond (is_ask_of q) 1 0) x xs

asks-first : (number : ℕ) → asks (first_round number) ≡ 0
unfolding first_round asks
asks-first number = none-puts number 0 1 300

asks-second : (number : ℕ) (first second : List ℕ) → asks (second_round number first second) ≡ 2
unfolding second_round asks is_ask_of
asks-second number first second =
    let puts = run (put number) 300 1 100 in
    let drops = run (drop number) 4 8 37 in
    let end = packing ∷ asking 7 second ∷ [] in
    let e : asks end ≡ 1 = refl in
    omega (arith, asks-append ((asking 5 first ∷ puts) ++ drops) end, asks-append (asking 5 first ∷ puts) drops, asks-cons (asking 5 first) puts, none-puts number 300 1 100, none-drops number 4 8 37, e)

asks-third : (third : List ℕ) → asks (third_round third) ≡ 1
unfolding third_round asks is_ask_of
asks-third third = refl

-- the frames of three rounds
module _ (q : Frame → Bool) where
  counted-go : (xs ys : List Frame) → q go_frame ≡ false → count_by q (xs ++ go_frame ∷ ys) ≡ count_by q xs + count_by q ys
  counted-go xs ys none =
      let one : Frame → ℕ = λ g. cond (q g) 1 0 in
      sum_by-append one xs (go_frame ∷ ys) ∙ ap (λ (k : ℕ). count_by q xs + k) (sum_by-cons one go_frame ys ∙ ap (λ (b : Bool). cond b 1 0 + count_by q ys) none) ∙ omega arith

  pub counted-rounds : (first second third : List Unnumbered) → q go_frame ≡ false
      → count_by q (rounds_frames first second third) ≡ count_by q (numbered 0 first) + count_by q (numbered (length first) second) + count_by q (numbered (length first + length second) third)
  unfolding rounds_frames
  counted-rounds first second third none =
      let f1 = numbered 0 first in
      let f2 = numbered (length first) second in
      let f3 = numbered (length first + length second) third in
      let a = counted-go f1 f2 none in
      let b = counted-go (f1 ++ go_frame ∷ f2) f3 none in
      let c = counted-go ((f1 ++ go_frame ∷ f2) ++ go_frame ∷ f3) [] none in
      let d : count_by q [] ≡ 0 = refl in
      omega (arith, a, b, c, d)

pub asks-thrice : ScriptsAskThrice
unfolding asks is_request is_asking
asks-thrice number frames more rounds script front =
    let p = demo_parameters in
    let all = flat_map (λ round. round) rounds in
    let r1 = first_round number in
    let r2 = second_round number script.first script.second in
    let r3 = third_round script.third in
    let whole : all ++ more ≡ rounds_frames r1 r2 r3 = sym front ∙ script.frames_are in
    let requests = few-requests_rounds p rounds in
    let asked = few-asks_rounds p rounds in
    let requests_split : count_by is_request (all ++ more) ≡ count_by is_request all + count_by is_request more = sum_by-append (λ (g : Frame). cond (is_request g) 1 0) all more in
    let asks_split : count_by is_asking (all ++ more) ≡ count_by is_asking all + count_by is_asking more = sum_by-append (λ (g : Frame). cond (is_asking g) 1 0) all more in
    let requests_all = ap (count_by is_request) whole ∙ counted-rounds is_request r1 r2 r3 refl in
    let asks_all = ap (count_by is_asking) whole ∙ counted-rounds is_asking r1 r2 r3 refl in
    let n1 = count_by-le-length is_request (numbered 0 r1) in
    let n2 = count_by-le-length is_request (numbered (length r1) r2) in
    let n3 = count_by-le-length is_request (numbered (length r1 + length r2) r3) in (
      omega (
        arith,
        requests,
        requests_split,
        requests_all,
        n1,
        n2,
        n3,
        length-numbered 0 r1,
        length-numbered (length r1) r2,
        length-numbered (length r1 + length r2) r3,
        length-first number,
        length-second number script.first script.second,
        length-third script.third,
      ),
      omega (
        arith,
        asked,
        asks_split,
        asks_all,
        count-numbered 0 r1,
        count-numbered (length r1) r2,
        count-numbered (length r1 + length r2) r3,
        asks-first number,
        asks-second number script.first script.second,
        asks-third script.third,
      ),
    )
