-- Requests dealt to lanes, and replies merged from them.
use Rattle.std.specs.Prelude.{◌≡◌, ◌≢◌, ℕ, zero, suc, ◌+◌, ◌<◌, Bool, true, false, nat_eq, cond, List, [], ◌∷◌, ◌++◌, length, map, replicate, count_by, slice_index_or}
use Rattle.std.specs.Global.{Vec}
use Rattle.std.specs.List.{AllByRecursion}
use Rattle.std.proofs.Common.{refl, sym, ap, ◌∙◌, subst, arith, append_assoc, append-nil, lt_of_not-le, set}
use mathlib.Core.Logic.{dite}
use native.Mathlib.Decide.{dec_le}
use Rattle.std.proofs.lemmas.Bool.Decides.{nat_tests}
use Rattle.std.proofs.lemmas.List.{get_or-map, get_or-set_other, get_or-set_same, get_or_past, length-map, length-replicate, map-append, map-set, replicate_more}
use Rattle.std.proofs.lemmas.List.Sums.{sum_by-cons}
use Rattle.psi_frames.specs.declared.reply.Reply.{Reply}
use Rattle.psi_frames.specs.declared.request.Request.{Request}
use Rattle.psi_frames.specs.Served.{Exchange, HaveOneReplyEach, address_of_reply, address_of_request, addressed}
use Rattle.query_pool.specs.declared.jobs.Work.{Work}
use Rattle.query_pool.specs.declared.lane.Numbered.{Numbered}
use Rattle.query_pool.specs.Dealing.{asked_lists, listed}
use Rattle.query_pool.specs.Jobs.{request_lists, requests_of_work}
use Rattle.query_pool.specs.Joined.{lane_of, lane_part, lane_requests, list_at, picked}
use Rattle.query_pool.specs.Lanes.{asked, lane_exchanges}

-- the exchanges of one round have its number, which is 0
pub rounds-first : (rs : List Request) (ys : List Reply) → AllByRecursion (λ e. e.round ≡ 0) (lane_exchanges rs ys)
rounds-first [] ys = tt
rounds-first (r ∷ rs) [] = tt
rounds-first (r ∷ rs) (y ∷ ys) = (refl, rounds-first rs ys)

-- each request has one reply
pub one_reply_each : (rs : List Request) (ys : List Reply) → length ys ≡ length rs → HaveOneReplyEach (rs ∷ []) (addressed rs ys)
one_reply_each rs ys size = same rs ys size ∙ ap (map address_of_request) (sym (append-nil rs)) where
  same : (rs : List Request) (ys : List Reply) → length ys ≡ length rs → map address_of_reply (addressed rs ys) ≡ map address_of_request rs
  same [] ys size = refl
  same (r ∷ rs) [] size = absurd (omega (arith, size))
  same (r ∷ rs) (y ∷ ys) size = ap (λ (xs : List (ℕ × ℕ)). address_of_request r ∷ xs) (same rs ys (omega (arith, size)))

-- a lane's part of a round is what its requests and its replies make
pub part_of : (workers l : ℕ) (rs : List Request) (ys : List Reply) → length ys ≡ length rs
    → lane_part workers (lane_exchanges rs ys) l ≡ lane_exchanges (lane_requests workers rs l) (picked l (map (lane_of workers) rs) ys)
part_of workers l [] ys size = refl
part_of workers l (r ∷ rs) [] size = absurd (omega (arith, size))
part_of workers l (r ∷ rs) (y ∷ ys) size = by_test (nat_eq (lane_of workers r) l) refl (part_of workers l rs ys (omega (arith, size))) where
  by_test : (b : Bool) → nat_eq (lane_of workers r) l ≡ b
      → lane_part workers (lane_exchanges rs ys) l ≡ lane_exchanges (lane_requests workers rs l) (picked l (map (lane_of workers) rs) ys)
      → lane_part workers (lane_exchanges (r ∷ rs) (y ∷ ys)) l ≡ lane_exchanges (lane_requests workers (r ∷ rs) l) (picked l (map (lane_of workers) (r ∷ rs)) (y ∷ ys))
  by_test true test rest = rw test (ap (λ (es : List Exchange). record { round = 0; request = r; reply = y } ∷ es) rest)
  by_test false test rest = rw test rest

module _ {X : Type 0} where
  -- empty lists behind the others do not matter
  pub none-at : (n l : ℕ) → list_at {X = X} (replicate n []) l ≡ []
  none-at zero l = refl
  none-at (suc n) zero = refl
  none-at (suc n) (suc l) = none-at n l

  pub at-more : (xss : List (List X)) (n l : ℕ) → list_at (xss ++ replicate n []) l ≡ list_at xss l
  at-more [] n l = none-at n l
  at-more (xs ∷ xss) n zero = refl
  at-more (xs ∷ xss) n (suc l) = at-more xss n l

  -- as many are picked as there are of the number
  pub length-picked : (l : ℕ) (ks : List ℕ) (xs : List X) → length xs ≡ length ks → length (picked l ks xs) ≡ count_by (λ k. nat_eq k l) ks
  length-picked l [] xs size = refl
  length-picked l (k ∷ ks) [] size = absurd (omega (arith, size))
  length-picked l (k ∷ ks) (x ∷ xs) size = by_test (nat_eq k l) refl (length-picked l ks xs (omega (arith, size))) where
    by_test : (b : Bool) → nat_eq k l ≡ b → length (picked l ks xs) ≡ count_by (λ k. nat_eq k l) ks → length (picked l (k ∷ ks) (x ∷ xs)) ≡ count_by (λ k. nat_eq k l) (k ∷ ks)
    by_test true test rest =
        let one : ◌≡◌ {A = ℕ} (cond (nat_eq k l) 1 0) 1 = rw test refl in
        let here : length (picked l (k ∷ ks) (x ∷ xs)) ≡ suc (length (picked l ks xs)) = rw test refl in
        omega (arith, rest, here, one, sum_by-cons (λ (n : ℕ). cond (nat_eq n l) 1 0) k ks)
    by_test false test rest =
        let none : ◌≡◌ {A = ℕ} (cond (nat_eq k l) 1 0) 0 = rw test refl in
        let here : length (picked l (k ∷ ks) (x ∷ xs)) ≡ length (picked l ks xs) = rw test refl in
        omega (arith, rest, here, none, sum_by-cons (λ (n : ℕ). cond (nat_eq n l) 1 0) k ks)

  -- what holds of each picked one holds of all
  pub picked-each : (P : X → Type 0) (ks : List ℕ) (xs : List X) → length xs ≡ length ks → ((l : ℕ) → AllByRecursion P (picked l ks xs)) → AllByRecursion P xs
  picked-each P ks [] size each = tt
  picked-each P [] (x ∷ xs) size each = absurd (omega (arith, size))
  picked-each P (k ∷ ks) (x ∷ xs) size each = (here, picked-each P ks xs (omega (arith, size)) (λ l. rest l (nat_eq k l) refl (each l))) where
    here : P x
    here = let same : nat_eq k k ≡ true = grind (arith, nat_tests) in (rw same at (each k)).0

    rest : (l : ℕ) (b : Bool) → nat_eq k l ≡ b → AllByRecursion P (picked l (k ∷ ks) (x ∷ xs)) → AllByRecursion P (picked l ks xs)
    rest l true test = rw test (λ h. h.1)
    rest l false test = rw test (λ h. h)

  -- one more in front
  pub picked-front : (l k : ℕ) (ks : List ℕ) (x : X) (xs : List X) → picked l (k ∷ []) (x ∷ []) ++ picked l ks xs ≡ picked l (k ∷ ks) (x ∷ xs)
  picked-front l k ks x xs = by_test (nat_eq k l) refl where
    by_test : (b : Bool) → nat_eq k l ≡ b → picked l (k ∷ []) (x ∷ []) ++ picked l ks xs ≡ picked l (k ∷ ks) (x ∷ xs)
    by_test true test = rw test refl
    by_test false test = rw test refl

  -- a list with one more behind, and one with one fewer
  pub put-at : (xss : List (List X)) (i l : ℕ) (ys : List X) (x : X) → i < length xss → ys ≡ list_at xss i ++ x ∷ [] → list_at (set xss i ys) l ≡ list_at xss l ++ picked l (i ∷ []) (x ∷ [])
  put-at xss i l ys x lt is = by_test (nat_eq i l) refl where
    by_test : (b : Bool) → nat_eq i l ≡ b → list_at (set xss i ys) l ≡ list_at xss l ++ picked l (i ∷ []) (x ∷ [])
    by_test true test =
        let same : i ≡ l = grind (arith, nat_tests, test) in
        rw test (subst (λ (k : ℕ). list_at (set xss i ys) k ≡ list_at xss k ++ x ∷ []) same (get_or-set_same xss i ys [] lt ∙ is))
    by_test false test =
        let other : l ≢ i = λ e. absurd (grind (arith, nat_tests, test, e)) in
        rw test (get_or-set_other xss i l ys [] other ∙ sym (append-nil (list_at xss l)))

  pub take-at : (xss : List (List X)) (i l : ℕ) (ys : List X) (x : X) → i < length xss → list_at xss i ≡ ys ++ x ∷ [] → list_at xss l ≡ list_at (set xss i ys) l ++ picked l (i ∷ []) (x ∷ [])
  take-at xss i l ys x lt is = by_test (nat_eq i l) refl where
    by_test : (b : Bool) → nat_eq i l ≡ b → list_at xss l ≡ list_at (set xss i ys) l ++ picked l (i ∷ []) (x ∷ [])
    by_test true test =
        let same : i ≡ l = grind (arith, nat_tests, test) in
        rw test (subst (λ (k : ℕ). list_at xss k ≡ list_at (set xss i ys) k ++ x ∷ []) same (is ∙ ap (λ (zs : List X). zs ++ x ∷ []) (sym (get_or-set_same xss i ys [] lt))))
    by_test false test =
        let other : l ≢ i = λ e. absurd (grind (arith, nat_tests, test, e)) in
        rw test (sym (get_or-set_other xss i l ys [] other) ∙ sym (append-nil (list_at (set xss i ys) l)))

-- there are as many requests of a lane as the order of their lanes has its number
pub length-lane : (workers l : ℕ) (rs : List Request) → length (lane_requests workers rs l) ≡ count_by (λ k. nat_eq k l) (map (lane_of workers) rs)
length-lane workers l [] = refl
length-lane workers l (r ∷ rs) = by_test (nat_eq (lane_of workers r) l) refl (length-lane workers l rs) where
  by_test : (b : Bool) → nat_eq (lane_of workers r) l ≡ b → length (lane_requests workers rs l) ≡ count_by (λ k. nat_eq k l) (map (lane_of workers) rs)
      → length (lane_requests workers (r ∷ rs) l) ≡ count_by (λ k. nat_eq k l) (map (lane_of workers) (r ∷ rs))
  by_test true test rest =
      let one : ◌≡◌ {A = ℕ} (cond (nat_eq (lane_of workers r) l) 1 0) 1 = rw test refl in
      let here : length (lane_requests workers (r ∷ rs) l) ≡ suc (length (lane_requests workers rs l)) = rw test refl in
      omega (arith, rest, here, one, sum_by-cons (λ (n : ℕ). cond (nat_eq n l) 1 0) (lane_of workers r) (map (lane_of workers) rs))
  by_test false test rest =
      let none : ◌≡◌ {A = ℕ} (cond (nat_eq (lane_of workers r) l) 1 0) 0 = rw test refl in
      let here : length (lane_requests workers (r ∷ rs) l) ≡ length (lane_requests workers rs l) = rw test refl in
      omega (arith, rest, here, none, sum_by-cons (λ (n : ℕ). cond (nat_eq n l) 1 0) (lane_of workers r) (map (lane_of workers) rs))

-- one request more
pub lane-more : (workers l : ℕ) (rs : List Request) (r : Request) → lane_requests workers (rs ++ r ∷ []) l ≡ lane_requests workers rs l ++ picked l (lane_of workers r ∷ []) (r ∷ [])
lane-more workers l [] r = refl
lane-more workers l (x ∷ rs) r = by_test (nat_eq (lane_of workers x) l) refl (lane-more workers l rs r) where
  by_test : (b : Bool) → nat_eq (lane_of workers x) l ≡ b → lane_requests workers (rs ++ r ∷ []) l ≡ lane_requests workers rs l ++ picked l (lane_of workers r ∷ []) (r ∷ [])
      → lane_requests workers (x ∷ (rs ++ r ∷ [])) l ≡ lane_requests workers (x ∷ rs) l ++ picked l (lane_of workers r ∷ []) (r ∷ [])
  by_test true test rest = rw test (ap (λ (ys : List Request). x ∷ ys) rest)
  by_test false test rest = rw test rest

-- ---- lists under vectors

-- a list that has elements is one of the lists
at-within : {X : Type 0} (xss : List (List X)) (i : ℕ) → 0 < length (list_at xss i) → i < length xss
at-within {X} xss i some = dite (dec_le (length xss) i)
    (λ le. let none : list_at xss i ≡ [] = get_or_past xss i [] le in let size = ap length none in absurd (omega (arith, size, some)))
    (λ lt. lt_of_not-le lt)

-- one request more for a lane
pub added-to : (vs : List (Vec Numbered)) (i k : ℕ) (v w : Vec Numbered) (n : Numbered) → k ≡ i → i < length vs → v ≡ slice_index_or vs k v → w.items ≡ v.items ++ n ∷ []
    → (l : ℕ) → list_at (asked_lists (set vs k w)) l ≡ list_at (asked_lists vs) l ++ picked l (i ∷ []) (n.request ∷ [])
added-to vs i k v w n same lt read pushed l =
    let lists = asked_lists vs in
    let moved : asked_lists (set vs k w) ≡ set lists i (asked w.items) = map-set (λ (u : Vec Numbered). asked u.items) vs k w ∙ ap (λ (j : ℕ). set lists j (asked w.items)) same in
    let size = length-map vs (λ (u : Vec Numbered). asked u.items) in
    let old : list_at lists i ≡ asked v.items = get_or-map (λ (u : Vec Numbered). asked u.items) vs i v [] lt ∙ ap (λ (j : ℕ). asked (slice_index_or vs j v).items) (sym same) ∙ ap (λ (u : Vec Numbered). asked u.items) (sym read) in
    let new : asked w.items ≡ list_at lists i ++ n.request ∷ [] = ap asked pushed ∙ map-append (λ (m : Numbered). m.request) v.items (n ∷ []) ∙ ap (λ (rs : List Request). rs ++ n.request ∷ []) (sym old) in
    ap (λ (xss : List (List Request)). list_at xss l) moved ∙ put-at lists i l (asked w.items) n.request (omega (arith, lt, size)) new

-- a reply taken from a lane
pub taken-from : (vs : List (Vec Reply)) (i k : ℕ) (v w : Vec Reply) (y : Reply) → k ≡ i → 0 < length (list_at (listed vs) i) → v ≡ slice_index_or vs k v → v.items ≡ w.items ++ y ∷ []
    → (l : ℕ) → list_at (listed vs) l ≡ list_at (listed (set vs k w)) l ++ picked l (i ∷ []) (y ∷ [])
taken-from vs i k v w y same some read popped l =
    let lists = listed vs in
    let within = at-within lists i some in
    let size = length-map vs (λ (u : Vec Reply). u.items) in
    let moved : listed (set vs k w) ≡ set lists i w.items = map-set (λ (u : Vec Reply). u.items) vs k w ∙ ap (λ (j : ℕ). set lists j w.items) same in
    let old : list_at lists i ≡ v.items = get_or-map (λ (u : Vec Reply). u.items) vs i v [] (omega (arith, within, size)) ∙ ap (λ (j : ℕ). (slice_index_or vs j v).items) (sym same) ∙ ap (λ (u : Vec Reply). u.items) (sym read) in
    take-at lists i l w.items y within (old ∙ popped) ∙ ap (λ (xss : List (List Reply)). list_at xss l ++ picked l (i ∷ []) (y ∷ [])) (sym moved)

-- one empty list more
pub more-empty : (vs : List (Vec Numbered)) (v : Vec Numbered) (n : ℕ) → asked_lists vs ≡ replicate n [] → v.items ≡ [] → asked_lists (vs ++ v ∷ []) ≡ replicate (n + 1) []
more-empty vs v n all none =
    map-append (λ (u : Vec Numbered). asked u.items) vs (v ∷ []) ∙ (λ i. all i ++ asked (none i) ∷ []) ∙ replicate_more n []

pub lists-number : (vs : List (Vec Numbered)) (n : ℕ) → asked_lists vs ≡ replicate n [] → length vs ≡ n
lists-number vs n all = sym (length-map vs (λ (u : Vec Numbered). asked u.items)) ∙ ap length all ∙ length-replicate n []

-- the work of one lane more
pub works-more : (all : List (List Request)) (works after : List Work) (w : Work) (v : Vec Numbered) (rest : List (Vec Numbered)) → all ≡ request_lists works ++ asked_lists (v ∷ rest)
    → requests_of_work w ≡ asked v.items → after ≡ works ++ w ∷ [] → all ≡ request_lists after ++ asked_lists rest
works-more all works after w v rest was is more =
    was ∙ ap (λ (rs : List Request). request_lists works ++ rs ∷ asked_lists rest) (sym is) ∙ sym (append_assoc (request_lists works) (requests_of_work w ∷ []) (asked_lists rest))
    ∙ ap (λ (xss : List (List Request)). xss ++ asked_lists rest) (sym (ap request_lists more ∙ map-append requests_of_work works (w ∷ [])))
