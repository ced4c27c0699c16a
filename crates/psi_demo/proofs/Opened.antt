-- Answers that are opened, one by one.
use Rattle.std.proofs.Common.{◌≡◌, inl, inr, ℕ, suc, add-one, ◌+◌, ◌-◌, ◌≤◌, ◌<◌, List, [], ◌∷◌, ◌++◌, length, take, drop, get_or, slice_index, slice_index_or, Option, None, Some, refl, sym, ap, subst, ◌∙◌, arith, append-nil, length-append}
use Rattle.std.specs.List.{filter_map}
use Rattle.std.specs.Option.{option_or}
use Rattle.std.proofs.Math.Seq.{drop-cons, get_or-append_seam, take-append-add, take-append_seam}
use Rattle.std.proofs.lemmas.Bool.{cases_lt}
use Rattle.std.proofs.lemmas.List.{get_or_append_left, take-append-drop, take_all}
use Rattle.std.proofs.lemmas.List.Elements.{filter_map-append}
use Rattle.query_codec.specs.declared.fault.CodecFault.{CodecFault}
use Rattle.query_codec.specs.Replies.{reply_fault}
use Rattle.query_codec.proofs.ReplyBodies.{no_fault-IsReply}
use Rattle.psi_frames.specs.declared.reply.Reply.{Reply}
use Rattle.psi_frames.specs.declared.reply.Reply.TheVariants as reply
use Rattle.psi_frames.specs.Served.{body_of}
use Rattle.psi_receiver.specs.Faults.{HavePlacement}
use Rattle.psi_demo.specs.declared.fault.SumFault.{SumFault}
use Rattle.psi_demo.specs.declared.fault.SumFault.TheVariants as sum
use Rattle.psi_demo.specs.Items.{asked_tags, demo_parameters}
use Rattle.psi_demo.specs.Opening.{IsBodiesFault, IsNextFault, OpensNext}
use Rattle.psi_demo.specs.Summaries.{AreStable, IsStable, bodies_of, first_fault, opened_answers}

-- no answer yet
pub stable-none : (number : ℕ) (replies : List Reply) → AreStable number (filter_map body_of (take 0 replies)) []
stable-none number replies = record { one_each = refl; each = λ a lt. absurd (omega arith) }

-- one answer more
stable-more : (number : ℕ) (bodies : List (List ℕ)) (body : List ℕ) (stable : List ℕ) (n : ℕ) → AreStable number bodies stable → IsStable number (length stable) (asked_tags number) body n → AreStable number (bodies ++ body ∷ []) (stable ++ n ∷ [])
stable-more number bodies body stable n were one = record {
  one_each = omega (arith, were.one_each, length-append bodies (body ∷ []), length-append stable (n ∷ []));
  each = λ a lt. elim (cases_lt a (length bodies)) [
    | inl before ↦ (
        let same = get_or_append_left bodies (body ∷ []) [] a before in
        let same_n = get_or_append_left stable (n ∷ []) 0 a (omega (arith, before, were.one_each)) in
        rw (same, same_n) (were.each a before)
        )
    | inr last ↦ (
        let at : a ≡ length bodies = omega (arith, lt, last, length-append bodies (body ∷ [])) in
        let same : slice_index_or (bodies ++ body ∷ []) a [] ≡ body = ap (λ (i : ℕ). slice_index_or (bodies ++ body ∷ []) i []) at ∙ get_or-append_seam bodies body [] [] in
        let at_n : a ≡ length stable = at ∙ sym were.one_each in
        let same_n : slice_index (stable ++ n ∷ []) a ≡ n = ap (slice_index (stable ++ n ∷ [])) at_n ∙ get_or-append_seam stable n [] 0 in
        subst (λ (k : ℕ). IsStable number k (asked_tags number) (slice_index_or (bodies ++ body ∷ []) a []) (slice_index (stable ++ n ∷ []) a)) (sym at_n)
        (rw (same, same_n) one)
        )
  ];
}

-- the bodies of one reply
body_list : Option (List ℕ) → List (List ℕ)
body_list None = []
body_list (Some body) = body ∷ []

one-body : (r : Reply) → filter_map body_of (r ∷ []) ≡ body_list (body_of r)
unfolding body_list
one-body (reply.Added place) = refl
one-body (reply.Replaced place) = refl
one-body (reply.Removed place) = refl
one-body (reply.Absent place) = refl
one-body (reply.Full place planes cells) = refl
one-body (reply.Answer place body) = refl
one-body (reply.Repacked place from before after) = refl
one-body (reply.Moved place from stamp) = refl
one-body (reply.Refused code) = refl

next-of : (number : ℕ) (bodies : List (List ℕ)) (told : Option (List ℕ)) (old new : List ℕ) → AreStable number bodies old → OpensNext number told old new → AreStable number (bodies ++ body_list told) new
unfolding body_list
next-of number bodies None old new were next = subst (AreStable number (bodies ++ [])) (sym next) (subst (λ (bs : List (List ℕ)). AreStable number bs old) (sym (append-nil bodies)) were)
next-of number bodies (Some body) old new were next = subst (AreStable number (bodies ++ body ∷ [])) (sym next.2) (stable-more number bodies body old next.0 were next.1)

-- one reply more
pub stable-next : (number : ℕ) (before now : List Reply) (r : Reply) (old new : List ℕ) → AreStable number (filter_map body_of before) old → OpensNext number (body_of r) old new → now ≡ before ++ r ∷ []
    → AreStable number (filter_map body_of now) new
stable-next number before now r old new were next more =
    let split : filter_map body_of now ≡ filter_map body_of before ++ body_list (body_of r) =
    ap (filter_map body_of) more ∙ filter_map-append body_of before (r ∷ []) ∙ ap (λ (bs : List (List ℕ)). filter_map body_of before ++ bs) (one-body r) in
    subst (λ (bs : List (List ℕ)). AreStable number bs new) (sym split) (next-of number (filter_map body_of before) (body_of r) old new were next)

-- at most one number more
pub next-few : (number : ℕ) (told : Option (List ℕ)) (old new : List ℕ) → OpensNext number told old new → length new ≤ length old + 1
next-few number None old new next = omega (arith, ap length next)
next-few number (Some body) old new next = omega (arith, ap length next.2, length-append old (next.0 ∷ []))

-- ---- all that are opened

take-front : {A : Type 0} (n : ℕ) (xs ys : List A) → length xs ≡ n → take n (xs ++ ys) ≡ xs
take-front n xs ys size = ap (λ (k : ℕ). take k (xs ++ ys)) (sym size) ∙ take-append_seam xs ys

-- as many as are opened were opened
pub stable-full : (number : ℕ) (replies : List Reply) (i : ℕ) (stable : List ℕ) → AreStable number (filter_map body_of (take i replies)) stable → length stable ≡ opened_answers → AreStable number (bodies_of replies) stable
stable-full number replies i stable are full =
    let front = filter_map body_of (take i replies) in
    let back = filter_map body_of (drop i replies) in
    let split : filter_map body_of replies ≡ front ++ back = ap (filter_map body_of) (sym (take-append-drop i replies)) ∙ filter_map-append body_of (take i replies) (drop i replies) in
    let same : bodies_of replies ≡ front = ap (take 3) split ∙ take-front 3 front back (sym are.one_each ∙ full) in
    subst (λ (bs : List (List ℕ)). AreStable number bs stable) (sym same) are

-- all replies were read
pub stable-all : (number : ℕ) (replies : List Reply) (i : ℕ) (stable : List ℕ) → AreStable number (filter_map body_of (take i replies)) stable → length replies ≤ i → length stable ≤ opened_answers → AreStable number (bodies_of replies) stable
stable-all number replies i stable are past few =
    let all : filter_map body_of (take i replies) ≡ filter_map body_of replies = ap (filter_map body_of) (take_all i replies past) in
    let few_bodies : length (filter_map body_of replies) ≤ 3 = omega (arith, few, are.one_each, ap length all) in
    subst (λ (bs : List (List ℕ)). AreStable number bs stable) (all ∙ sym (take_all 3 (filter_map body_of replies) few_bodies)) are

-- ---- a body that is refused

fault-append : (xs ys : List (List ℕ)) → first_fault xs ≡ None → first_fault (xs ++ ys) ≡ first_fault ys
unfolding first_fault
fault-append [] ys none = refl
fault-append (x ∷ xs) ys none = fault-append_by (reply_fault demo_parameters x) (first_fault xs) (first_fault (xs ++ ys)) (first_fault ys) none (fault-append xs ys) where
  fault-append_by : (a b c d : Option CodecFault) → option_or a b ≡ None → (b ≡ None → c ≡ d) → option_or a c ≡ d
  fault-append_by None b c d none more = more none
  fault-append_by (Some fault) b c d none more = absurd (cc)

-- bodies that were opened have no fault, where the asked items have a placement
opened-sound : (number a : ℕ) (body : List ℕ) (n : ℕ) → HavePlacement demo_parameters.rows (asked_tags number) → IsStable number a (asked_tags number) body n → reply_fault demo_parameters body ≡ None
opened-sound number a body n placed (inl stable) = no_fault-IsReply demo_parameters body stable.reply
opened-sound number a body n placed (inr unplaced) = absurd (unplaced.0 placed.0 placed.1)

no-fault : (bodies : List (List ℕ)) → ((a : ℕ) → a < length bodies → reply_fault demo_parameters (slice_index_or bodies a []) ≡ None) → first_fault bodies ≡ None
unfolding first_fault
no-fault [] none = refl
no-fault (body ∷ bodies) none = (λ i. option_or (none 0 (omega arith) i) (first_fault bodies)) ∙ no-fault bodies (λ a lt. none (suc a) (omega (arith, lt)))

pub no-fault_stable : (number : ℕ) (bodies : List (List ℕ)) (stable : List ℕ) → HavePlacement demo_parameters.rows (asked_tags number) → AreStable number bodies stable → first_fault bodies ≡ None
no-fault_stable number bodies stable placed are = no-fault bodies (λ a lt. opened-sound number a (slice_index_or bodies a []) (slice_index stable a) placed (are.each a lt))

fault-first : (body : List ℕ) (bodies : List (List ℕ)) (fault : CodecFault) → reply_fault demo_parameters body ≡ Some fault → first_fault (body ∷ bodies) ≡ Some fault
unfolding first_fault
fault-first body bodies fault is = ap (λ (o : Option CodecFault). option_or o (first_fault bodies)) is

-- the body of the first of some replies
first-body : (r : Reply) (body : List ℕ) (rs : List Reply) → body_of r ≡ Some body → filter_map body_of (r ∷ rs) ≡ body ∷ filter_map body_of rs
unfolding body_list
first-body r body rs tells = filter_map-append body_of (r ∷ []) rs ∙ ap (λ (bs : List (List ℕ)). bs ++ filter_map body_of rs) (one-body r ∙ ap body_list tells)

take-over : (front : List (List ℕ)) (body : List ℕ) (behind : List (List ℕ)) → length front < 3 → take 3 (front ++ body ∷ behind) ≡ front ++ body ∷ take (2 - length front) behind
take-over front body behind few =
    let size : 3 ≡ length front + suc (2 - length front) = omega (arith, few) in
    ap (λ (n : ℕ). take n (front ++ body ∷ behind)) size ∙ take-append-add front (body ∷ behind) (suc (2 - length front))

-- the bodies that are opened begin with those before a reply, and its own
bodies-split : (replies : List Reply) (i : ℕ) (r : Reply) (body : List ℕ) → i < length replies → r ≡ get_or replies i r → body_of r ≡ Some body → length (filter_map body_of (take i replies)) < 3
    → (more : List (List ℕ)) × (bodies_of replies ≡ filter_map body_of (take i replies) ++ body ∷ more)
bodies-split replies i r body lt is tells few =
    let front = filter_map body_of (take i replies) in
    let behind = filter_map body_of (drop (i + 1) replies) in
    let at : replies ≡ take i replies ++ r ∷ drop (i + 1) replies = sym (take-append-drop i replies) ∙ ap (λ (rs : List Reply). take i replies ++ rs) (drop-cons replies i r lt ∙ (λ j. sym is j ∷ drop (sym (add-one i) j) replies)) in
    let whole : filter_map body_of replies ≡ front ++ body ∷ behind =
    ap (filter_map body_of) at ∙ filter_map-append body_of (take i replies) (r ∷ drop (i + 1) replies) ∙ ap (λ (bs : List (List ℕ)). front ++ bs) (first-body r body (drop (i + 1) replies) tells) in
    (take (2 - length front) behind, ap (take 3) whole ∙ take-over front body behind few)

fault-of_body : (number : ℕ) (replies : List Reply) (i : ℕ) (r : Reply) (stable : List ℕ) (body : List ℕ) (fault : CodecFault) → AreStable number (filter_map body_of (take i replies)) stable → length stable < opened_answers
    → i < length replies → r ≡ get_or replies i r → body_of r ≡ Some body → HavePlacement demo_parameters.rows (asked_tags number) → reply_fault demo_parameters body ≡ Some fault → first_fault (bodies_of replies) ≡ Some fault
fault-of_body number replies i r stable body fault are few lt is tells placed met =
    let front = filter_map body_of (take i replies) in
    let split = bodies-split replies i r body lt is tells (omega (arith, few, are.one_each)) in
    ap first_fault split.1 ∙ fault-append front (body ∷ split.0) (no-fault_stable number front stable placed are) ∙ fault-first body split.0 fault met

fault-by : (number : ℕ) (replies : List Reply) (i : ℕ) (r : Reply) (stable : List ℕ) (told : Option (List ℕ)) (fault : SumFault) → AreStable number (filter_map body_of (take i replies)) stable → length stable < opened_answers
    → i < length replies → r ≡ get_or replies i r → body_of r ≡ told → IsNextFault number told fault → IsBodiesFault number (bodies_of replies) fault
fault-by number replies i r stable None fault are few lt is tells why = absurd why
fault-by number replies i r stable (Some body) (sum.Torn offset) are few lt is tells why = absurd why
fault-by number replies i r stable (Some body) (sum.Codec fault) are few lt is tells why = (why.0, fault-of_body number replies i r stable body fault are few lt is tells why.0 why.1)
fault-by number replies i r stable (Some body) sum.NoMemory are few lt is tells why = tt

-- a body that is refused is the first one
pub fault-next : (number : ℕ) (replies : List Reply) (i : ℕ) (r : Reply) (stable : List ℕ) (fault : SumFault) → AreStable number (filter_map body_of (take i replies)) stable → length stable < opened_answers
    → i < length replies → r ≡ get_or replies i r → IsNextFault number (body_of r) fault → IsBodiesFault number (bodies_of replies) fault
fault-next number replies i r stable fault are few lt is why = fault-by number replies i r stable (body_of r) fault are few lt is refl why
