-- The places of replies, and of exchanges.
use Rattle.std.specs.Prelude.{◌≡◌, ℕ, ◌+◌, ◌≤◌, Bool, true, false, nat_eq, List, [], ◌∷◌, ◌++◌, length, filter, Option, Some, None, IsSome, if◌then◌else◌}
use Rattle.std.specs.List.{AllByRecursion}
use Rattle.std.proofs.Common.{refl, ap, ◌∙◌, arith, length-append}
use Rattle.std.proofs.lemmas.List.Elements.{filter_map-append, filter-append}
use Rattle.psi_bundle.specs.declared.history.Answer.{Answer}
use Rattle.psi_frames.specs.declared.reply.Reply.{Reply}
use Rattle.psi_frames.specs.declared.reply.Reply.TheVariants as reply
use Rattle.psi_frames.specs.Requests.{code_of}
use Rattle.psi_frames.specs.Served.{Exchange, answer_of, all_places, from_of, is_uncoded_in, place_of, places_in, places_of_round, uncoded_of_round}

-- there is a place, or none
pub some_place : (o : Option ℕ) (n : ℕ) → o ≡ Some n → IsSome o
some_place o n e = rw e refl

pub none_from : (o : Option ℕ) → ((x : ℕ) → o ≡ Some x → ⊥) → o ≡ None
none_from None h = refl
none_from (Some x) h = absurd (h x refl)

-- a reply with a place tells an answer, and one with a `from` has a place
pub tells_answer : (y : Reply) (x : ℕ) → place_of y ≡ Some x → (a : Answer) × (answer_of y ≡ Some a)
tells_answer (reply.Added place) x e = (_, refl)
tells_answer (reply.Replaced place) x e = (_, refl)
tells_answer (reply.Removed place) x e = (_, refl)
tells_answer (reply.Absent place) x e = (_, refl)
tells_answer (reply.Full place planes cells) x e = (_, refl)
tells_answer (reply.Answer place body) x e = (_, refl)
tells_answer (reply.Repacked place from before after) x e = (_, refl)
tells_answer (reply.Moved place from stamp) x e = (_, refl)
tells_answer (reply.Refused code) x e = absurd (cc)

pub from_placed : (y : Reply) (from : ℕ) → from_of y ≡ Some from → (x : ℕ) × (place_of y ≡ Some x)
from_placed (reply.Repacked place own before after) from e = (place, refl)
from_placed (reply.Moved place own stamp) from e = (place, refl)
from_placed (reply.Added place) from e = absurd (cc)
from_placed (reply.Replaced place) from e = absurd (cc)
from_placed (reply.Removed place) from e = absurd (cc)
from_placed (reply.Absent place) from e = absurd (cc)
from_placed (reply.Full place planes cells) from e = absurd (cc)
from_placed (reply.Answer place body) from e = absurd (cc)
from_placed (reply.Refused code) from e = absurd (cc)

-- an exchange whose request has a code is refused with it
abbrev pub IsCodedRight : Exchange → Type 0
IsCodedRight e = (code : ℕ) → code_of e.request ≡ Some code → e.reply ≡ reply.Refused code

-- a place is that of a request without a code
pub placed_uncoded : (e : Exchange) (o : Option ℕ) (x : ℕ) → code_of e.request ≡ o → IsCodedRight e → place_of e.reply ≡ Some x → code_of e.request ≡ None
placed_uncoded e None x code right place = code
placed_uncoded e (Some c) x code right place =
    let refused = right c code in
    let none : place_of e.reply ≡ None = ap place_of refused in
    absurd (cc)

-- places among appended exchanges
pub places-append : (keep : ℕ → Bool) (xs ys : List Exchange) → places_in keep (xs ++ ys) ≡ places_in keep xs ++ places_in keep ys
places-append keep xs ys = filter_map-append (λ (e : Exchange). if keep e.round then place_of e.reply else None) xs ys

pub uncoded-append : (k : ℕ) (xs ys : List Exchange) → uncoded_of_round k (xs ++ ys) ≡ uncoded_of_round k xs + uncoded_of_round k ys
uncoded-append k xs ys = ap length (filter-append (is_uncoded_in k) xs ys) ∙ length-append (filter (is_uncoded_in k) xs) (filter (is_uncoded_in k) ys)

-- exchanges of which none is kept, and of which each is
pub places-none : (keep : ℕ → Bool) (es : List Exchange) → AllByRecursion (λ e. keep e.round ≡ false) es → places_in keep es ≡ []
places-none keep [] h = refl
places-none keep (e ∷ es) h = let other = h.0 in rw other (places-none keep es h.1)

pub places-every : (keep : ℕ → Bool) (es : List Exchange) → AllByRecursion (λ e. keep e.round ≡ true) es → places_in keep es ≡ all_places es
places-every keep [] h = refl
places-every keep (e ∷ es) h = let kept = h.0 in let rest = places-every keep es h.1 in simp (kept, rest)

-- one exchange more adds no more places to a round than requests without a code
counts_more : (k : ℕ) (e : Exchange) (es : List Exchange) (b : Bool) (c o : Option ℕ) → nat_eq k e.round ≡ b → code_of e.request ≡ c → place_of e.reply ≡ o
    → ((x : ℕ) → place_of e.reply ≡ Some x → code_of e.request ≡ None)
    → length (places_of_round k (e ∷ es)) + uncoded_of_round k es ≤ uncoded_of_round k (e ∷ es) + length (places_of_round k es)
counts_more k e es false c o here code place right = rw here (omega arith)
counts_more k e es true None None here code place right = rw (here, place, code) (omega arith)
counts_more k e es true (Some c) None here code place right = rw (here, place, code) (omega arith)
counts_more k e es true None (Some x) here code place right = rw (here, place, code) (omega arith)
counts_more k e es true (Some c) (Some x) here code place right = let own = right x place in absurd (cc)

pub counts_one : (k : ℕ) (e : Exchange) (es : List Exchange) → IsCodedRight e
    → length (places_of_round k (e ∷ es)) + uncoded_of_round k es ≤ uncoded_of_round k (e ∷ es) + length (places_of_round k es)
counts_one k e es right = counts_more k e es (nat_eq k e.round) (code_of e.request) (place_of e.reply) refl refl refl (λ x place. placed_uncoded e (code_of e.request) x refl right place)

-- so there are no more places of a round than requests without a code
pub places-few : (k : ℕ) (es : List Exchange) → AllByRecursion IsCodedRight es → length (places_of_round k es) ≤ uncoded_of_round k es
places-few k [] h = omega arith
places-few k (e ∷ es) h = let one = counts_one k e es h.0 in let rest = places-few k es h.1 in omega (arith, one, rest)
