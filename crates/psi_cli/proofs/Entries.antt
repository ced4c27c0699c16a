-- Each entry of a history that replies serve is a call that the set takes.
use Rattle.std.proofs.Common.{◌≡◌, ℕ, zero, suc, ◌+◌, ◌-◌, ◌<◌, ◌≤◌, Bool, true, false, nat_eq, nat_lt, List, [], ◌∷◌, length, Option, None, Some, slice_get, get_or, take, get_or-take, refl, sym, ap, ◌∙◌, subst, arith, inl, inr, add-one}
use Rattle.std.specs.List.{All, AllByRecursion, cons_option, range_with_len}
use Rattle.std.specs.List.Sorted.{IsPermutation}
use Rattle.std.specs.Option.{option_map}
use Rattle.std.proofs.lemmas.Bool.{cases_lt}
use Rattle.std.proofs.lemmas.Bool.Decides.{nat_tests}
use Rattle.std.proofs.lemmas.List.Elements.{All-from_recursion, recursion_from_All}
use Rattle.std.proofs.lemmas.List.FromFn.{get_or-range_with_len, length-range_with_len}
use Rattle.std.proofs.lemmas.List.Sorted.{All-permutation, length_permutation}
use Rattle.std.proofs.lemmas.Option.{slice_get-get_or}
use Rattle.psi_residue.specs.Parameters.{Parameters}
use Rattle.psi_bundle.specs.declared.history.Call.{Call}
use Rattle.psi_bundle.specs.declared.history.Entry.{Entry}
use Rattle.psi_bundle.specs.Histories.{HasBytes, IsFitting}
use Rattle.psi_bundle.specs.Versions.{Version}
use Rattle.psi_frames.specs.declared.request.Request.{Request}
use Rattle.psi_frames.specs.Requests.{call_of}
use Rattle.psi_frames.specs.Served.{Exchange, IsRecorded, IsServed, Sent, all_places, exchanges, from_or_zero, place_of, places_in, places_of_round, requests_of}
use Rattle.psi_frames.proofs.FirstRounds.{first-rounds}
use Rattle.psi_frames.proofs.Following.{before}
use Rattle.psi_frames.proofs.Placed.{places-every, tells_answer}
use Rattle.psi_frames.proofs.Renumbered.{requests-each, rounds-below}
use Rattle.psi_cli.proofs.Fitting.{IsTaken, taken-call}

-- ---- entries

-- the entry at a place is a call that the set takes
abbrev pub IsEntryTaken : Parameters → List Entry → ℕ → Type 0
IsEntryTaken p history k = (x : Entry) → slice_get history k ≡ Some x → IsFitting p x.call × HasBytes x.call

-- the call of what an optional call makes
made : (o : Option Call) (f : Call → Entry) (x : Entry) → ((c : Call) → (f c).call ≡ c) → option_map f o ≡ Some x → o ≡ Some x.call
made None f x own e = absurd (cc)
made (Some c) f x own e =
    let same : f c ≡ x = cc in
    ap Some (sym (own c) ∙ ap (λ (y : Entry). y.call) same)

-- an exchange's entry
recorded-taken : (p : Parameters) (history : List Entry) (e : Exchange) → IsTaken p e.request → IsRecorded history e → (k : ℕ) → place_of e.reply ≡ Some k → IsEntryTaken p history k
recorded-taken p history e taken recorded k place x there =
    let told = tells_answer e.reply k place in
    let is = sym (recorded k told.0 place told.1) ∙ there in
    taken-call p e.request (from_or_zero e.reply) x.call taken (made (call_of e.request (from_or_zero e.reply)) (λ c. record { call = c; answer = told.0 }) x (λ c. refl) is)

both : (p : Parameters) (history : List Entry) (es : List Exchange) → AllByRecursion (λ e. IsTaken p e.request) es → AllByRecursion (IsRecorded history) es
    → AllByRecursion (λ e. (k : ℕ) → place_of e.reply ≡ Some k → IsEntryTaken p history k) es
both p history [] taken recorded = tt
both p history (e ∷ es) taken recorded = (recorded-taken p history e taken.0 recorded.0, both p history es taken.1 recorded.1)

-- rounds below a number pass the test
below_all : (n : ℕ) (es : List Exchange) → AllByRecursion (λ e. e.round < n) es → AllByRecursion (λ e. nat_lt e.round n ≡ true) es
below_all n [] h = tt
below_all n (e ∷ es) h = ((let lt : e.round < n = h.0 in grind (arith, nat_tests)), below_all n es h.1)

-- what stands at a place
got : (es : List Entry) (k : ℕ) (d x : Entry) → slice_get es k ≡ Some x → get_or es k d ≡ x
got [] k d x e = absurd (cc)
got (y ∷ es) zero d x e = cc
got (y ∷ es) (suc k) d x e = got es k d x e

-- an entry of the given history
given-taken : (p : Parameters) (given history : List Entry) → take (length given) history ≡ given → All (λ x. IsFitting p x.call × HasBytes x.call) given
    → (j : ℕ) → j < length given → IsEntryTaken p history j
given-taken p given history begins each j lt = λ x there.
    let same : get_or given j x ≡ x =
    ap (λ (es : List Entry). get_or es j x) (sym begins) ∙ get_or-take (length given) history j x lt ∙ got history j x x there in
    subst (λ (e : Entry). IsFitting p e.call × HasBytes e.call) same (each j x lt)

-- each entry of the history
pub entries-taken : (p : Parameters) (start : Version) (given history : List Entry) (rounds : List (List Request)) (sents : List Sent)
    → All (λ x. IsFitting p x.call × HasBytes x.call) given → AllByRecursion (IsTaken p) (requests_of rounds)
    → IsServed p start given history rounds sents → All (λ x. IsFitting p x.call × HasBytes x.call) history
entries-taken p start given history rounds sents each_given taken served k d lt =
    let es = exchanges rounds sents in
    let of = served.served.history_of in
    let each = both p history es (requests-each (IsTaken p) rounds sents taken) (recursion_from_All (IsRecorded history) es of.recorded) in
    let all : before (length rounds) es ≡ all_places es = places-every (λ round. nat_lt round (length rounds)) es (below_all (length rounds) es (rounds-below rounds sents)) in
    let size : k < length given + length (before (length rounds) es) = omega (arith, of.no_others, ap length all, lt) in
    let is_taken : IsEntryTaken p history k =
    elim (cases_lt k (length given)) [
      | inl early ↦ given-taken p given history of.begins each_given k early
      | inr late ↦ first-rounds (IsEntryTaken p history) (length given) es _ each (length rounds) (length rounds) served.served.placed.places (omega arith) k late size
    ] in
    is_taken (get_or history k d) (slice_get-get_or history k d lt)
