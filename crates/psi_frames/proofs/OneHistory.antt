-- Served rounds have one history.
use Rattle.std.proofs.Common.{◌≡◌, ℕ, suc, ◌+◌, ◌<◌, true, nat_lt, List, [], ◌∷◌, ◌++◌, length, take, drop, Some, slice_get, refl, sym, ap, ◌∙◌, arith, inl, inr}
use Rattle.std.proofs.lemmas.Bool.{cases_lt}
use Rattle.std.proofs.lemmas.Bool.Decides.{nat_tests}
use Rattle.std.proofs.lemmas.List.{take-append-drop}
use Rattle.std.proofs.lemmas.List.Elements.{recursion_from_All}
use Rattle.std.proofs.lemmas.Option.{same_Some}
use Rattle.psi_bundle.specs.declared.history.Entry.{Entry}
use Rattle.psi_frames.specs.declared.request.Request.{Request}
use Rattle.psi_frames.specs.Served.{Exchange, HistoryIsOne, IsRecorded, Sent, all_places, exchanges, place_of}
use Rattle.psi_frames.proofs.Each.{each-both, each-weaker}
use Rattle.psi_frames.proofs.FirstRounds.{first-rounds}
use Rattle.psi_frames.proofs.Following.{before}
use Rattle.psi_frames.proofs.EntryLists.{front-get}
use Rattle.psi_frames.proofs.Placed.{places-every, tells_answer}
use Rattle.psi_frames.proofs.Renumbered.{rounds-below}

-- lists with the same elements
same-list : (xs ys : List Entry) → length xs ≡ length ys → ((k : ℕ) → k < length xs → slice_get xs k ≡ slice_get ys k) → xs ≡ ys
same-list [] [] size each = refl
same-list [] (y ∷ ys) size each = absurd (omega (arith, size))
same-list (x ∷ xs) [] size each = absurd (omega (arith, size))
same-list (x ∷ xs) (y ∷ ys) size each =
    let first : x ≡ y = same_Some x y (each 0 (omega arith)) in
    let rest = same-list xs ys (omega (arith, size)) (λ k lt. each (suc k) (omega (arith, lt))) in
    λ i. first i ∷ rest i

-- at a place both histories have what the exchange tells
both-recorded : (history other : List Entry) (e : Exchange) → IsRecorded history e × IsRecorded other e → (x : ℕ) → place_of e.reply ≡ Some x → slice_get history x ≡ slice_get other x
both-recorded history other e has x place =
    let told = tells_answer e.reply x place in
    has.0 x told.0 place told.1 ∙ sym (has.1 x told.0 place told.1)

-- the places before the end of rounds are all of them
pub before-end : (rounds : List (List Request)) (sents : List Sent) → before (length rounds) (exchanges rounds sents) ≡ all_places (exchanges rounds sents)
before-end rounds sents =
    places-every (λ round. nat_lt round (length rounds)) (exchanges rounds sents)
    (each-weaker (λ e. e.round < length rounds) (λ e. nat_lt e.round (length rounds) ≡ true) (λ e lt. grind (arith, nat_tests, lt)) (exchanges rounds sents) (rounds-below rounds sents))

-- what a history has among the given entries
given-get : (given history : List Entry) (k : ℕ) → take (length given) history ≡ given → k < length given → slice_get history k ≡ slice_get given k
given-get given history k begins lt =
    let grown : history ≡ given ++ drop (length given) history = sym (take-append-drop (length given) history) ∙ ap (λ (t : List Entry). t ++ drop (length given) history) begins in
    ap (λ (h : List Entry). slice_get h k) grown ∙ front-get given (drop (length given) history) k lt

pub one_history : HistoryIsOne
one_history given history other rounds sents placed x y =
    let es = exchanges rounds sents in
    let each =
    each-weaker (λ e. IsRecorded history e × IsRecorded other e) (λ e. (k : ℕ) → place_of e.reply ≡ Some k → slice_get history k ≡ slice_get other k) (both-recorded history other) es
    (each-both (IsRecorded history) (IsRecorded other) es (recursion_from_All (IsRecorded history) es x.recorded) (recursion_from_All (IsRecorded other) es y.recorded)) in
    same-list history other (omega (arith, x.no_others, y.no_others)) (λ k lt. elim (cases_lt k (length given)) [
      | inl early ↦ given-get given history k x.begins early ∙ sym (given-get given other k y.begins early)
      | inr from ↦
          let end : k < length given + length (before (length rounds) es) = omega (arith, lt, x.no_others, ap length (before-end rounds sents)) in
          first-rounds (λ j. slice_get history j ≡ slice_get other j) (length given) es _ each (length rounds) (length rounds) placed.places (omega arith) k from end
    ])
