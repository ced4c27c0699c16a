-- A round that one lane answers serves it, from the book that the rounds before left.
use Rattle.std.specs.Prelude.{◌≡◌, ℕ, true, List, [], ◌∷◌, ◌++◌, length, Option, None, Some, Result, Ok, Err, IfOk}
use Rattle.std.specs.List.{All, AllByRecursion, fold}
use Rattle.std.proofs.Common.{refl, sym, ap, ◌∙◌, subst, append-nil}
use Rattle.std.proofs.lemmas.List.Elements.{All-weaker, recursion_from_All}
use Rattle.std.proofs.lemmas.List.Sums.{fold-append}
use Rattle.psi_residue.specs.Parameters.{Parameters}
use Rattle.psi_bundle.specs.declared.history.Call.{Call}
use Rattle.psi_bundle.specs.declared.history.Entry.{Entry}
use Rattle.psi_bundle.specs.Histories.{IsLegal, after, replay}
use Rattle.psi_bundle.specs.Versions.{Version}
use Rattle.psi_frames.specs.declared.reply.Reply.{Reply}
use Rattle.psi_frames.specs.declared.request.Request.{Request}
use Rattle.psi_frames.specs.Frames.{answer_fits}
use Rattle.psi_frames.specs.OneLane.{HasByteCode, call_on, entries_by, lane_history, lane_next, lane_replies, version_by}
use Rattle.psi_frames.specs.Requests.{IsFit}
use Rattle.psi_frames.specs.Served.{AreServed, Exchange, IsOneLane, IsServed, Sent, addressed, exchanges}
use Rattle.psi_frames.proofs.Lanes.{addresses, seconds}
use Rattle.psi_frames.proofs.Following.{numbered_from, seconds-numbered}
use Rattle.psi_frames.proofs.LaneServes.{exchanges-lane, lane-legal, lane-one, lane-served, legal-join}
use Rattle.sender_core.specs.Kept.{Contents, start_of, version_of}
use Rattle.psi_serve.specs.Books.{IsBookUnder}
use Rattle.psi_serve.specs.Rounds.{HasAnsweredRound, IsAsked}
use Rattle.psi_frames.proofs.RoundRequests.{fit-code}
use Rattle.psi_frames.proofs.Renumbered.{each-seconds}

-- the requests of one round
requests-one : (requests : List Request) → seconds (numbered_from 0 (requests ∷ [])) ≡ requests
requests-one requests = seconds-numbered 0 (requests ∷ []) ∙ append-nil requests

-- where the entries of one lane lead
entries-lead : (v : Version) (o : Option Call) → replay v (entries_by v o) ≡ version_by v o
entries-lead v None = refl
entries-lead v (Some c) = refl

lane-leads : (v : Version) (requests : List Request) → replay v (lane_history v requests) ≡ fold lane_next v requests
unfolding lane_history
lane-leads v [] = refl
lane-leads v (r ∷ rs) =
    fold-append after v (entries_by v (call_on v r)) (lane_history (lane_next v r) rs)
    ∙ ap (λ (w : Version). replay w (lane_history (lane_next v r) rs)) (entries-lead v (call_on v r))
    ∙ lane-leads (lane_next v r) rs

-- From a start without entries, behind a legal history.
module _ (p : Parameters) (start : Version) (given : List Entry) (requests : List Request) (none_yet : start.count ≡ 0) (legal : IsLegal start given) (fit : All (IsFit p) requests) where
  abbrev rounds : List (List Request)
  rounds = requests ∷ []

  bytes : AllByRecursion (λ n. HasByteCode n.1) (numbered_from 0 rounds)
  bytes =
      each-seconds HasByteCode (numbered_from 0 rounds)
      (subst (AllByRecursion HasByteCode) (sym (requests-one requests)) (recursion_from_All HasByteCode requests (All-weaker (IsFit p) HasByteCode (fit-code p) requests fit)))

  pub lane-round_all : IsServed p start given (given ++ lane_history (replay start given) (seconds (numbered_from 0 rounds))) rounds (lane_replies p (replay start given) (requests ++ []))
  lane-round_all = record {
    one_each = addresses p (replay start given) (requests ++ []);
    served = subst (λ (es : List Exchange). AreServed p start given (given ++ lane_history (replay start given) (seconds (numbered_from 0 rounds))) rounds es)
        (sym (exchanges-lane p start given rounds none_yet legal bytes)) (lane-served p start given rounds none_yet legal bytes);
  }

  pub lane-round : IsServed p start given (given ++ lane_history (replay start given) requests) rounds (lane_replies p (replay start given) requests)
  lane-round =
      subst (λ (rs : List Request). IsServed p start given (given ++ lane_history (replay start given) rs) rounds (lane_replies p (replay start given) requests)) (requests-one requests)
      (subst (λ (rs : List Request). IsServed p start given (given ++ lane_history (replay start given) (seconds (numbered_from 0 rounds))) rounds (lane_replies p (replay start given) rs)) (append-nil requests) lane-round_all)

  pub lane-round_one : IsOneLane (exchanges rounds (lane_replies p (replay start given) requests))
  lane-round_one =
      subst (λ (rs : List Request). IsOneLane (exchanges rounds (lane_replies p (replay start given) rs))) (append-nil requests)
      (subst IsOneLane (sym (exchanges-lane p start given rounds none_yet legal bytes)) (lane-one p start given rounds none_yet legal bytes))

-- The round of a book that stands behind the rounds before.
module _ {C : Type 0} (p : Parameters) (old new : Contents C) (requests : List Request) (replies : List Reply) (of : IsBookUnder p old) (fit : All (IsFit p) requests)
    (replied : addressed requests replies ≡ lane_replies p (version_of old) requests) (entered : new.journal ≡ old.journal ++ lane_history (version_of old) requests) where
  lane-served_book : IsServed p (start_of old) old.journal new.journal (requests ∷ []) (addressed requests replies)
  lane-served_book =
      let start = start_of old in
      subst (λ (s : List Sent). IsServed p start old.journal new.journal (requests ∷ []) s) (sym replied)
      (subst (λ (j : List Entry). IsServed p start old.journal j (requests ∷ []) (lane_replies p (version_of old) requests)) (sym entered)
      (subst (λ (v : Version). IsServed p start old.journal (old.journal ++ lane_history v requests) (requests ∷ []) (lane_replies p v requests)) of.leads
      (lane-round p start old.journal requests refl of.legal fit)))

  lane-one_book : IsOneLane (exchanges (requests ∷ []) (addressed requests replies))
  lane-one_book =
      subst (λ (s : List Sent). IsOneLane (exchanges (requests ∷ []) s)) (sym replied)
      (subst (λ (v : Version). IsOneLane (exchanges (requests ∷ []) (lane_replies p v requests))) of.leads (lane-round_one p (start_of old) old.journal requests refl of.legal fit))

  pub lane-answers : version_of new ≡ fold lane_next (version_of old) requests → length replies ≡ length requests → All answer_fits replies → new.parameters ≡ old.parameters → new.start ≡ old.start
      → HasAnsweredRound p true old new requests replies
  lane-answers led each fits same begun = record {
    served = lane-served_book;
    one_lane = λ _. lane-one_book;
    one_each = each;
    fits = fits;
    parameters = same;
    start = begun;
    leads = ap (replay (start_of old)) entered ∙ fold-append after (start_of old) old.journal (lane_history (version_of old) requests)
        ∙ ap (λ (v : Version). replay v (lane_history (version_of old) requests)) of.leads ∙ lane-leads (version_of old) requests ∙ sym led;
  }

-- the same for a call's result
pub answered-alone : {C R E : Type 0} (p : Parameters) (old : Contents C) (requests : List Request) (result : Result R E) (book : R → Contents C) (replies : R → List Reply) → IsAsked p old requests
    → IfOk result (λ r. length (replies r) ≡ length requests) → IfOk result (λ r. addressed requests (replies r) ≡ lane_replies p (version_of old) requests)
    → IfOk result (λ r. (book r).journal ≡ old.journal ++ lane_history (version_of old) requests) → IfOk result (λ r. version_of (book r) ≡ fold lane_next (version_of old) requests)
    → IfOk result (λ r. (book r).parameters ≡ old.parameters) → IfOk result (λ r. (book r).start ≡ old.start) → IfOk result (λ r. All answer_fits (replies r))
    → IfOk result (λ r. HasAnsweredRound p true old (book r) requests (replies r))
answered-alone p old requests (Ok r) book replies asked each told entered led same begun fits = lane-answers p old (book r) requests (replies r) asked.under asked.fit told entered led each fits same begun
answered-alone p old requests (Err e) book replies asked each told entered led same begun fits = tt
