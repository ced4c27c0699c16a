-- What the replies to one round's requests are, and what they add to the rounds before.
use Rattle.std.specs.Prelude.{◌≡◌, ℕ, ◌≤◌, Bool, true, List, [], ◌∷◌, ◌++◌, length, map, Option, None, Some, IfSome}
use Rattle.std.specs.FinMap as fin
use Rattle.std.specs.List.{AllByRecursion, zip}
use Rattle.std.proofs.Common.{refl, sym, ap, ◌∙◌, arith, subst}
use Rattle.std.proofs.lemmas.List.{length-map, map-append}
use Rattle.std.proofs.lemmas.List.Elements.{recursion_from_All}
use Rattle.std.proofs.lemmas.Slice.Zip.{length-zip}
use Rattle.psi_residue.specs.Parameters.{Parameters}
use Rattle.psi_bundle.specs.declared.history.Entry.{Entry}
use Rattle.psi_bundle.specs.Histories.{IsLegal, replay}
use Rattle.psi_bundle.specs.Versions.{Version}
use Rattle.psi_frames.specs.declared.frame.Frame.{Frame}
use Rattle.psi_frames.specs.declared.reply.Reply.{Reply}
use Rattle.psi_frames.specs.declared.request.Request.{Request}
use Rattle.psi_frames.specs.declared.texts.Address.{Address}
use Rattle.psi_frames.specs.OneLane.{HasByteCode, HasNoStamps}
use Rattle.psi_frames.specs.Requests.{number_of, requests_from, session_of}
use Rattle.psi_frames.specs.Rounds.{request_rounds}
use Rattle.psi_frames.specs.Served.{IsOneLane, IsServed, Sent, addressed, exchanges, requests_of, text_of}
use Rattle.psi_frames.specs.Texts.{address_of, sent_to}
use Rattle.psi_frames.proofs.Joins.{round_joins, round_joins_lane}
use Rattle.psi_frames.proofs.NeverMoved.{never_moved}
use Rattle.psi_frames.proofs.RoundRequests.{codes-of, few-requests}
use Rattle.psi_frames.proofs.Sending.{sent-addressed}
use Rattle.query_pool.specs.Servers.{AnswersFrames, State}
use Rattle.query_pool.specs.Serving.{Rule}
use Rattle.sender_core.specs.Kept.{Contents, start_of, version_of}
use Rattle.psi_serve.specs.Books.{IsBookUnder, IsOwnBook}
use Rattle.psi_serve.specs.Rounds.{HasAnsweredRound}
use Rattle.psi_serve.specs.Serving.{AreServedAlong, HasServedFrom, ServeSet, SetKind, kind_of, one_set}

-- the requests of rounds have none of a full journal
no-codes : (p : Parameters) (rounds : List (List Frame)) → AllByRecursion HasByteCode (requests_of (request_rounds p rounds))
no-codes p rounds = recursion_from_All HasByteCode (requests_of (request_rounds p rounds)) (codes-of p rounds)

-- the requests of rounds and one round more
rounds-more : (p : Parameters) (rounds : List (List Frame)) (round : List Frame) → request_rounds p (rounds ++ round ∷ []) ≡ request_rounds p rounds ++ requests_from p 0 round ∷ []
rounds-more p rounds round = map-append (requests_from p 0) rounds (round ∷ [])

-- their text, by the addresses and the replies that were lent
pub text-addressed : (text : List ℕ) (requests lent : List Request) (addresses lent_addresses : List Address) (replies lent_replies : List Reply)
    → text ≡ text_of (sent_to lent_addresses lent_replies) → lent_addresses ≡ addresses → lent_replies ≡ replies → addresses ≡ map address_of lent → lent ≡ requests
    → text ≡ text_of (addressed requests replies)
text-addressed text requests lent addresses lent_addresses replies lent_replies told a b c d =
    told ∙ (λ i. text_of (sent_to ((a ∙ c ∙ ap (map address_of) d) i) (b i))) ∙ ap text_of (sent-addressed requests replies)

-- there are as many as replies
pub length-addressed : (requests : List Request) (replies : List Reply) → length replies ≡ length requests → length (addressed requests replies) ≡ length replies
length-addressed requests replies same =
    length-map {A = Request × Reply} {B = Sent} (zip requests replies) (λ e. record { session = session_of e.0; number = number_of e.0; reply = e.1 }) ∙ length-zip requests replies ∙ omega (arith, same)

-- the start of a book that keeps its parameters and its start
pub same-start : {C : Type 0} (old new : Contents C) → new.parameters ≡ old.parameters → new.start ≡ old.start → start_of new ≡ start_of old
same-start old new same begun = λ i. record { parameters = same i; count = 0; labels = fin.from_entries (begun i).labels; rows = (begun i).rows }

-- the book that was there
pub old-under : {C : Type 0} (p : Parameters) (before : Option (Contents C)) (old : Contents C) → before ≡ Some old → IsOwnBook p before → IsBookUnder p old
old-under {C} p before old was own = subst (λ (b : Option (Contents C)). IfSome b (IsBookUnder p)) was own

-- A round that a book has answered.
module _ {C : Type 0} (p : Parameters) (alone : Bool) (old new : Contents C) (frames : List Frame) (requests : List Request) (replies : List Reply)
    (own : IsBookUnder p old) (are : requests ≡ requests_from p 0 frames) (has : HasAnsweredRound p alone old new requests replies) where
  under : old.parameters ≡ p
  under = own.parameters

  few-next : length (addressed requests replies) ≤ length frames
  few-next = omega (arith, length-addressed requests replies has.one_each, has.one_each, ap length are, few-requests p 0 frames)

  round-served : IsServed p (start_of old) old.journal new.journal (requests_from p 0 frames ∷ []) (addressed requests replies)
  round-served = subst (λ (rs : List Request). IsServed p (start_of old) old.journal new.journal (rs ∷ []) (addressed requests replies)) are has.served

  round-lane : alone ≡ true → IsOneLane (exchanges (requests_from p 0 frames ∷ []) (addressed requests replies))
  round-lane e = subst (λ (rs : List Request). IsOneLane (exchanges (rs ∷ []) (addressed requests replies))) are (has.one_lane e)

  -- it serves behind the rounds before
  along : (rounds : List (List Frame)) (sents : List Sent) → AreServedAlong p (start_of old) alone old.journal rounds sents
      → AreServedAlong p (start_of old) alone new.journal (rounds ++ frames ∷ []) (sents ++ addressed requests replies)
  along rounds sents was =
      let next = addressed requests replies in
      let all_served : IsServed p (start_of old) [] new.journal (request_rounds p (rounds ++ frames ∷ [])) (sents ++ next) =
      subst (λ (all : List (List Request)). IsServed p (start_of old) [] new.journal all (sents ++ next)) (sym (rounds-more p rounds frames))
      (round_joins p (start_of old) [] old.journal new.journal (request_rounds p rounds) (requests_from p 0 frames) sents next was.served round-served (no-codes p rounds)) in
      let lane : alone ≡ true → IsOneLane (exchanges (request_rounds p (rounds ++ frames ∷ [])) (sents ++ next)) =
      λ e. subst (λ (all : List (List Request)). IsOneLane (exchanges all (sents ++ next))) (sym (rounds-more p rounds frames))
      (round_joins_lane p (start_of old) [] old.journal new.journal (request_rounds p rounds) (requests_from p 0 frames) sents next was.served round-served (no-codes p rounds)
      (was.one_lane e) (round-lane e)) in
      record {
        served = all_served;
        one_lane = lane;
        unmoved = λ e. never_moved p (start_of old) [] new.journal (request_rounds p (rounds ++ frames ∷ [])) (sents ++ next) refl own.no_stamps all_served (lane e);
      }

  behind : (rounds : List (List Frame)) (sents : List Sent) → HasServedFrom alone (Some old) rounds sents
      → AreServedAlong p (start_of old) alone new.journal (rounds ++ frames ∷ []) (sents ++ addressed requests replies)
  behind rounds sents was = along rounds sents (subst (λ (q : Parameters). AreServedAlong q (start_of old) alone old.journal rounds sents) under was)

  goes-on : (rounds : List (List Frame)) (sents : List Sent) → HasServedFrom alone (Some old) rounds sents
      → HasServedFrom alone (Some new) (rounds ++ frames ∷ []) (sents ++ addressed requests replies)
  goes-on rounds sents was =
      subst (λ (q : Parameters). AreServedAlong q (start_of new) alone new.journal (rounds ++ frames ∷ []) (sents ++ addressed requests replies)) (sym (has.parameters ∙ under))
      (subst (λ (v : Version). AreServedAlong p v alone new.journal (rounds ++ frames ∷ []) (sents ++ addressed requests replies)) (sym (same-start old new has.parameters has.start))
      (behind rounds sents was))

  serves : (rounds : List (List Frame)) (sents : List Sent) → HasServedFrom alone (Some old) rounds sents
      → ServeSet alone (Some (start_of old)) (rounds ++ frames ∷ []) (sents ++ addressed requests replies)
  serves rounds sents was = (
    new.journal,
    subst (λ (q : Parameters). AreServedAlong q (start_of old) alone new.journal (rounds ++ frames ∷ []) (sents ++ addressed requests replies)) (sym under) (behind rounds sents was),
  )

  stays : IsBookUnder p new
  stays =
      let start = same-start old new has.parameters has.start in
      record {
        parameters = has.parameters ∙ under;
        legal = subst (λ (v : Version). IsLegal v new.journal) (sym start) has.served.served.stepped.legal;
        leads = subst (λ (v : Version). replay v new.journal ≡ version_of new) (sym start) has.leads;
        no_stamps = subst HasNoStamps (sym start) own.no_stamps;
      }

  -- of a book that was there, and is there again
  module _ (before after : Option (Contents C)) (was : before ≡ Some old) (is : after ≡ Some new) where
    pub own-stays : IsOwnBook p after
    own-stays = subst (λ (b : Option (Contents C)). IfSome b (IsBookUnder p)) (sym is) stays

    pub kind-stays : (later : Bool) → later ≡ alone → kind_of later after ≡ kind_of alone before
    kind-stays later same = ap (λ (b : Bool). kind_of b after) same ∙ ap (kind_of alone) is ∙ ap (λ (v : Version). record { alone = alone; start = Some v }) (same-start old new has.parameters has.start) ∙ sym (ap (kind_of alone) was)

    pub answers-frames : (later : Bool) → later ≡ alone → (waited waiting : List Frame) → waited ≡ frames → waiting ≡ [] → (text : List ℕ) (number : ℕ) → text ≡ text_of (addressed requests replies) → number ≡ length replies
        → AnswersFrames (one_set (kind_of alone before)) (λ rounds sents w. (waited ≡ w) × HasServedFrom alone before rounds sents) (λ rounds sents w. (waiting ≡ w) × HasServedFrom later after rounds sents) text number
    answers-frames later same waited waiting these none text number told counted =
        let next = addressed requests replies in
        record {
          next = next;
          text_is = told;
          number_is = counted ∙ sym (length-addressed requests replies has.one_each);
          answers = record {
            few = λ rounds sents w state. subst (λ (fs : List Frame). length next ≤ length fs) (sym these ∙ state.0) few-next;
            goes_on = λ rounds sents w state. (
              none,
              subst (λ (l : Bool). HasServedFrom l after (rounds ++ w ∷ []) (sents ++ next)) (sym same)
                  (subst (λ (b : Option (Contents C)). HasServedFrom alone b (rounds ++ w ∷ []) (sents ++ next)) (sym is)
                  (subst (λ (fs : List Frame). HasServedFrom alone (Some new) (rounds ++ fs ∷ []) (sents ++ next)) (sym these ∙ state.0)
                  (goes-on rounds sents (subst (λ (b : Option (Contents C)). HasServedFrom alone b rounds sents) was state.1)))),
            );
            serves = λ rounds sents w state.
                subst (λ (k : SetKind). ServeSet k.alone k.start (rounds ++ w ∷ []) (sents ++ next)) (sym (ap (kind_of alone) was))
                (subst (λ (fs : List Frame). ServeSet alone (Some (start_of old)) (rounds ++ fs ∷ []) (sents ++ next)) (sym these ∙ state.0)
                (serves rounds sents (subst (λ (b : Option (Contents C)). HasServedFrom alone b rounds sents) was state.1)));
          };
        }
