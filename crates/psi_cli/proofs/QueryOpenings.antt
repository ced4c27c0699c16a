-- Answers to queries open to what is found in the sets at their places.
use Rattle.std.proofs.Common.{◌≡◌, ◌≤◌, ℕ, List, [], ◌∷◌, map, take, Some, refl, sym, ap, ◌∙◌, subst, get_or}
use Rattle.std.specs.List.{All, flat_map}
use Rattle.item_slots.specs.Tags.{tag_of}
use Rattle.cuckoo_place.specs.Placements.{IsPlacement}
use Rattle.psi_residue.specs.Parameters.{Parameters}
use Rattle.noise_ledger.specs.Verdicts.{ArePassed}
use Rattle.psi_bundle.specs.declared.history.Entry.{Entry}
use Rattle.psi_bundle.specs.Histories.{HasBytes, HoldBytes, IsFitting, after, replay, version_at}
use Rattle.psi_bundle.specs.Versions.{IsSound, Version, empty_version}
use Rattle.query_codec.specs.Replies.{reply_body}
use Rattle.sender_core.proofs.HistoryBytes.{empty-bytes, versions-bytes}
use Rattle.sender_core.proofs.SoundHistories.{sound-version_at}
use Rattle.sender_core.proofs.SoundSteps.{sound-empty, step-parameters}
use Rattle.psi_frames.specs.declared.frame.Frame.{Frame}
use Rattle.psi_frames.specs.Frames.{IsFrame, request_table}
use Rattle.psi_frames.specs.Rounds.{request_rounds}
use Rattle.psi_frames.specs.Served.{Exchange, IsEvaluated, IsServed, Sent, body_of, exchanges, place_of}
use Rattle.psi_receiver.specs.declared.placement.Placed.{Placed}
use Rattle.psi_receiver.specs.Findings.{found}
use Rattle.psi_receiver.specs.Laws.{opened_from, reply_to}
use Rattle.psi_receiver.specs.Placements.{placed_tags, position_sets}
use Rattle.psi_receiver.specs.Queries.{encrypted_powers}
use Rattle.psi_receiver.proofs.Encryptions.{query-read}
use Rattle.psi_receiver.proofs.Joined.{opened-found}
use Rattle.psi_receiver.proofs.Members.{item-found, unfound-missing}
use Rattle.query_pool.proofs.Telling.{replay-parameters}
use Rattle.psi_cli.specs.QueryAnswers.{AnswersOpen, AsksQuery, OpensToFound, TellOf, TellsOfItems, opened_by}
use Rattle.psi_cli.proofs.Entries.{entries-taken}
use Rattle.psi_cli.proofs.Fitting.{rounds-taken}

-- a set that holds bytes, is sound, and has these parameters
pub record IsKnown (p : Parameters) (v : Version) : Type 0 where
  pub parameters : v.parameters ≡ p
  pub sound : IsSound v
  pub bytes : HoldBytes v.labels

-- the empty set is one
pub empty-known : (p : Parameters) → IsKnown p (empty_version p)
empty-known p = record { parameters = refl; sound = sound-empty p; bytes = empty-bytes p }

-- the sets at the places of a history from such a set
known : (p : Parameters) (start : Version) (history : List Entry) → ArePassed p → IsKnown p start → All (λ x. IsFitting p x.call × HasBytes x.call) history → (k : ℕ)
    → IsKnown p (version_at start history k)
known p start history passed begins taken k = record {
  parameters = replay-parameters start (take k history) ∙ begins.parameters;
  sound = sound-version_at start history (record { some_rows = subst (λ (q : Parameters). 1 ≤ q.rows) (sym begins.parameters) passed.ranges.some_rows; some_members = subst (λ (q : Parameters). 1 ≤ q.capacity) (sym begins.parameters) passed.ranges.some_members }) begins.sound
      (λ i d lt. subst (λ (q : Parameters). IsFitting q (get_or history i d).call) (sym begins.parameters) (taken i d lt).0) k;
  bytes = versions-bytes start history begins.bytes (λ i d lt. (taken i d lt).1) k;
}

-- the body of an answer to such a query is that of the set's reply
its-body : (p : Parameters) (start : Version) (history : List Entry) (e : Exchange) (place : ℕ) (body seed : List ℕ) (xs : List Placed) → IsKnown p (version_at start history place) → IsEvaluated p start history e
    → place_of e.reply ≡ Some place → body_of e.reply ≡ Some body → AsksQuery p seed xs e.request → body ≡ reply_to (version_at start history place) seed xs
its-body p start history e place body seed xs set evaluated at tells asks =
    let v = version_at start history place in
    evaluated place body at tells
    ∙ ap (reply_body p v.rows) (asks ∙ query-read p seed xs)
    ∙ ap (λ (q : Parameters). reply_body q v.rows (encrypted_powers q seed xs)) (sym set.parameters)

-- and it opens so
its-opening : (p : Parameters) (v : Version) (seed : List ℕ) (xs : List Placed) (body : List ℕ) → v.parameters ≡ p → body ≡ reply_to v seed xs → opened_by p seed xs body ≡ opened_from v seed xs
its-opening p v seed xs body same is = (λ i. opened_by (sym same i) seed xs (is i))

opens-one : (p : Parameters) (start : Version) (history : List Entry) (e : Exchange) → ArePassed p → ((k : ℕ) → IsKnown p (version_at start history k)) → IsEvaluated p start history e → OpensToFound p start history e
opens-one p start history e passed sets evaluated place body seed tags places at tells bytes placement asks =
    let v = version_at start history place in
    let set = sets place in
    let xs = placed_tags tags places in
    its-opening p v seed xs body set.parameters (its-body p start history e place body seed xs set evaluated at tells asks)
    ∙ opened-found v seed tags places (subst ArePassed (sym set.parameters) passed) set.sound set.bytes bytes (subst (λ (q : Parameters). IsPlacement (position_sets q.rows tags) places) (sym set.parameters) placement)
    ∙ ap (λ (q : Parameters). found q v.rows xs) set.parameters

tells-one : (p : Parameters) (start : Version) (history : List Entry) (e : Exchange) → ArePassed p → ((k : ℕ) → IsKnown p (version_at start history k)) → IsEvaluated p start history e → TellsOfItems p start history e
tells-one p start history e passed sets evaluated place body seed items places at tells placement asks i within =
    let v = version_at start history place in
    let set = sets place in
    let xs = placed_tags (map tag_of items) places in
    let passes = subst ArePassed (sym set.parameters) passed in
    let fits = subst (λ (q : Parameters). IsPlacement (position_sets q.rows (map tag_of items)) places) (sym set.parameters) placement in
    let opening = its-opening p v seed xs body set.parameters (its-body p start history e place body seed xs set evaluated at tells asks) in
    subst (λ fs. TellOf v items fs i) (sym opening) (record {
      member = λ label has. item-found v seed items places passes set.sound set.bytes fits i label within has;
      missing = unfound-missing v seed items places passes set.sound set.bytes fits i within;
    })

-- The answers of a run open to what is found: from any sound start that holds bytes, behind any history of calls that such a set takes.
pub answers-open : (p : Parameters) (start : Version) (given : List Entry) (frames : List Frame) (rounds : List (List Frame)) (history : List Entry) (sents : List Sent)
    → ArePassed p → IsKnown p start → All (λ x. IsFitting p x.call × HasBytes x.call) given
    → All (IsFrame request_table) frames → frames ≡ flat_map (λ round. round) rounds → IsServed p start given history (request_rounds p rounds) sents
    → AnswersOpen p start history (exchanges (request_rounds p rounds) sents)
answers-open p start given frames rounds history sents passed begins each_given each all served =
    let es = exchanges (request_rounds p rounds) sents in
    let sets = known p start history passed begins (entries-taken p start given history (request_rounds p rounds) sents each_given (rounds-taken p frames rounds each all) served) in
    record {
      found = λ k d lt. opens-one p start history (get_or es k d) passed sets (served.served.evaluated k d lt);
      items = λ k d lt. tells-one p start history (get_or es k d) passed sets (served.served.evaluated k d lt);
    }
