-- What a lane told by the history of its own seat, told by a longer one.
use Rattle.std.specs.Prelude.{◌≡◌, ℕ, ◌<◌, ◌≤◌, List, [], ◌∷◌, ◌++◌, length, take, Some, slice_get, slice_index_or}
use Rattle.std.proofs.Common.{sym, ap, ◌∙◌, arith, length-append}
use Rattle.std.proofs.Math.ListN.{get_or-append}
use Rattle.std.proofs.lemmas.List.{take-append-le}
use Rattle.std.proofs.lemmas.Option.{slice_get-get_or}
use Rattle.psi_bundle.specs.declared.history.Entry.{Entry}
use Rattle.psi_bundle.specs.Histories.{replay}
use Rattle.psi_turnstile.specs.Counting.{IsPrefix}
use Rattle.query_codec.specs.Replies.{reply_body}
use Rattle.psi_frames.specs.Requests.{asked_ciphertexts}
use Rattle.psi_frames.specs.Served.{Exchange}
use Rattle.psi_frames.proofs.EntryLists.{front-get}
use Rattle.live_sender.specs.declared.origin.Origin.{Origin}
use Rattle.live_sender.specs.Histories.{first_version}
use Rattle.live_sender.specs.Turns.{Known}
use Rattle.query_pool.specs.Joined.{IsPart}
use Rattle.query_pool.specs.Lanes.{IsLane}

pub prefix-length : {X : Type 0} (xs ys : List X) → IsPrefix xs ys → length xs ≤ length ys
prefix-length xs ys front = let size = ap length front.1 ∙ length-append xs front.0 in omega (arith, size)

pub lane_part_of : (z : Origin) (given history : List Entry) (v w : Known) (es : List Exchange) → IsLane z v w es → length given ≤ length v.seen → IsPrefix w.seen history → IsPart z given history es
lane_part_of z given history v w es lane behind front =
    let size = prefix-length w.seen history front in
    record {
      coded = lane.coded;
      others = lane.others;
      repacks = lane.repacks;
      recorded = λ i d lt x a place told.
          ap (λ (h : List Entry). slice_get h x) front.1 ∙ front-get w.seen front.0 x (lane.placed i d lt x place).1 ∙ lane.recorded i d lt x a place told;
      evaluated = λ i d lt x body place told.
          let le : x ≤ length w.seen = omega (arith, (lane.placed i d lt x place).1) in
          lane.evaluated i d lt x body place told
          ∙ ap (λ (h : List Entry). reply_body z.parameters (replay (first_version z) h).rows (asked_ciphertexts (slice_index_or es i d).request))
          (sym (ap (take x) front.1 ∙ take-append-le x w.seen front.0 le));
      full = λ i d lt refused. omega (arith, lane.full i d lt refused, size);
      froms = λ i d lt from x told place. let far = lane.froms i d lt from x told place in (omega (arith, behind, far.0), far.1);
      rising = lane.rising;
      stay = lane.stay;
      sees_own = lane.sees_own;
    }
