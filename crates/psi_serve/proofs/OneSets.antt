-- What the rule of one set says of frames, in the words of rounds of requests.
use Rattle.std.specs.Prelude.{◌≡◌, ℕ, ◌+◌, ◌<◌, Bool, IsTrue, List, [], length, take, slice_index_or, Some}
use Rattle.std.specs.List.{All}
use Rattle.std.proofs.Common.{sym, ap, ◌∙◌, subst, arith}
use Rattle.std.proofs.lemmas.List.{get_or_default, length-take, take-append-drop}
use Rattle.std.proofs.Math.ListN.{get_or-append}
use Rattle.psi_bundle.specs.Versions.{Version}
use Rattle.psi_frames.specs.declared.frame.Frame.{Frame}
use Rattle.psi_frames.specs.Rounds.{AreRounds, IsRound, is_full}
use Rattle.psi_frames.specs.Served.{Sent}
use Rattle.query_pool.specs.Serving.{AreServedBy, FallInto, IsRoundOf}
use Rattle.psi_serve.specs.Serving.{AreRepliesTo, SetKind, one_set}

pub round-of : (kind : SetKind) (before : List (List Frame)) (round : List Frame) → IsRoundOf (one_set kind) before round → IsRound round
round-of kind before round is = record { some = is.some; first_full = is.first_end }

-- the number of a round among the first ones
round-front : (rounds : List (List Frame)) (n k : ℕ) (d : List Frame) → k < length (take n rounds) → slice_index_or (take n rounds) k d ≡ slice_index_or rounds k []
round-front rounds n k d lt =
    get_or_default (take n rounds) k d [] lt
    ∙ sym (get_or-append (take n rounds) _ [] k lt)
    ∙ ap (λ (rs : List (List Frame)). slice_index_or rs k []) (take-append-drop n rounds)

pub are-rounds : (kind : SetKind) (rounds : List (List Frame)) (frames : List Frame) → FallInto (one_set kind) rounds frames → AreRounds rounds frames
are-rounds kind rounds frames fall = record {
  all = fall.all;
  each = λ k d lt. subst IsRound (sym (get_or_default rounds k d [] lt)) (round-of kind (take k rounds) (slice_index_or rounds k []) (fall.each k lt));
  full = λ n lt k d less.
      let short : k + 1 < length rounds = omega (arith, less, lt, length-take (n + 1) rounds) in
      subst (λ (r : List Frame). IsTrue (is_full r)) (sym (round-front rounds (n + 1) k d less)) (fall.ended k short);
}

-- replies by the rule of a set are replies to its frames
pub replies-of : (start : Version) (alone : Bool) (frames : List Frame) (sents : List Sent) → AreServedBy (one_set (record { alone = alone; start = Some start })) frames sents
    → AreRepliesTo start.parameters start alone frames sents
replies-of start alone frames sents served = record {
  rounds = served.rounds;
  are_rounds = are-rounds (record { alone = alone; start = Some start }) served.rounds frames served.fall_into;
  serve = served.serves;
}
