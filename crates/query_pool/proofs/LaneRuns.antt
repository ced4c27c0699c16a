-- A lane on its way through its requests.
use Rattle.std.specs.Prelude.{◌≡◌, List, [], ◌∷◌, ◌++◌, length}
use Rattle.std.specs.List.{All}
use Rattle.std.proofs.Common.{refl, sym, ap, ◌∙◌, subst, arith, append_assoc, append-nil, length-append}
use Rattle.std.proofs.lemmas.List.{length-map, map-append}
use Rattle.std.proofs.lemmas.List.Elements.{All-push, All-tail}
use Rattle.psi_residue.specs.Parameters.{Parameters}
use Rattle.psi_frames.specs.declared.reply.Reply.{Reply}
use Rattle.psi_frames.specs.declared.request.Request.{Request}
use Rattle.psi_frames.specs.Frames.{answer_fits}
use Rattle.psi_frames.specs.Requests.{IsFit}
use Rattle.live_sender.specs.declared.origin.Origin.{Origin}
use Rattle.live_sender.specs.Turns.{Known, IsSeated}
use Rattle.query_pool.specs.declared.lane.Numbered.{Numbered}
use Rattle.query_pool.specs.Exchanges.{IsOne, lane_exchange}
use Rattle.query_pool.specs.Lanes.{IsLane, asked, lane_exchanges}
use Rattle.query_pool.proofs.OneByOne.{exchanges-push, lane-more, lane-none, lane-seated}

-- Some requests are done, and these are left; the seat went from v to w.
pub record IsLaneUnderWay (p : Parameters) (v : Known) (all left : List Numbered) (w : Known) (told : List Reply) : Type 0 where
  pub done : List Numbered
  pub parts : all ≡ done ++ left
  pub number : length told ≡ length done
  pub base : w.base ≡ v.base
  pub ran : (z : Origin) → IsSeated z v → IsLane z v w (lane_exchanges (asked done) told)
  pub fit : All (IsFit p) (asked left)
  pub fits : All answer_fits told

pub lane_way-first : (p : Parameters) (v : Known) (all : List Numbered) → All (IsFit p) (asked all) → IsLaneUnderWay p v all all v []
lane_way-first p v all fit = record {
  done = [];
  parts = refl;
  number = refl;
  base = refl;
  ran = λ z seated. lane-none z v seated;
  fit = fit;
  fits = λ k d lt. absurd (omega arith);
}

-- one request more
pub lane_way-more : (p : Parameters) (v w u : Known) (all rest : List Numbered) (n : Numbered) (told : List Reply) (t : Reply) → IsLaneUnderWay p v all (n ∷ rest) w told → u.base ≡ w.base
    → ((z : Origin) → IsSeated z w → IsOne z w u (lane_exchange n.request t)) → answer_fits t → IsLaneUnderWay p v all rest u (told ++ t ∷ [])
lane_way-more p v w u all rest n told t h base one fits =
    let count : length told ≡ length (asked h.done) = h.number ∙ sym (length-map h.done (λ (m : Numbered). m.request)) in
    let same : lane_exchanges (asked (h.done ++ n ∷ [])) (told ++ t ∷ []) ≡ lane_exchanges (asked h.done) told ++ lane_exchange n.request t ∷ [] =
    ap (λ (rs : List Request). lane_exchanges rs (told ++ t ∷ [])) (map-append (λ (m : Numbered). m.request) h.done (n ∷ []))
    ∙ exchanges-push (asked h.done) told n.request t count in
    record {
      done = h.done ++ n ∷ [];
      parts = h.parts ∙ sym (append_assoc h.done (n ∷ []) rest);
      number = length-append told (t ∷ []) ∙ omega (arith, h.number, length-append h.done (n ∷ []));
      base = base ∙ h.base;
      ran = λ z seated.
          let l = h.ran z seated in
          let es = lane_exchanges (asked h.done) told in
          subst (IsLane z v u) (sym same) (lane-more z v w u es (lane_exchange n.request t) l (one z (lane-seated z v w es seated l)));
      fit = All-tail (IsFit p) n.request (asked rest) h.fit;
      fits = All-push answer_fits told t h.fits fits;
    }

-- with equal replies, or seats
pub lane_way-told : (p : Parameters) (v w : Known) (all left : List Numbered) (told same : List Reply) → told ≡ same → IsLaneUnderWay p v all left w told → IsLaneUnderWay p v all left w same
lane_way-told p v w all left told same is h = subst (λ (ts : List Reply). IsLaneUnderWay p v all left w ts) is h

-- behind the last request
all-done : (p : Parameters) (v w : Known) (all left : List Numbered) (told : List Reply) → left ≡ [] → (h : IsLaneUnderWay p v all left w told) → h.done ≡ all
all-done p v w all left told none h = sym (append-nil h.done) ∙ ap (λ (ns : List Numbered). h.done ++ ns) (sym none) ∙ sym h.parts

pub lane_way-ran : (p : Parameters) (v w : Known) (all left : List Numbered) (told : List Reply) → left ≡ [] → IsLaneUnderWay p v all left w told
    → (z : Origin) → IsSeated z v → IsLane z v w (lane_exchanges (asked all) told)
lane_way-ran p v w all left told none h = λ z seated.
    subst (λ (ns : List Numbered). IsLane z v w (lane_exchanges (asked ns) told)) (all-done p v w all left told none h) (h.ran z seated)

pub lane_way-number : (p : Parameters) (v w : Known) (all left : List Numbered) (told : List Reply) → left ≡ [] → IsLaneUnderWay p v all left w told → length told ≡ length all
lane_way-number p v w all left told none h = h.number ∙ ap length (all-done p v w all left told none h)
