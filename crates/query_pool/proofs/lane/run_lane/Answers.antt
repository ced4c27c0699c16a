use Rattle.std.proofs.Common.{rules, ◌≡◌, ◌∙◌, ◌++◌, [], ◌∷◌, List, refl, sym, subst, arith}
use Rattle.std.specs.List.{All}
use Rattle.std.specs.Vec.Iter.{into_iter_items}
use Rattle.std.proofs.lemmas.List.{nil_from_length}
use Rattle.noise_ledger.specs.Verdicts.{parameters_of}
use Rattle.bundle_cache.specs.Queries.{ScratchOf}
use Rattle.psi_frames.specs.Requests.{IsFit}
use Rattle.query_pool.specs.declared.lane.Numbered.{Numbered}
use Rattle.query_pool.specs.Caching.{IsScratch}
use Rattle.query_pool.specs.Lanes.{asked}
use Rattle.query_pool.proofs.LaneRuns.{IsLaneUnderWay, lane_way-first, lane_way-more, lane_way-number, lane_way-ran, lane_way-told}
use Rattle.query_pool.proofs.lane.run_lane.Goals as goal

pub loop-numbered-init : goal.loop-numbered-init
loop-numbered-init g c =
    let p = parameters_of c.args.params.now in
    let v = c.args.lane.seat.knows in
    let given : into_iter_items c.into_iter-numbered-iterator.result ≡ c.args.lane.requests.items = c.into_iter-numbered-iterator.ensures.into_iter_gives.0 in
    record {
      way =
          lane_way-told p v v _ _ [] c.in_ok-replies.replies.items (sym c.in_ok-replies.ensures.items)
          (lane_way-first p v (into_iter_items c.into_iter-numbered-iterator.result) (subst (λ (ns : List Numbered). All (IsFit p) (asked ns)) (sym given) c.requires.fit));
      here = refl;
      scratch = c.requires.scratch;
    }

pub answer-requires-clause-here : goal.answer-requires-clause-here
answer-requires-clause-here g c _ _ = c.loop-numbered.invariant.here ∙ c.requires.here

pub answer-requires-clause-under : goal.answer-requires-clause-under
answer-requires-clause-under g c _ _ = λ z is. c.requires.under z (sym c.loop-numbered.invariant.way.base ∙ is)

pub answer-requires-clause-scratch : goal.answer-requires-clause-scratch
answer-requires-clause-scratch g c _ _ = c.loop-numbered.invariant.scratch

pub answer-requires-clause-fit : goal.answer-requires-clause-fit
answer-requires-clause-fit g c _ _ =
    let p = parameters_of c.args.params.now in
    let left = into_iter_items c.loop-numbered.numbered-iterator in
    let rest = into_iter_items c.next.new.self in
    let next : left ≡ c.in-Some.numbered ∷ rest = search rules in
    (subst (λ (ns : List Numbered). All (IsFit p) (asked ns)) next c.loop-numbered.invariant.way.fit) 0 c.in-Some.numbered.request (omega arith)

pub loop-numbered-preserved : goal.loop-numbered-preserved
loop-numbered-preserved g c =
    let p = parameters_of c.args.params.now in
    let v = c.args.lane.seat.knows in
    let w = c.loop-numbered.seat.knows in
    let u = c.answer.new.seat.knows in
    let n = c.in-Some.numbered in
    let left = into_iter_items c.loop-numbered.numbered-iterator in
    let rest = into_iter_items c.next.new.self in
    let all = into_iter_items c.into_iter-numbered-iterator.result in
    let told = c.loop-numbered.replies.items in
    let next : left ≡ n ∷ rest = search rules in
    let reply = c.in_ok-answer.field-0 in
    let was = subst (λ (ns : List Numbered). IsLaneUnderWay p v all ns w told) next c.loop-numbered.invariant.way in
    record {
      way =
          lane_way-told p v u all rest (told ++ reply ∷ []) c.push.new.self.items (sym c.in_ok-push.ensures.items)
          (lane_way-more p v w u all rest n told reply was c.in_ok-answer.ensures.base c.in_ok-answer.ensures.one c.in_ok-answer.ensures.fits);
      here = c.in_ok-answer.ensures.here ∙ c.loop-numbered.invariant.here;
      scratch = subst (λ (s : ScratchOf). IsScratch p s) (sym c.in_ok-answer.ensures.scratch) c.loop-numbered.invariant.scratch;
    }

pub returns-clause-here : goal.returns-clause-here
returns-clause-here g c = c.loop-numbered.invariant.here

pub returns-clause-ran : goal.returns-clause-ran
returns-clause-ran g c =
    let p = parameters_of c.args.params.now in
    let v = c.args.lane.seat.knows in
    let w = c.loop-numbered.seat.knows in
    let left = into_iter_items c.loop-numbered.numbered-iterator in
    let told = c.loop-numbered.replies.items in
    let none : left ≡ [] = nil_from_length left (omega (arith, c.loop-numbered.numbered-iterator.rest.ok.0, c.in-None.ensures.steps.0)) in
    let way = subst (λ (ns : List Numbered). IsLaneUnderWay p v ns left w told) c.into_iter-numbered-iterator.ensures.into_iter_gives.0 c.loop-numbered.invariant.way in
    lane_way-ran p v w c.args.lane.requests.items left told none way

pub returns-clause-one_each : goal.returns-clause-one_each
returns-clause-one_each g c =
    let p = parameters_of c.args.params.now in
    let v = c.args.lane.seat.knows in
    let w = c.loop-numbered.seat.knows in
    let left = into_iter_items c.loop-numbered.numbered-iterator in
    let told = c.loop-numbered.replies.items in
    let none : left ≡ [] = nil_from_length left (omega (arith, c.loop-numbered.numbered-iterator.rest.ok.0, c.in-None.ensures.steps.0)) in
    let way = subst (λ (ns : List Numbered). IsLaneUnderWay p v ns left w told) c.into_iter-numbered-iterator.ensures.into_iter_gives.0 c.loop-numbered.invariant.way in
    lane_way-number p v w c.args.lane.requests.items left told none way

pub returns-clause-fits : goal.returns-clause-fits
returns-clause-fits g c = c.loop-numbered.invariant.way.fits
