use Rattle.std.proofs.Common.{rules, ◌≡◌, ◌≤◌, ◌-◌, [], ◌∷◌, List, length, sym, ap, subst, arith}
use Rattle.std.specs.List.{All}
use Rattle.std.specs.Vec.Iter.{into_iter_items}
use Rattle.std.proofs.lemmas.List.{nil_from_length}
use Rattle.std.proofs.lemmas.List.Elements.{All-same, All-tail}
use Rattle.noise_ledger.specs.Verdicts.{parameters_of}
use Rattle.psi_frames.specs.declared.frame.Frame.{Frame}
use Rattle.psi_frames.specs.declared.request.Request.{Request}
use Rattle.psi_frames.specs.Frames.{IsFrame, request_table}
use Rattle.psi_frames.specs.Requests.{IsFit, asks_of_round, count_asks, requests_from}
use Rattle.psi_frames.proofs.RoundRequests.{Reads, all-fit, few-behind, few-requests, reads-all, reads-first, reads-more}
use Rattle.psi_frames.proofs.round_requests.requests_of_round.Goals as goal

pub loop-frame-init : goal.loop-frame-init
loop-frame-init c =
    let given : into_iter_items c.into_iter-frame-iterator.result ≡ c.args.frames.items = c.into_iter-frame-iterator.ensures.into_iter_gives.0 in
    record {
      reads = reads-first (parameters_of c.args.params.now) c.args.asks_before (into_iter_items c.into_iter-frame-iterator.result) c.in_ok-requests.requests.items c.in_ok-requests.ensures.items;
      each = All-same (IsFrame request_table) (into_iter_items c.into_iter-frame-iterator.result) c.args.frames.items given c.requires.each;
      asks = omega (arith, c.requires.few, ap length given);
    }

pub loop-frame-preserved : goal.loop-frame-preserved
loop-frame-preserved c =
    let p = parameters_of c.args.params.now in
    let f = c.in-Some.frame in
    let left = into_iter_items c.loop-frame.frame-iterator in
    let rest = into_iter_items c.next.new.self in
    let all = into_iter_items c.into_iter-frame-iterator.result in
    let next : left ≡ f ∷ rest = search rules in
    let was = c.loop-frame.invariant in
    record {
      reads = reads-more p c.args.asks_before c.loop-frame.asks c.asks_behind-asks.result f rest all c.loop-frame.requests.items c.add_request.new.requests.items (subst (λ (fs : List Frame). Reads p c.args.asks_before c.loop-frame.asks fs c.loop-frame.requests.items all) next was.reads) c.in_ok-add_request.ensures c.asks_behind-asks.ensures.number;
      each = All-tail (IsFrame request_table) f rest (subst (All (IsFrame request_table)) next was.each);
      asks = omega (arith, ap length next, c.asks_behind-asks.ensures.few, was.asks);
    }

pub returns-clause-requests : goal.returns-clause-requests
returns-clause-requests c =
    let none : into_iter_items c.loop-frame.frame-iterator ≡ [] =
    nil_from_length (into_iter_items c.loop-frame.frame-iterator) (omega (arith, c.loop-frame.frame-iterator.rest.ok.0, c.in-None.ensures.steps.0)) in
    let given : into_iter_items c.into_iter-frame-iterator.result ≡ c.args.frames.items = c.into_iter-frame-iterator.ensures.into_iter_gives.0 in
    reads-all (parameters_of c.args.params.now) c.args.asks_before c.loop-frame.asks (into_iter_items c.loop-frame.frame-iterator) c.loop-frame.requests.items (into_iter_items c.into_iter-frame-iterator.result) c.args.frames.items c.loop-frame.invariant.reads none given

pub returns-clause-fit : goal.returns-clause-fit
returns-clause-fit c =
    let p = parameters_of c.args.params.now in
    All-same (IsFit p) c.loop-frame.requests.items (requests_from p c.args.asks_before c.args.frames.items) (returns-clause-requests c) (all-fit p c.args.asks_before c.args.frames.items)

pub returns-clause-few : goal.returns-clause-few
returns-clause-few c =
    omega (arith, c.requires.few, few-requests (parameters_of c.args.params.now) c.args.asks_before c.args.frames.items, ap length (returns-clause-requests c))

pub returns-clause-few_asks : goal.returns-clause-few_asks
returns-clause-few_asks c = subst (λ (rs : List Request). count_asks rs ≤ asks_of_round - c.args.asks_before) (sym (returns-clause-requests c)) (few-behind (parameters_of c.args.params.now) c.args.asks_before c.args.frames.items)
