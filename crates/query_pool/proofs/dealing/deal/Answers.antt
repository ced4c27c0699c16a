use Rattle.std.proofs.Common.{rules, ◌≡◌, ◌∙◌, ◌++◌, [], ◌∷◌, List, ℕ, ap, subst}
use Rattle.std.specs.Vec.Iter.{into_iter_items}
use Rattle.psi_frames.specs.declared.request.Request.{Request}
use Rattle.query_pool.specs.Dealing.{asked_lists}
use Rattle.query_pool.specs.Joined.{lane_of, list_at, picked}
use Rattle.query_pool.proofs.Handing.{IsDealt, dealt-more, dealt-none}
use Rattle.query_pool.proofs.Shares.{lists-number}
use Rattle.query_pool.proofs.dealing.deal.Goals as goal

pub loop-request-init : goal.loop-request-init
loop-request-init c = record {
  dealt =
      dealt-none c.args.workers c.args.workers (into_iter_items c.into_iter-request-iterator.result) (asked_lists c.in_ok-lanes.lanes.items) c.in_ok-order.order.items c.in_ok-lanes.ensures c.in_ok-order.ensures.items;
  number = lists-number c.in_ok-lanes.lanes.items c.args.workers c.in_ok-lanes.ensures;
}

pub loop-request-preserved : goal.loop-request-preserved
loop-request-preserved c =
    let workers = c.args.workers in
    let r = c.in-Some.request in
    let left = into_iter_items c.loop-request.request-iterator in
    let rest = into_iter_items c.next.new.self in
    let all = into_iter_items c.into_iter-request-iterator.result in
    let lanes = asked_lists c.loop-request.lanes.items in
    let order = c.loop-request.order.items in
    let index = c.loop-request.index in
    let next : left ≡ r ∷ rest = search rules in
    let lane : c.lane_number-lane.result ≡ lane_of workers r = search rules in
    let was = subst (λ (rs : List Request). IsDealt workers all rs lanes order index) next c.loop-request.invariant.dealt in
    let pushed : c.push.new.self.items ≡ order ++ lane_of workers r ∷ [] = c.in_ok-push.ensures.items ∙ ap (λ (k : ℕ). order ++ k ∷ []) lane in
    record {
      dealt = dealt-more workers all rest r lanes (asked_lists c.add.new.lanes.items) order c.push.new.self.items index was
          (λ l. c.in_ok-add.ensures.added l ∙ ap (λ (k : ℕ). list_at lanes l ++ picked l (k ∷ []) (r ∷ [])) lane) pushed;
      number = c.in_ok-add.ensures.number ∙ c.loop-request.invariant.number;
    }
