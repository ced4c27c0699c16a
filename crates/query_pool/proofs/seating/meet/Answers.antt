use Rattle.std.proofs.Common.{rules, ◌≡◌, ◌∷◌, List, subst}
use Rattle.std.specs.Vec.Iter.{into_iter_items}
use Rattle.std.proofs.lemmas.List.Elements.{All-rest}
use Rattle.query_pool.specs.declared.lane.Done.{Done}
use Rattle.query_pool.proofs.Seatings.{MeetsSoFar, meets-more, meets-none}
use Rattle.query_pool.proofs.seating.meet.Goals as goal

pub loop-done-init : goal.loop-done-init
loop-done-init c = record {
  here = search rules;
  each_here = search rules;
  so_far = meets-none c.args.seat.now.knows (into_iter_items c.into_iter-done-iterator.result) c.in_ok-replies.replies.items c.in_ok-replies.ensures.items;
}

pub loop-done-preserved : goal.loop-done-preserved
loop-done-preserved c =
    let v = c.args.seat.now.knows in
    let u = c.loop-done.seat.knows in
    let d = c.in-Some.done in
    let left = into_iter_items c.loop-done.done-iterator in
    let rest = into_iter_items c.next.new.self in
    let all = into_iter_items c.into_iter-done-iterator.result in
    let replies = c.loop-done.replies.items in
    let next : left ≡ d ∷ rest = search rules in
    let was = subst (λ (ds : List Done). MeetsSoFar v u all ds replies) next c.loop-done.invariant.so_far in
    record {
      here = search rules;
      each_here = All-rest (λ (e : Done). e.seat.turnstile ≡ c.args.sender.now) d rest left next c.loop-done.invariant.each_here;
      so_far = meets-more v u c.meet.new.seat.knows all rest d replies c.push.new.self.items was c.meet.ensures.looked c.meet.ensures.follows c.meet.ensures.follows_note c.in_ok-push.ensures.items;
    }
