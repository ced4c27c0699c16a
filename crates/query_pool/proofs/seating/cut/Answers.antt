use Rattle.std.proofs.Common.{rules, ◌≡◌, ◌∷◌, List, refl, subst}
use Rattle.std.specs.Vec.Iter.{into_iter_items}
use Rattle.query_pool.specs.declared.jobs.Work.{Work}
use Rattle.query_pool.proofs.Seatings.{CutsSoFar, cuts-more, cuts-two}
use Rattle.query_pool.proofs.seating.cut.Goals as goal

pub split-own-requires-clause-two : goal.split-own-requires-clause-two
split-own-requires-clause-two c =
    let v = c.args.seat.now.knows in
    let u = c.loop-work.seat.knows in
    let w = c.in-Some.work in
    let left = into_iter_items c.loop-work.work-iterator in
    let rest = into_iter_items c.next.new.self in
    let all = into_iter_items c.into_iter-work-iterator.result in
    let jobs = c.loop-work.jobs.items in
    let next : left ≡ w ∷ rest = search rules in
    cuts-two v u all rest w jobs (subst (λ (ws : List Work). CutsSoFar v u all ws jobs) next c.loop-work.invariant.so_far)

pub loop-work-preserved : goal.loop-work-preserved
loop-work-preserved c =
    let v = c.args.seat.now.knows in
    let u = c.loop-work.seat.knows in
    let w = c.in-Some.work in
    let left = into_iter_items c.loop-work.work-iterator in
    let rest = into_iter_items c.next.new.self in
    let all = into_iter_items c.into_iter-work-iterator.result in
    let jobs = c.loop-work.jobs.items in
    let next : left ≡ w ∷ rest = search rules in
    let was = subst (λ (ws : List Work). CutsSoFar v u all ws jobs) next c.loop-work.invariant.so_far in
    record {
      here = search rules;
      each_here = search rules;
      so_far = cuts-more v u c.split-own.new.seat.knows all rest w (record { seat = c.split-own.result; work = w }) jobs c.push.new.self.items was c.split-own.ensures.kept c.split-own.ensures.given refl c.in_ok-push.ensures.items;
    }
