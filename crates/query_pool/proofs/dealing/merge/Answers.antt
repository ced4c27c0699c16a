use Rattle.std.proofs.Common.{rules, ◌≡◌, ◌∙◌, [], List, length, ap}
use Rattle.std.proofs.lemmas.List.{nil_from_length}
use Rattle.psi_frames.specs.declared.reply.Reply.{Reply}
use Rattle.query_pool.specs.Dealing.{listed}
use Rattle.query_pool.specs.Joined.{picked}
use Rattle.query_pool.proofs.Handing.{merged-all, merged-some}
use Rattle.query_pool.proofs.dealing.merge.Goals as goal

pub take_last-requires : goal.take_last-requires
take_last-requires c = record {
  some = merged-some c.args.order.items (listed c.args.replies.items) c.loop-lane.order.items c.pop.new.self.items c.in-Some.lane (listed c.loop-lane.replies.items) c.loop-lane.merged.items c.in-Some.ensures.items c.loop-lane.invariant c.requires.counts;
}

pub returns-clause-merged : goal.returns-clause-merged
returns-clause-merged c = λ l.
    let size : length c.loop-lane.order.items ≡ 0 = search rules in
    let none : c.loop-lane.order.items ≡ [] = nil_from_length c.loop-lane.order.items size in
    merged-all c.args.order.items (listed c.args.replies.items) c.loop-lane.order.items (listed c.loop-lane.replies.items) c.loop-lane.merged.items none c.loop-lane.invariant c.requires.counts l ∙ ap (λ (ys : List Reply). picked l c.args.order.items ys) (search rules)
