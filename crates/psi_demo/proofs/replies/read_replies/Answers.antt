use Rattle.std.proofs.Common.{rules, ◌≡◌, List, [], sym, subst}
use Rattle.psi_frames.specs.declared.reply.Reply.{Reply}
use Rattle.psi_demo.proofs.Reading.{IsRead, read-first, read-more, refused, torn-end, whole-end}
use Rattle.psi_demo.proofs.replies.read_replies.Goals as goal

pub loop-frame-init : goal.loop-frame-init
loop-frame-init c =
    subst (λ (rs : List Reply). IsRead c.args.bytes.now c.in_ok-feed.feed rs 0) (sym c.new-replies.ensures.items)
    (read-first c.args.bytes.now c.in_ok-feed.feed c.in_ok-feed.ensures.fed c.in_ok-feed.ensures.replies)

pub returns-then-not-branch-clause-fault : goal.returns-then-not-branch-clause-fault
returns-then-not-branch-clause-fault c =
    refused c.args.bytes.now c.loop-frame.feed c.next.new.self c.in-Some.frame c.loop-frame.replies.items c.loop-frame.offset c.loop-frame.invariant c.in-Some.ensures.taken (λ i. (c.type_inv.bytes i).fits)
    (c.in_ok-add_reply.ensures.untold c.if-not-branch.true)

pub loop-frame-preserved : goal.loop-frame-preserved
loop-frame-preserved c =
    let told = c.in_ok-add_reply.ensures.told c.if-not-branch.false in
    read-more c.args.bytes.now c.loop-frame.feed c.next.new.self c.in-Some.frame told.0 c.loop-frame.replies.items c.add_reply.new.replies.items c.loop-frame.offset c.frame_bytes.result
    c.loop-frame.invariant c.in-Some.ensures.taken told.1 told.2 c.frame_bytes.ensures

pub returns-then-not-may_end-clause-fault : goal.returns-then-not-may_end-clause-fault
returns-then-not-may_end-clause-fault c =
    let ready : c.loop-frame.feed.ready ≡ [] = search rules in
    let same : c.next.new.self ≡ c.loop-frame.feed = search rules in
    torn-end c.args.bytes.now c.loop-frame.feed c.next.new.self c.loop-frame.replies.items c.loop-frame.offset c.loop-frame.invariant ready same (c.may_end.ensures.faulty c.if-not-may_end.true)
    (λ i. (c.type_inv.bytes i).fits)

pub returns-clause-read : goal.returns-clause-read
returns-clause-read c =
    let ready : c.loop-frame.feed.ready ≡ [] = search rules in
    let same : c.next.new.self ≡ c.loop-frame.feed = search rules in
    whole-end c.args.bytes.now c.loop-frame.feed c.next.new.self c.loop-frame.replies.items c.loop-frame.offset c.loop-frame.invariant ready same (c.may_end.ensures.ended c.if-not-may_end.false)
