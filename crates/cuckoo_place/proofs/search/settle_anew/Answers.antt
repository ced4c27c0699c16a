use Rattle.std.proofs.Common.{length}
use Rattle.cuckoo_place.specs.Searches.{choices_of}
use Rattle.cuckoo_place.proofs.Chains.{anew, nothing_seen}
use Rattle.cuckoo_place.proofs.search.settle_anew.Goals as goal

pub returns : goal.returns
returns c =
    let all = c.fill.ensures.after (λ y e. e) in
    anew (length c.args.sets.now) (choices_of c.args.sets.now c.args.fixed.now) c.fill.new.self c.settle.new.seen c.args.holders.now c.settle.new.holders c.args.item c.settle.result
    (λ p s. nothing_seen (length c.args.seen.now) p (rw all at s)) c.settle.ensures.outcome
