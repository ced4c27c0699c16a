use Rattle.std.proofs.Common.{◌≡◌, ◌≤◌, [], ◌∷◌, ◌++◌, length, sym}
use Rattle.std.specs.Prelude.{option_to_list}
use Rattle.cuckoo_place.specs.Searches.{reached_at}
use Rattle.cuckoo_place.proofs.Gathered.{gathered_none, gathered_more, reached_held, sorted_reached}
use Rattle.cuckoo_place.proofs.search.reached.Goals as goal

pub loop-place-init : goal.loop-place-init
loop-place-init c = rw c.new-items.ensures.items (gathered_none (reached_at c.args.holders.now c.args.seen.now))

pub loop-place-preserved : goal.loop-place-preserved
loop-place-preserved c =
    let e : c.push_found.new.items.items ≡ c.loop-place.items.items ++ option_to_list c.reached_at.result = c.in_ok-push_found.ensures in
    rw e (gathered_more (reached_at c.args.holders.now c.args.seen.now) (λ i p q hp hq. c.requires.once i p q (reached_held c.args.holders.now c.args.seen.now p i hp).1 (reached_held c.args.holders.now c.args.seen.now q i hq).1) c.loop-place.place c.loop-place.items.items c.reached_at.result (sym c.reached_at.ensures) c.loop-place.invariant)

pub returns : goal.returns
returns c =
    let e : c.push.new.self.items ≡ c.loop-place.items.items ++ c.args.item ∷ [] = c.in_ok-push.ensures.items in
    let end : length c.args.holders.now ≤ c.loop-place.place = c.loop-place-test.false in
    sorted_reached c.args.holders.now c.args.seen.now c.args.item c.loop-place.place c.loop-place.items.items c.sort.new.self.items c.loop-place.invariant end c.requires.unplaced (rw e at c.sort.ensures.permutation) c.in_ok-sort.ensures.sorted
