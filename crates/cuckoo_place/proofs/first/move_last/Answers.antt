use Rattle.std.proofs.Common.{arith, ◌<◌, length, set, Some, None, ap, subst, sym, ◌∙◌, inr}
use Rattle.std.proofs.lemmas.List.{length-set}
use Rattle.cuckoo_place.specs.Searches.{choices_of, Holds}
use Rattle.cuckoo_place.proofs.Chains.{emptied, emptied_free, back_again}
use Rattle.cuckoo_place.proofs.Choices.{choices_below, refused_none}
use Rattle.cuckoo_place.proofs.Gathered.{holds_below}
use Rattle.cuckoo_place.proofs.Lowered.{at_fixed, reassigned, own_set, moved_full, set_back}
use Rattle.cuckoo_place.proofs.first.move_last.Goals as goal
use Rattle.cuckoo_place.proofs.first.move_last.Goals.{After-from-seat}

-- the item holds its last place
held : (c : After-from-seat) → Holds c.args.holders.now c.args.item c.from-seat.result
held c = subst (λ p. Holds c.args.holders.now c.args.item p) (sym c.from-seat.ensures) (at_fixed c.args.sets.now c.args.places.now c.args.holders.now c.requires.full c.args.item (omega (arith, c.requires.last)))

within : (c : After-from-seat) → c.from-seat.result < length c.args.holders.now
within c = holds_below c.args.holders.now c.args.item c.from-seat.result (held c)

pub bounds-holders-seat : goal.bounds-holders-seat
bounds-holders-seat c = within (goal.at.bounds-holders-seat c).After-from-seat

pub settle_anew-requires-clause-assigned : goal.settle_anew-requires-clause-assigned
settle_anew-requires-clause-assigned c =
    let h = held (goal.at.settle_anew-requires-clause-assigned c).After-from-seat in
    let b = within (goal.at.settle_anew-requires-clause-assigned c).After-from-seat in
    reassigned c.args.sets.now c.args.places.now (set c.args.holders.now c.from-seat.result None) c.args.item c.args.to
    (emptied (length c.args.sets.now) (choices_of c.args.sets.now c.args.places.now) c.args.holders.now c.from-seat.result b c.requires.full.assigned)
    (emptied_free (length c.args.sets.now) (choices_of c.args.sets.now c.args.places.now) c.args.holders.now c.from-seat.result c.args.item b c.requires.full.assigned h)

pub settle_anew-requires-clause-below : goal.settle_anew-requires-clause-below
settle_anew-requires-clause-below c =
    let own = own_set c.args.sets.now c.args.places.now c.args.item c.args.to (omega (arith, c.requires.last)) c.requires.own c.requires.full.own in
    let below = choices_below (length c.args.holders.now) c.args.sets.now (set c.args.places.now c.args.item c.args.to) c.requires.below own in
    λ i p h. let b = below i p h in omega (arith, b, length-set c.args.holders.now c.from-seat.result None)

pub settle_anew-requires-clause-unplaced : goal.settle_anew-requires-clause-unplaced
settle_anew-requires-clause-unplaced c =
    let h = held (goal.at.settle_anew-requires-clause-unplaced c).After-from-seat in
    let b = within (goal.at.settle_anew-requires-clause-unplaced c).After-from-seat in
    emptied_free (length c.args.sets.now) (choices_of c.args.sets.now c.args.places.now) c.args.holders.now c.from-seat.result c.args.item b c.requires.full.assigned h

pub returns-then-settle_anew-clause-full : goal.returns-then-settle_anew-clause-full
returns-then-settle_anew-clause-full c =
    let h = held (goal.at.returns-then-settle_anew-clause-full c).After-from-seat in
    let b = within (goal.at.returns-then-settle_anew-clause-full c).After-from-seat in
    let s = rw c.if-settle_anew.true at c.settle_anew.ensures in
    moved_full c.args.sets.now c.args.places.now c.args.holders.now c.settle_anew.new.holders c.args.item c.from-seat.result c.args.to c.requires.full (omega (arith, c.requires.last)) b h c.requires.own s

pub returns-clause-full : goal.returns-clause-full
returns-clause-full c =
    let h = held (goal.at.returns-clause-full c).After-from-seat in
    let r = rw c.if-settle_anew.false at c.settle_anew.ensures in
    let same = ap (λ hs. set hs c.from-seat.result (Some c.args.item)) r.same ∙ back_again c.args.holders.now c.from-seat.result c.args.item h in
    rw (set_back c.args.places.now c.args.item c.args.to, same) c.requires.full

pub returns-clause-outcome : goal.returns-clause-outcome
returns-clause-outcome c =
    let h = held (goal.at.returns-clause-outcome c).After-from-seat in
    let b = within (goal.at.returns-clause-outcome c).After-from-seat in
    let r = rw c.if-settle_anew.false at c.settle_anew.ensures in
    inr (
      set_back c.args.places.now c.args.item c.args.to,
      λ lower. refused_none c.args.sets.now (set c.args.places.now c.args.item c.args.to) (set c.args.holders.now c.from-seat.result None) c.settle_anew.new.holders c.settle_anew.new.seen c.args.item
          (reassigned c.args.sets.now c.args.places.now (set c.args.holders.now c.from-seat.result None) c.args.item c.args.to
          (emptied (length c.args.sets.now) (choices_of c.args.sets.now c.args.places.now) c.args.holders.now c.from-seat.result b c.requires.full.assigned)
          (emptied_free (length c.args.sets.now) (choices_of c.args.sets.now c.args.places.now) c.args.holders.now c.from-seat.result c.args.item b c.requires.full.assigned h))
          c.requires.known
          (emptied_free (length c.args.sets.now) (choices_of c.args.sets.now c.args.places.now) c.args.holders.now c.from-seat.result c.args.item b c.requires.full.assigned h)
          r,
    )

pub bounds-holders-seat-2 : goal.bounds-holders-seat-2
bounds-holders-seat-2 c =
    let b = within (goal.at.bounds-holders-seat-2 c).After-from-seat in
    omega (arith, b, c.settle_anew.auto.holders, length-set c.args.holders.now c.from-seat.result None)
