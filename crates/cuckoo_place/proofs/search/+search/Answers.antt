use Rattle.std.proofs.Common.{arith, ◌<◌, length, None, true, false, ◌∙◌, set}
use Rattle.std.proofs.lemmas.List.{length-set, get_or-set_same}
use Rattle.cuckoo_place.specs.Searches.{choices_of, Holds}
use Rattle.cuckoo_place.proofs.Chains.{is_choice, still_set, unseen_falls, unseen_set, taken, goes_on, passed_more, all_passed, emptied, emptied_free, moved_on, stays}
use Rattle.cuckoo_place.proofs.search.+search.Goals as goal
use Rattle.cuckoo_place.proofs.search.+search.Goals.{settle-then-not-seen-place+else-vacate, settle-else-not-seen-place}

pub settle-bounds-seen-place : goal.settle-bounds-seen-place
settle-bounds-seen-place t c =
    let own = is_choice (choices_of c.args.sets.now c.args.fixed.now c.args.item) c.choices-choice-items.result.now c.loop-choice.choice-index c.from-place.result c.choices-choice-items.ensures c.loop-choice-test.true c.from-place.ensures in
    let b = c.requires.below c.args.item c.from-place.result own in
    omega (arith, b, c.requires.table, c.loop-choice.auto.seen)

pub settle-bounds-seen-place-then-not-seen-place : goal.settle-bounds-seen-place-then-not-seen-place
settle-bounds-seen-place-then-not-seen-place t c =
    let own = is_choice (choices_of c.args.sets.now c.args.fixed.now c.args.item) c.choices-choice-items.result.now c.loop-choice.choice-index c.from-place.result c.choices-choice-items.ensures c.loop-choice-test.true c.from-place.ensures in
    let b = c.requires.below c.args.item c.from-place.result own in
    omega (arith, b, c.requires.table, c.loop-choice.auto.seen)

pub settle-bounds-holders-place : goal.settle-bounds-holders-place
settle-bounds-holders-place t c =
    let own = is_choice (choices_of c.args.sets.now c.args.fixed.now c.args.item) c.choices-choice-items.result.now c.loop-choice.choice-index c.from-place.result c.choices-choice-items.ensures c.loop-choice-test.true c.from-place.ensures in
    let b = c.requires.below c.args.item c.from-place.result own in
    omega (arith, b, c.vacate.auto.holders, c.loop-choice.auto.holders)

pub settle-vacate-requires : goal.settle-vacate-requires
settle-vacate-requires t c =
    let own = is_choice (choices_of c.args.sets.now c.args.fixed.now c.args.item) c.choices-choice-items.result.now c.loop-choice.choice-index c.from-place.result c.choices-choice-items.ensures c.loop-choice-test.true c.from-place.ensures in
    let b : c.from-place.result < length c.args.holders.now = c.requires.below c.args.item c.from-place.result own in
    let bs : c.from-place.result < length c.loop-choice.seen = omega (arith, b, c.requires.table, c.loop-choice.auto.seen) in (
      omega (arith, c.decreases, unseen_falls c.args.seen.now c.loop-choice.seen c.loop-choice.auto.seen c.loop-choice.invariant.still, unseen_set c.loop-choice.seen c.from-place.result bs c.if-not-seen-place.true),
      (
        rw c.loop-choice.invariant.same c.requires.assigned,
        (
          λ i p h. omega (arith, c.requires.below i p h, c.loop-choice.auto.holders),
          (
            omega (arith, length-set c.loop-choice.seen c.from-place.result true, c.requires.table, c.loop-choice.auto.seen, c.loop-choice.auto.holders),
            (omega (arith, b, c.loop-choice.auto.holders), get_or-set_same c.loop-choice.seen c.from-place.result true false bs),
          ),
        ),
      ),
    )

pub settle-returns-then-vacate-clause-outcome : goal.settle-returns-then-vacate-clause-outcome
settle-returns-then-vacate-clause-outcome t c =
    let own = is_choice (choices_of c.args.sets.now c.args.fixed.now c.args.item) c.choices-choice-items.result.now c.loop-choice.choice-index c.from-place.result c.choices-choice-items.ensures c.loop-choice-test.true c.from-place.ensures in
    let b : c.from-place.result < length c.args.holders.now = c.requires.below c.args.item c.from-place.result own in
    let bs : c.from-place.result < length c.loop-choice.seen = omega (arith, b, c.requires.table, c.loop-choice.auto.seen) in
    let bh : c.from-place.result < length c.vacate.new.holders = omega (arith, b, c.vacate.auto.holders, c.loop-choice.auto.holders) in
    let v0 = rw c.if-vacate.true at c.vacate.ensures.outcome in
    let v = rw c.loop-choice.invariant.same at v0 in
    taken (length c.args.sets.now) (choices_of c.args.sets.now c.args.fixed.now) c.args.seen.now (set c.loop-choice.seen c.from-place.result true) c.args.holders.now c.vacate.new.holders c.from-place.result c.args.item bh c.requires.known own c.requires.unplaced
    (λ q s. still_set c.loop-choice.seen c.from-place.result bs q (c.loop-choice.invariant.still q s))
    (λ s. let x = c.loop-choice.invariant.still c.from-place.result s in let y = c.if-not-seen-place.true in cc)
    v

pub settle-loop-choice-preserved : goal.settle-loop-choice-preserved
settle-loop-choice-preserved t c =
    let own = is_choice (choices_of c.args.sets.now c.args.fixed.now c.args.item) c.choices-choice-items.result.now c.loop-choice.choice-index c.from-place.result c.choices-choice-items.ensures c.loop-choice-test.true c.from-place.ensures in
    let b : c.from-place.result < length c.args.holders.now = c.requires.below c.args.item c.from-place.result own in
    let bs : c.from-place.result < length c.loop-choice.seen = omega (arith, b, c.requires.table, c.loop-choice.auto.seen) in
    let marked = still_set c.loop-choice.seen c.from-place.result bs in
    elim c.if-not-seen-place.branch [
      | settle-then-not-seen-place+else-vacate w ↦
          let v0 = rw w.if-vacate.false at w.vacate.ensures.outcome in
          let v = rw c.loop-choice.invariant.same at v0 in
          let still = w.vacate.ensures.still in
          record {
            same = w.holders-is ∙ v.same;
            still = λ q s. rw w.seen-is (still q (marked q (c.loop-choice.invariant.still q s)));
            passed = rw w.seen-is (passed_more c.loop-choice.seen w.vacate.new.seen c.choices-choice-items.result.now c.loop-choice.choice-index c.from-place.result c.loop-choice.invariant.passed (λ q s. still q (marked q s)) c.from-place.ensures (still c.from-place.result (get_or-set_same c.loop-choice.seen c.from-place.result true false bs)));
            stuck = rw w.seen-is (goes_on (choices_of c.args.sets.now c.args.fixed.now) c.args.holders.now w.vacate.new.holders c.args.seen.now c.loop-choice.seen w.vacate.new.seen c.from-place.result bs c.loop-choice.invariant.stuck still v);
          }
      | settle-else-not-seen-place w ↦
          record {
            same = w.holders-is ∙ c.loop-choice.invariant.same;
            still = λ q s. rw w.seen-is (c.loop-choice.invariant.still q s);
            passed = rw w.seen-is (passed_more c.loop-choice.seen c.loop-choice.seen c.choices-choice-items.result.now c.loop-choice.choice-index c.from-place.result c.loop-choice.invariant.passed (λ q s. s) c.from-place.ensures w.if-not-seen-place.false);
            stuck = rw w.seen-is c.loop-choice.invariant.stuck;
          }
    ]

pub settle-returns-clause-outcome : goal.settle-returns-clause-outcome
settle-returns-clause-outcome t c = record {
  same = c.loop-choice.invariant.same;
  nowhere = all_passed c.loop-choice.seen (choices_of c.args.sets.now c.args.fixed.now c.args.item) c.choices-choice-items.result.now c.loop-choice.choice-index c.choices-choice-items.ensures c.loop-choice-test.false c.loop-choice.invariant.passed;
  others = c.loop-choice.invariant.stuck;
}

pub vacate-settle-requires : goal.vacate-settle-requires
vacate-settle-requires t c =
    let held : Holds c.args.holders.now c.in-Some.other c.args.place = c.in-Some.is in
    let same = length-set c.args.holders.now c.args.place None in (
      omega (arith, c.decreases),
      (
        emptied (length c.args.sets.now) (choices_of c.args.sets.now c.args.fixed.now) c.args.holders.now c.args.place c.requires.within c.requires.assigned,
        (
          λ i p h. omega (arith, c.requires.below i p h, same),
          (
            omega (arith, same, c.requires.table),
            (
              c.requires.assigned.known c.in-Some.other c.args.place held,
              emptied_free (length c.args.sets.now) (choices_of c.args.sets.now c.args.fixed.now) c.args.holders.now c.args.place c.in-Some.other c.requires.within c.requires.assigned held,
            ),
          ),
        ),
      ),
    )

pub vacate-returns-then-settle-clause-outcome : goal.vacate-returns-then-settle-clause-outcome
vacate-returns-then-settle-clause-outcome t c =
    let held : Holds c.args.holders.now c.in-Some.other c.args.place = c.in-Some.is in
    let s = rw c.if-settle.true at c.settle.ensures.outcome in
    moved_on (length c.args.sets.now) (choices_of c.args.sets.now c.args.fixed.now) c.args.seen.now c.args.holders.now c.settle.new.holders c.args.place c.in-Some.other c.requires.within c.requires.visited held s

pub vacate-returns-clause-outcome : goal.vacate-returns-clause-outcome
vacate-returns-clause-outcome t c =
    let held : Holds c.args.holders.now c.in-Some.other c.args.place = c.in-Some.is in
    let s = rw c.if-settle.false at c.settle.ensures.outcome in
    stays (choices_of c.args.sets.now c.args.fixed.now) c.args.holders.now c.settle.new.holders c.args.seen.now c.settle.new.seen c.args.place c.in-Some.other c.requires.within held s
