use Rattle.std.proofs.Common.{arith, ◌≡◌, subst, inl, inr}
use Rattle.std.proofs.lemmas.Bool.{cases_lt}
use Rattle.cuckoo_place.specs.Searches.{IsPlaced, AreReached}
use Rattle.cuckoo_place.proofs.Choices.{crowd_of_refused, crowded_unplaced}
use Rattle.cuckoo_place.proofs.search.settle_all.Goals as goal

pub loop-item-init : goal.loop-item-init
loop-item-init c = record {
  assigned = record {
    known = λ i p h. absurd (c.requires.unplaced i (p, h));
    own = λ i p h. absurd (c.requires.unplaced i (p, h));
    once = λ i p q h k. absurd (c.requires.unplaced i (p, h));
  };
  placed = λ i lt. absurd (omega arith);
  only = λ i h. absurd (c.requires.unplaced i h);
}

pub settle_anew-requires-clause-below : goal.settle_anew-requires-clause-below
settle_anew-requires-clause-below c = λ i p h. let b = c.requires.below i p h in omega (arith, b, c.loop-item.auto.holders)

pub settle_anew-requires-clause-unplaced : goal.settle_anew-requires-clause-unplaced
settle_anew-requires-clause-unplaced c = λ h. let b = c.loop-item.invariant.only c.loop-item.item h in omega (arith, b)

pub reached-requires-clause-unplaced : goal.reached-requires-clause-unplaced
reached-requires-clause-unplaced c =
    let r = rw c.if-not-settle_anew.true at c.settle_anew.ensures in
    λ h. let b = c.loop-item.invariant.only c.loop-item.item (subst (λ hs. IsPlaced hs c.loop-item.item) r.same h) in omega (arith, b)

pub returns-then-not-settle_anew-clause-crowded : goal.returns-then-not-settle_anew-clause-crowded
returns-then-not-settle_anew-clause-crowded c =
    let r = rw c.if-not-settle_anew.true at c.settle_anew.ensures in
    let got : AreReached c.settle_anew.new.holders c.settle_anew.new.seen c.loop-item.item c.in_ok-items.items.items = c.in_ok-items.ensures in
    crowd_of_refused c.args.sets.now c.loop-item.holders c.settle_anew.new.holders c.settle_anew.new.seen c.loop-item.item c.in_ok-items.items.items c.loop-item.invariant.assigned (omega arith)
    (λ h. let b = c.loop-item.invariant.only c.loop-item.item h in omega (arith, b)) r got

pub returns-then-not-settle_anew-clause-none : goal.returns-then-not-settle_anew-clause-none
returns-then-not-settle_anew-clause-none c =
    let r = rw c.if-not-settle_anew.true at c.settle_anew.ensures in
    let got : AreReached c.settle_anew.new.holders c.settle_anew.new.seen c.loop-item.item c.in_ok-items.items.items = c.in_ok-items.ensures in
    crowded_unplaced c.args.sets.now c.in_ok-items.items.items
    (crowd_of_refused c.args.sets.now c.loop-item.holders c.settle_anew.new.holders c.settle_anew.new.seen c.loop-item.item c.in_ok-items.items.items c.loop-item.invariant.assigned (omega arith)
    (λ h. let b = c.loop-item.invariant.only c.loop-item.item h in omega (arith, b)) r got)

pub loop-item-preserved : goal.loop-item-preserved
loop-item-preserved c =
    let s = rw c.if-not-settle_anew.false at c.settle_anew.ensures in
    record {
      assigned = s.assigned;
      placed = λ i lt.
          elim (cases_lt i c.loop-item.item) [
            | inl b ↦ s.kept i (c.loop-item.invariant.placed i b)
            | inr past ↦
                let e : c.loop-item.item ≡ i = omega arith in
                subst (λ j. IsPlaced c.settle_anew.new.holders j) e s.placed
          ];
      only = λ i h.
          elim (s.only i h) [
            | inl r ↦ let b = c.loop-item.invariant.only i r in omega (arith, b)
            | inr e ↦ omega (arith, e)
          ];
    }
