use Rattle.std.proofs.Common.{◌≡◌, ◌≤◌, ◌∙◌, List, [], ◌∷◌, ◌++◌, length, ap, sym, subst, arith, length-append}
use Rattle.std.specs.List.{fold}
use Rattle.row_block.specs.Shelves.{shelf_room}
use Rattle.sender_core.specs.Tries.{Tried}
use Rattle.psi_rebuilder.specs.declared.building.Outcome.{Outcome}
use Rattle.psi_rebuilder.specs.Building.{shelved}
use Rattle.psi_rebuilder.specs.Outcomes.{IsOutcome, shelved_after}
use Rattle.psi_rebuilder.proofs.Blocks.{blocks-more}
use Rattle.psi_rebuilder.proofs.Receipts.{built-more, built-then, built-told, moments-all}
use Rattle.psi_rebuilder.proofs.Seats.{goes-on, turned-then}
use Rattle.psi_rebuilder.proofs.building.build_some.Goals as goal

pub returns-in_err-receipt-clause-turned : goal.returns-in_err-receipt-clause-turned
returns-in_err-receipt-clause-turned g c = turned-then c.args.seat.now.knows c.loop.seat.knows c.try_one.new.seat.knows c.loop.invariant.built.turned c.try_one.ensures.turned

pub returns-in_err-receipt-clause-went : goal.returns-in_err-receipt-clause-went
returns-in_err-receipt-clause-went g c = λ z seated.
    let h = built-then c.args.skip c.args.seat.now.knows c.loop.seat.knows c.try_one.new.seat.knows c.loop.receipts.items c.loop.invariant.built c.try_one.ensures.turned c.try_one.ensures.own in
    goes-on z c.args.seat.now.knows c.try_one.new.seat.knows seated h.turned

pub returns-in-Done-clause-moments : goal.returns-in-Done-clause-moments
returns-in-Done-clause-moments g c =
    let v = c.args.seat.now.knows in
    let u = c.loop.seat.knows in
    let w = c.try_one.new.seat.knows in
    let h = built-then c.args.skip v u w c.loop.receipts.items c.loop.invariant.built c.try_one.ensures.turned c.try_one.ensures.own in
    let told = subst (λ (o : Outcome). IsOutcome c.args.skip u w o) c.in-Done.is c.in_ok-receipt.ensures.outcome in
    moments-all c.args.skip v w c.loop.receipts.items c.in-Done.shown.place told.0 h

pub returns-in-Done-clause-named : goal.returns-in-Done-clause-named
returns-in-Done-clause-named g c =
    (built-then c.args.skip c.args.seat.now.knows c.loop.seat.knows c.try_one.new.seat.knows c.loop.receipts.items c.loop.invariant.built c.try_one.ensures.turned c.try_one.ensures.own).named

pub returns-in-Done-clause-turned : goal.returns-in-Done-clause-turned
returns-in-Done-clause-turned g c = turned-then c.args.seat.now.knows c.loop.seat.knows c.try_one.new.seat.knows c.loop.invariant.built.turned c.try_one.ensures.turned

pub returns-in-Done-clause-went : goal.returns-in-Done-clause-went
returns-in-Done-clause-went g c = λ z seated.
    let h = built-then c.args.skip c.args.seat.now.knows c.loop.seat.knows c.try_one.new.seat.knows c.loop.receipts.items c.loop.invariant.built c.try_one.ensures.turned c.try_one.ensures.own in
    goes-on z c.args.seat.now.knows c.try_one.new.seat.knows seated h.turned

pub loop-preserved : goal.loop-preserved
loop-preserved g c =
    let v = c.args.seat.now.knows in
    let u = c.loop.seat.knows in
    let w = c.try_one.new.seat.knows in
    let receipts = c.loop.receipts.items in
    let r = c.in-Tried.receipt in
    let first = length c.args.shelf.now in
    let before = length c.loop.shelf in
    let after = length c.try_one.new.shelf in
    let pushed : c.push_reserved.new.self.items ≡ receipts ++ r ∷ [] = c.push_reserved.ensures.items in
    let longer : length c.push_reserved.new.self.items ≡ length (receipts ++ r ∷ []) = ap length pushed in
    let told = subst (λ (o : Outcome). IsOutcome c.args.skip u w o) c.in-Tried.is c.in_ok-receipt.ensures.outcome in
    let blocks = blocks-more first before after receipts r c.loop.invariant.blocks (λ few. subst (λ (o : Outcome). after ≡ shelved_after before o) c.in-Tried.is (c.in_ok-receipt.ensures.blocks few)) in
    record {
      room = c.push_reserved.ensures.capacity ∙ c.loop.invariant.room;
      number = omega (arith, longer, length-append receipts (r ∷ []), c.loop.invariant.number);
      built = built-told c.args.skip v w (receipts ++ r ∷ []) c.push_reserved.new.self.items pushed (built-more c.args.skip v u w receipts r c.loop.invariant.built c.try_one.ensures.turned c.try_one.ensures.own told.0 told.1);
      here = c.try_one.ensures.here ∙ c.loop.invariant.here;
      shelf = c.try_one.ensures.shelf;
      blocks = subst (λ (rs : List Tried). first ≤ shelf_room → (after ≡ fold shelved first rs) × (after ≤ shelf_room)) (sym pushed) blocks;
    }

pub returns-clause-went : goal.returns-clause-went
returns-clause-went g c = λ z seated. goes-on z c.args.seat.now.knows c.loop.seat.knows seated c.loop.invariant.built.turned

pub returns-in-Done-clause-fetched : goal.returns-in-Done-clause-fetched
returns-in-Done-clause-fetched g c =
    (built-then c.args.skip c.args.seat.now.knows c.loop.seat.knows c.try_one.new.seat.knows c.loop.receipts.items c.loop.invariant.built c.try_one.ensures.turned c.try_one.ensures.own).fetched
