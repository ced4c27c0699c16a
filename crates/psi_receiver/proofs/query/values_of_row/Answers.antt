use Rattle.std.proofs.Common.{◌≡◌, ℕ, ◌+◌, ◌-◌, ◌/◌, ◌%◌, List, length, get_or, ap, subst, sym, ◌∙◌, arith}
use Rattle.std.specs.Prelude.{◌==◌, if◌then◌else◌}
use Rattle.std.proofs.lemmas.List.{get_or-replicate, length-replicate}
use Rattle.item_slots.specs.Tags.{slot_value}
use Rattle.psi_receiver.proofs.Writes.{AreWritten, nothing-written, other-row, this-row, row-written}
use Rattle.psi_receiver.proofs.query.values_of_row.Goals as goal

pub loop-i-init : goal.loop-i-init
loop-i-init c = record {
  size = ap length c.in_ok-values.ensures ∙ length-replicate {A = ℕ} 4096 65536;
  written = nothing-written c.args.placed.now c.args.row (length c.args.placed.now) c.in_ok-values.values (omega arith)
      (λ slot lt. ap (λ (xs : List ℕ). get_or xs slot 0) c.in_ok-values.ensures ∙ get_or-replicate 4096 slot 65536 0 lt);
}

pub loop-i-preserved : goal.loop-i-preserved
loop-i-preserved c =
    let step : c.loop-i.i ≡ c.loop-i.i - 1 + 1 = omega arith in
    record {
      size = c.loop-i.invariant.size;
      written = other-row c.args.placed.now c.args.row (c.loop-i.i - 1) c.index-placed-i.result c.loop-i.values (omega arith) c.index-placed-i.is
          (λ e. c.if-position-row.false (ap (λ (q : ℕ). q / 819) c.from-position.ensures ∙ e))
          (subst (λ (n : ℕ). AreWritten c.args.placed.now c.args.row n c.loop-i.values) step c.loop-i.invariant.written);
    }

pub loop-i-preserved-then-position-row : goal.loop-i-preserved-then-position-row
loop-i-preserved-then-position-row c =
    let step : c.loop-i.i ≡ c.loop-i.i - 1 + 1 = omega arith in
    let x = c.index-placed-i.result in
    record {
      size = c.write_tag.ensures.size ∙ c.loop-i.invariant.size;
      written = this-row c.args.placed.now c.args.row (c.loop-i.i - 1) x c.loop-i.values c.write_tag.new.values (omega arith) c.index-placed-i.is
          (ap (λ (q : ℕ). q / 819) (sym c.from-position.ensures) ∙ c.if-position-row.true)
          (λ slot. c.write_tag.ensures.written slot ∙ ap (λ (q : ℕ). if slot / 5 == q % 819 then slot_value x.tag (slot % 5) else get_or c.loop-i.values slot 0) c.from-position.ensures)
          (subst (λ (n : ℕ). AreWritten c.args.placed.now c.args.row n c.loop-i.values) step c.loop-i.invariant.written);
    }

pub returns : goal.returns
returns c = row-written c.args.placed.now c.args.row c.loop-i.i c.loop-i.values (omega arith) c.loop-i.invariant.size c.loop-i.invariant.written
