use Rattle.std.proofs.Common.{◌≡◌, ◌∙◌, ◌-◌, ◌/◌, ◌%◌, ℕ, suc, List, ap, sym, get_or, arith}
use Rattle.noise_ledger.specs.Verdicts.{parameters_of}
use Rattle.psi_bundle.specs.declared.member.Member.{Member}
use Rattle.psi_bundle.specs.Bins.{bin_at}
use Rattle.psi_bundle.specs.Planes.{part_coefficient}
use Rattle.bundle_cache.proofs.Writing.{filled-more, slot-part}
use Rattle.bundle_cache.proofs.columns.fill_slot.Goals as goal

pub returns-then-plane-eq0-clause-filled : goal.returns-then-plane-eq0-clause-filled
returns-then-plane-eq0-clause-filled c =
    let p = parameters_of c.args.params.now in
    let bins = c.args.bundle.now in
    filled-more p bins c.args.plane c.args.slot c.poly.result.now c.args.columns.now c.write_slot.new.columns c.requires.slot
    (λ k le.
    c.poly.ensures.coefficients k
    ∙ ap (λ (plane : ℕ). part_coefficient p (bin_at bins (c.args.slot / 5)) plane (c.args.slot % 5) k) (sym c.if-plane-eq0.true)
    ∙ sym (slot-part p bins c.args.plane c.args.slot k c.requires.slot))
    c.write_slot.ensures c.requires.filled

pub returns-in_ok-polynomial-clause-filled : goal.returns-in_ok-polynomial-clause-filled
returns-in_ok-polynomial-clause-filled c =
    let p = parameters_of c.args.params.now in
    let bins = c.args.bundle.now in
    let next : suc (c.args.plane - 1) ≡ c.args.plane = omega (arith, c.if-plane-eq0.false) in
    filled-more p bins c.args.plane c.args.slot c.deref.result.now c.args.columns.now c.write_slot-else-plane-eq0.new.columns c.requires.slot
    (λ k le.
    ap (λ (xs : List ℕ). get_or xs k 0) c.deref.ensures.value
    ∙ c.in_ok-polynomial.ensures.coefficients k
    ∙ ap (λ (members : List Member). part_coefficient p members (suc (c.args.plane - 1)) (c.args.slot % 5) k) c.members.ensures
    ∙ ap (λ (plane : ℕ). part_coefficient p (bin_at bins (c.args.slot / 5)) plane (c.args.slot % 5) k) next
    ∙ sym (slot-part p bins c.args.plane c.args.slot k c.requires.slot))
    c.write_slot-else-plane-eq0.ensures c.requires.filled
