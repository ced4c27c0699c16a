use Rattle.std.proofs.Common.{◌≡◌, ◌++◌, ◌%◌, ℕ, List, ap, sym, ◌∙◌, arith, append_assoc}
use Rattle.std.specs.Int.{bytes_high_first}
use Rattle.std.specs.List.{flat_map, range_with_len}
use Rattle.std.proofs.lemmas.List.{append-nil}
use Rattle.psi_receiver.specs.Openings.{value_in}
use Rattle.psi_receiver.proofs.Opened.{flat-more}
use Rattle.psi_receiver.proofs.opening.append_unit.Goals as goal

pub loop-part-init : goal.loop-part-init
loop-part-init c = sym (append-nil c.args.bytes.now.items)

pub loop-part-preserved : goal.loop-part-preserved
loop-part-preserved c =
    let number : ℕ → List ℕ = λ part. bytes_high_first 2 (value_in c.args.plane.now c.args.bin part % 65536) in
    let done = flat_map number (range_with_len 0 c.loop-part.part) in
    c.in_ok-append_number.ensures
    ∙ (λ i. c.loop-part.invariant i ++ bytes_high_first 2 (c.value.ensures.value i % 65536))
    ∙ append_assoc c.args.bytes.now.items done (number c.loop-part.part)
    ∙ ap (λ (xs : List ℕ). c.args.bytes.now.items ++ xs) (sym (flat-more number c.loop-part.part))

pub returns : goal.returns
returns c =
    let all : c.loop-part.part ≡ 5 = omega arith in
    c.loop-part.invariant
    ∙ ap (λ (n : ℕ). c.args.bytes.now.items ++ flat_map (λ part. bytes_high_first 2 (value_in c.args.plane.now c.args.bin part % 65536)) (range_with_len 0 n)) all
