use Rattle.std.proofs.Common.{◌≡◌, ◌∷◌, ◌++◌, [], map, sym, ap, ◌∙◌, arith}
use Rattle.std.specs.List.{range_with_len}
use Rattle.std.proofs.lemmas.List.FromFn.{map-range_with_len_more}
use Rattle.psi_receiver.specs.Openings.{is_zero_in}
use Rattle.psi_receiver.proofs.plane.zero_bins.Goals as goal

pub loop-bin-preserved : goal.loop-bin-preserved
loop-bin-preserved c =
    let slots = c.args.slots.now in
    c.in_ok-push.ensures.items
    ∙ (λ i. c.loop-bin.invariant i ++ c.is_zero.ensures i ∷ [])
    ∙ sym (map-range_with_len_more (is_zero_in slots) 0 c.loop-bin.bin c.loop-bin.bin (omega arith))

pub returns : goal.returns
returns c =
    let all : c.loop-bin.bin ≡ 819 = omega arith in
    c.loop-bin.invariant ∙ ap (λ n. map (is_zero_in c.args.slots.now) (range_with_len 0 n)) all
