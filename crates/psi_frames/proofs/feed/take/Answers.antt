use Rattle.std.proofs.Common.{◌≡◌, ◌-◌, ◌++◌, ℕ, List, sym, ap, ◌∙◌, arith, length-append}
use Rattle.std.proofs.lemmas.List.{take-append-drop}
use Rattle.byteorder.specs.Endian.{big_number}
use Rattle.psi_frames.proofs.Feeding.{whole-within}
use Rattle.psi_frames.proofs.Fronts.{begun-bound, begun-shorter}
use Rattle.psi_frames.proofs.feed.take.Goals as goal

pub front-requires : goal.front-requires
front-requires c = begun-bound c.args.replies c.args.begun.now c.requires

pub len-requires : goal.len-requires
len-requires c = begun-bound c.args.replies c.args.begun.now c.requires

pub overflow_sub-end : goal.overflow_sub-end
overflow_sub-end c =
    let shorter = begun-shorter c.args.replies c.args.begun.now c.args.piece.now c.requires c.in-Whole.ensures.0 in
    omega (arith, shorter, c.in-Whole.ensures.1, c.len.ensures)

pub split_at-requires : goal.split_at-requires
split_at-requires c =
    let within = whole-within c.args.replies (c.args.begun.now ++ c.args.piece.now) c.in-Whole.ensures.0 in
    omega (arith, within.1, c.in-Whole.ensures.1, c.len.ensures, length-append c.args.begun.now c.args.piece.now)

pub take_frames-requires-clause-exact : goal.take_frames-requires-clause-exact
take_frames-requires-clause-exact c =
    let begun = c.args.begun.now in
    let piece = c.args.piece.now in
    let more = c.split_at.result.0.now in
    let behind = c.split_at.result.1.now in
    let n = c.in-Whole.end - c.len.result in
    let joined : piece ≡ more ++ behind = sym (take-append-drop n piece) ∙ (λ i. sym c.split_at.ensures.front i ++ sym c.split_at.ensures.back i) in
    let word : big_number 4 (begun ++ piece) ≡ big_number 4 (begun ++ (more ++ behind)) = ap (λ (t : List ℕ). big_number 4 (begun ++ t)) joined in
    let shorter = begun-shorter c.args.replies begun piece c.requires c.in-Whole.ensures.0 in
    omega (arith, shorter, c.in-Whole.ensures.1, c.len.ensures, c.split_at.ensures.front_len, word)
