use Rattle.std.proofs.Common.{◌≡◌, ◌∷◌, [], ◌++◌, List, length, sym, ap, subst, ◌∙◌, arith}
use Rattle.std.proofs.lemmas.List.{take-append-drop}
use Rattle.psi_frames.specs.declared.frame.Frame.{Frame}
use Rattle.psi_frames.specs.FrontFrames.{front_frame}
use Rattle.psi_frames.proofs.Feeding.{AreCut, cut-more, whole-within}
use Rattle.psi_frames.proofs.cut.cut_frames.Goals as goal

pub split_at-requires : goal.split_at-requires
split_at-requires c =
    let within = whole-within c.args.replies c.loop-end.rest.now c.in-Whole.ensures.0 in
    omega (arith, within.1, c.in-Whole.ensures.1)

pub into_frame-requires-clause-head : goal.into_frame-requires-clause-head
into_frame-requires-clause-head c =
    let within = whole-within c.args.replies c.loop-end.rest.now c.in-Whole.ensures.0 in
    omega (arith, within.0, c.in-Whole.ensures.1, c.split_at.ensures.front_len, ap length c.in_ok-of-in-Whole.ensures)

pub loop-end-preserved : goal.loop-end-preserved
loop-end-preserved c =
    let fs = c.loop-end.frames.items in
    let rest = c.loop-end.rest.now in
    let whole = c.split_at.result.0.now in
    let behind = c.split_at.result.1.now in
    let of = c.in_ok-of-in-Whole.ensures in
    let f = c.into_frame.result in
    let joined : rest ≡ whole ++ behind = sym (take-append-drop c.in-Whole.end rest) ∙ (λ i. sym c.split_at.ensures.front i ++ sym c.split_at.ensures.back i) in
    let was : AreCut c.args.replies c.args.bytes.now fs rest = record { whole = c.loop-end.invariant.whole; each = c.loop-end.invariant.each } in
    let more = cut-more c.args.replies c.args.bytes.now fs rest whole behind was c.in-Whole.ensures.0 joined (c.split_at.ensures.front_len ∙ c.in-Whole.ensures.1) (λ i. (c.type_inv.bytes i).fits) in
    let same : c.add_frame.new.frames.items ≡ fs ++ front_frame whole ∷ [] = c.in_ok-add_frame-in-Whole.ensures ∙ ap (λ (g : Frame). fs ++ g ∷ []) (c.into_frame.ensures.frame ∙ ap front_frame of) in
    let now = subst (λ (gs : List Frame). AreCut c.args.replies c.args.bytes.now gs behind) (sym same) more in
    record { whole = now.whole; each = now.each }
