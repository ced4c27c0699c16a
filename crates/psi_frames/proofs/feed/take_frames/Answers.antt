use Rattle.std.proofs.Common.{◌≡◌, ◌<◌, ◌∷◌, [], ◌++◌, ℕ, List, length, slice_index, sym, ap, subst, ◌∙◌, arith, append_assoc, length-append}
use Rattle.psi_frames.specs.declared.frame.Frame.{Frame}
use Rattle.psi_frames.specs.Feeds.{IsCut, table_of}
use Rattle.psi_frames.specs.Cuts.{fault_met}
use Rattle.psi_frames.specs.FrontFrames.{front_frame}
use Rattle.psi_frames.proofs.Feeding.{cut-front, whole-within}
use Rattle.psi_frames.proofs.feed.take_frames.Goals as goal

pub into_frame-requires-clause-head : goal.into_frame-requires-clause-head
into_frame-requires-clause-head c =
    let within = whole-within c.args.replies (c.args.begun.now ++ (c.args.more.now ++ c.args.behind.now)) c.requires.whole in
    let whole = c.replace-whole.ensures.value ∙ c.in_ok-extend.ensures.ok in
    omega (arith, within.0, c.requires.exact, ap length whole, length-append c.args.begun.now c.args.more.now)

pub returns-clause-ok : goal.returns-clause-ok
returns-clause-ok c =
    let begun = c.args.begun.now in
    let more = c.args.more.now in
    let behind = c.args.behind.now in
    let frames = c.in_ok-frames.field-0.frames.items in
    let f = c.into_frame.result in
    let whole : c.replace-whole.result ≡ begun ++ more = c.replace-whole.ensures.value ∙ c.in_ok-extend.ensures.ok in
    let bytes : (i : ℕ) → slice_index (begun ++ more) i < 256 = subst (λ (t : List ℕ). (i : ℕ) → slice_index t i < 256) whole c.into_frame.ensures.bytes in
    let is : front_frame (begun ++ more) ≡ f = sym (c.into_frame.ensures.frame ∙ ap front_frame whole) in
    let cut = cut-front c.args.replies begun more behind frames c.in_ok-frames.field-0.begun (fault_met c.in_ok-frames.field-0.fault) c.requires.whole c.requires.exact bytes c.in_ok-frames.ensures in
    record {
      frames = f ∷ frames;
      ready =
          c.append_reserved.ensures ∙ ap (λ (t : List Frame). t ++ frames) c.push_back_reserved.ensures.items ∙ append_assoc c.reserve.new.self.items (f ∷ []) frames
          ∙ ap (λ (t : List Frame). t ++ f ∷ frames) c.in_ok-reserve.ensures.items;
      cut = subst (λ (r : List ℕ). IsCut (table_of c.args.replies) (begun ++ (more ++ behind)) (f ∷ frames) r (fault_met c.in_ok-frames.field-0.fault)) (sym c.replace-whole.ensures.after)
          (subst (λ (g : Frame). IsCut (table_of c.args.replies) (begun ++ (more ++ behind)) (g ∷ frames) c.in_ok-frames.field-0.begun (fault_met c.in_ok-frames.field-0.fault)) is cut);
    }
