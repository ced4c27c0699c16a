use Rattle.std.proofs.Common.{◌∙◌, ◌+◌, ◌++◌, ℕ, List, ap, arith, refl, slice_index_or}
use Rattle.psi_frames.specs.declared.texts.Address.{Address}
use Rattle.psi_frames.proofs.Sending.{left_text, text-all, text-more}
use Rattle.psi_frames.proofs.texts.text_of.Goals as goal

pub loop-i-preserved : goal.loop-i-preserved
loop-i-preserved c =
    let none : Address = record { session = 0; number = 0 } in
    let a = slice_index_or c.args.addresses.now c.loop-i.i none in
    let r = c.index-replies-i.result in
    ap (λ (t : List ℕ). t ++ left_text c.args.addresses.now c.args.replies.now (c.loop-i.i + 1)) c.in_ok-append_answer.ensures.appended
    ∙ text-more c.args.addresses.now c.args.replies.now c.loop-i.i a none r c.loop-i.text.items _ (omega (arith, c.loop-i-test.true, c.requires.one_each)) c.loop-i-test.true refl c.index-replies-i.is c.loop-i.invariant

pub returns : goal.returns
returns c = text-all c.args.addresses.now c.args.replies.now c.loop-i.i c.loop-i.text.items _ (omega (arith, c.loop-i-test.false)) c.requires.one_each c.loop-i.invariant
