use Rattle.std.proofs.Common.{rules, OnOk, ◌≡◌, ◌∙◌, sym, ap, refl, ◌++◌, length, ℕ, List, append_assoc}
use Rattle.std.proofs.lemmas.Result.{on_ok_weaker}
use Rattle.byteorder.specs.Endian.{big_bytes}
use Rattle.psi_frames.specs.declared.reply.Reply.{Reply}
use Rattle.psi_frames.specs.Frames.{reply_frame_bytes}
use Rattle.psi_frames.proofs.Spelled.{coded, placed, placed-alone}
use Rattle.psi_frames.proofs.writing.append_answer.Goals as goal

pub returns-in_ok-push_u32-in-Full : goal.returns-in_ok-push_u32-in-Full
returns-in_ok-push_u32-in-Full c =
    let old = c.args.text.now.items in
    let begun = c.push_placed-in-Full.new.text.items in
    let planes = big_bytes 4 c.in-Full.planes in
    let cells = big_bytes 4 c.in-Full.cells in
    let whole = placed old begun (planes ++ cells) 133 c.args.session c.args.number c.in-Full.place 8 refl c.in_ok-push_placed-in-Full.ensures in
    record {
      appended = on_ok_weaker c.push_u32-in-Full.result
          (λ last. last ∙ ap (λ (t : List ℕ). t ++ cells) c.in_ok-push_u32-in-Full.ensures ∙ append_assoc begun planes cells ∙ whole
          ∙ ap (λ (r : Reply). old ++ reply_frame_bytes c.args.session c.args.number r) (sym c.in-Full.is))
          c.push_u32-in-Full.ensures;
    }

pub returns-in_ok-push_placed-in-Answer : goal.returns-in_ok-push_placed-in-Answer
returns-in_ok-push_placed-in-Answer c =
    let old = c.args.text.now.items in
    let begun = c.push_placed-in-Answer.new.text.items in
    let body = c.items-in-Answer.result.now in
    let more : length c.in-Answer.body ≡ length c.items.result.now = ap length (sym c.items.ensures) in
    let whole = placed old begun c.in-Answer.body 134 c.args.session c.args.number c.in-Answer.place (length c.items.result.now) more c.in_ok-push_placed-in-Answer.ensures in
    let last : OnOk c.extend_from_slice.result (c.extend_from_slice.new.self.items ≡ begun ++ body) = search rules in
    record {
      appended = on_ok_weaker c.extend_from_slice.result
          (λ last. last ∙ ap (λ (t : List ℕ). begun ++ t) c.items-in-Answer.ensures ∙ whole
          ∙ ap (λ (r : Reply). old ++ reply_frame_bytes c.args.session c.args.number r) (sym c.in-Answer.is))
          last;
    }

pub returns-in_ok-push_u16-in-Repacked : goal.returns-in_ok-push_u16-in-Repacked
returns-in_ok-push_u16-in-Repacked c =
    let old = c.args.text.now.items in
    let begun = c.push_placed-in-Repacked.new.text.items in
    let from = big_bytes 8 c.in-Repacked.from in
    let before = big_bytes 2 c.in-Repacked.before in
    let after = big_bytes 2 c.in-Repacked.after in
    let whole = placed old begun (from ++ before ++ after) 135 c.args.session c.args.number c.in-Repacked.place 12 refl c.in_ok-push_placed-in-Repacked.ensures in
    record {
      appended = on_ok_weaker c.push_u16-in-Repacked.result
          (λ last. last ∙ ap (λ (t : List ℕ). t ++ after) c.in_ok-push_u16-in-Repacked.ensures
          ∙ ap (λ (t : List ℕ). (t ++ before) ++ after) c.in_ok-push_u64-in-Repacked.ensures
          ∙ append_assoc (begun ++ from) before after ∙ append_assoc begun from (before ++ after) ∙ whole
          ∙ ap (λ (r : Reply). old ++ reply_frame_bytes c.args.session c.args.number r) (sym c.in-Repacked.is))
          c.push_u16-in-Repacked.ensures;
    }

pub returns-in_ok-push_u64-in-Moved : goal.returns-in_ok-push_u64-in-Moved
returns-in_ok-push_u64-in-Moved c =
    let old = c.args.text.now.items in
    let begun = c.push_placed-in-Moved.new.text.items in
    let from = big_bytes 8 c.in-Moved.from in
    let stamp = big_bytes 8 c.in-Moved.stamp in
    let whole = placed old begun (from ++ stamp) 136 c.args.session c.args.number c.in-Moved.place 16 refl c.in_ok-push_placed-in-Moved.ensures in
    record {
      appended = on_ok_weaker c.push_u64-in-Moved-2.result
          (λ last. last ∙ ap (λ (t : List ℕ). t ++ stamp) c.in_ok-push_u64-in-Moved.ensures ∙ append_assoc begun from stamp ∙ whole
          ∙ ap (λ (r : Reply). old ++ reply_frame_bytes c.args.session c.args.number r) (sym c.in-Moved.is))
          c.push_u64-in-Moved-2.ensures;
    }

pub returns-in-Added : goal.returns-in-Added
returns-in-Added c =
    let old = c.args.text.now.items in
    record {
      appended = on_ok_weaker c.push_placed.result
          (λ last. placed-alone old _ 129 c.args.session c.args.number c.in-Added.place last ∙ ap (λ (r : Reply). old ++ reply_frame_bytes c.args.session c.args.number r) (sym c.in-Added.is))
          c.push_placed.ensures;
    }

pub returns-in-Replaced : goal.returns-in-Replaced
returns-in-Replaced c =
    let old = c.args.text.now.items in
    record {
      appended = on_ok_weaker c.push_placed-in-Replaced.result
          (λ last. placed-alone old _ 130 c.args.session c.args.number c.in-Replaced.place last ∙ ap (λ (r : Reply). old ++ reply_frame_bytes c.args.session c.args.number r) (sym c.in-Replaced.is))
          c.push_placed-in-Replaced.ensures;
    }

pub returns-in-Removed : goal.returns-in-Removed
returns-in-Removed c =
    let old = c.args.text.now.items in
    record {
      appended = on_ok_weaker c.push_placed-in-Removed.result
          (λ last. placed-alone old _ 131 c.args.session c.args.number c.in-Removed.place last ∙ ap (λ (r : Reply). old ++ reply_frame_bytes c.args.session c.args.number r) (sym c.in-Removed.is))
          c.push_placed-in-Removed.ensures;
    }

pub returns-in-Absent : goal.returns-in-Absent
returns-in-Absent c =
    let old = c.args.text.now.items in
    record {
      appended = on_ok_weaker c.push_placed-in-Absent.result
          (λ last. placed-alone old _ 132 c.args.session c.args.number c.in-Absent.place last ∙ ap (λ (r : Reply). old ++ reply_frame_bytes c.args.session c.args.number r) (sym c.in-Absent.is))
          c.push_placed-in-Absent.ensures;
    }

pub returns-in_ok-push_head-in-Refused : goal.returns-in_ok-push_head-in-Refused
returns-in_ok-push_head-in-Refused c =
    let old = c.args.text.now.items in
    let begun = c.push_head.new.text.items in
    record {
      appended = on_ok_weaker c.push_u8.result
          (λ last. last ∙ coded old begun 137 c.args.session c.args.number c.in-Refused.code c.in_ok-push_head-in-Refused.ensures
          ∙ ap (λ (r : Reply). old ++ reply_frame_bytes c.args.session c.args.number r) (sym c.in-Refused.is))
          c.push_u8.ensures;
    }
