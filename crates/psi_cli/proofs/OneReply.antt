-- Bytes that are one reply frame, as a feed has them.
use Rattle.std.proofs.Common.{◌≡◌, ◌⊎◌, ℕ, List, [], ◌∷◌, ◌++◌, Bool, true, Option, None, Some, refl, sym, ap, ◌∙◌, subst, inl, inr, append-nil}
use Rattle.std.specs.List.{All}
use Rattle.std.specs.Option.{IfSome, option_and_then}
use Rattle.std.proofs.lemmas.List.Elements.{All-from_recursion, All-head}
use Rattle.psi_frames.specs.declared.frame.Frame.{Frame}
use Rattle.psi_frames.specs.declared.fault.FrameFault.{FrameFault}
use Rattle.psi_frames.specs.declared.fault.FrameFault.TheVariants.{NoMemory}
use Rattle.psi_frames.specs.declared.reply.Reply.{Reply}
use Rattle.psi_frames.specs.declared.reply.Reply.TheVariants as reply
use Rattle.psi_frames.specs.Feeds.{EndsIn, Feeding, HasFed, IsCut, table_of, told_fault}
use Rattle.psi_frames.specs.Frames.Fault.{Short}
use Rattle.psi_frames.specs.Frames.{Fault, IsFrame, frame_bytes, reply_table}
use Rattle.psi_frames.specs.ReplyFrames.{Tells}
use Rattle.psi_frames.specs.Served.{body_of}
use Rattle.psi_frames.proofs.FrameLaws.{one_frame}
use Rattle.psi_frames.proofs.Readings.{one_reading}
use Rattle.psi_cli.specs.AnswerFiles.{IsAnswerFile, IsOneReply}

-- what ends a cut without a fault
tail_is : (tail rest : List ℕ) (fault : Option Fault) → fault ≡ None → EndsIn reply_table tail rest fault → tail ≡ rest
tail_is tail rest None e ends = ends.0
tail_is tail rest (Some fault) e ends = absurd (cc)

-- a feed of the bytes has one frame, and nothing else
pub fed-one : (f : Feeding) (bytes : List ℕ) (frame : Frame) → f.replies ≡ true → HasFed f bytes [] → f.fault ≡ None → f.ready ≡ frame ∷ [] → f.rest ≡ [] → IsOneReply bytes frame
fed-one f bytes frame replies fed none ready rest =
    let cut : IsCut reply_table bytes (frame ∷ []) f.rest f.fault = subst (λ (fs : List Frame). IsCut reply_table bytes fs f.rest f.fault) ready (subst (λ (b : Bool). IsCut (table_of b) bytes f.ready f.rest f.fault) replies fed) in
    let tail : cut.tail ≡ [] = tail_is cut.tail f.rest f.fault none cut.ended ∙ rest in
    record {
      is_frame = All-head (IsFrame reply_table) frame [] cut.each;
      whole = cut.whole ∙ ap (λ (t : List ℕ). (frame_bytes frame ++ []) ++ t) tail ∙ append-nil (frame_bytes frame ++ []) ∙ append-nil (frame_bytes frame);
    }

one_each : (g : Frame) → IsFrame reply_table g → All (IsFrame reply_table) (g ∷ [])
one_each g is = All-from_recursion (IsFrame reply_table) (g ∷ []) (is, tt)

-- bytes that are one frame leave it alone in a feed
pub one-fed : (f : Feeding) (bytes : List ℕ) (frame : Frame) → f.replies ≡ true → HasFed f bytes [] → IsOneReply bytes frame → (f.ready ≡ frame ∷ []) × (f.rest ≡ []) × (f.fault ≡ None)
one-fed f bytes frame replies fed one =
    let other : Feeding = record { replies = true; ready = frame ∷ []; rest = []; fault = None } in
    let cut : HasFed other bytes [] =
    record {
      tail = [];
      whole = one.whole ∙ sym (append-nil (frame_bytes frame)) ∙ sym (append-nil (frame_bytes frame ++ []));
      each = one_each frame one.is_frame;
      ended = (refl, inl refl);
    } in
    one_reading f other bytes [] [] replies fed cut

-- so it is no feed with a fault
pub never-faulty : (f : Feeding) (bytes : List ℕ) (fault : Fault) → f.replies ≡ true → HasFed f bytes [] → f.fault ≡ Some fault → (frame : Frame) → IsOneReply bytes frame → ⊥
never-faulty f bytes fault replies fed met frame one = let none = (one-fed f bytes frame replies fed one).2 in absurd (cc)

-- the reply of the one frame, if it is an Answer
pub no_answer : (file : List ℕ) (frame : Frame) (found : Option Reply) (body : List ℕ) → IsOneReply file frame → ((r : Reply) → Tells frame.kind frame.body r → found ≡ Some r) → option_and_then body_of found ≡ None → IsAnswerFile file body → ⊥
no_answer file frame found body one only none is =
    let same : is.frame ≡ frame = (one_frame is.frame frame [] [] is.one.is_frame.spellable one.is_frame.spellable (append-nil (frame_bytes is.frame) ∙ sym is.one.whole ∙ one.whole ∙ sym (append-nil (frame_bytes frame)))).0 in
    let answer : found ≡ Some (reply.Answer is.place body) = only (reply.Answer is.place body) (subst (λ (g : Frame). Tells g.kind g.body (reply.Answer is.place body)) same is.tells) in
    let some : option_and_then body_of found ≡ Some body = ap (option_and_then body_of) answer in
    absurd (cc)

-- what a feed's only frame is
pub found_one : (f : Feeding) (bytes : List ℕ) (found : Option Frame) → f.replies ≡ true → HasFed f bytes [] → f.fault ≡ None → IfSome found (λ frame. (f.ready ≡ frame ∷ []) × (f.rest ≡ [])) → IfSome found (IsOneReply bytes)
found_one f bytes None replies fed none one = tt
found_one f bytes (Some frame) replies fed none one = fed-one f bytes frame replies fed none one.0 one.1

-- where it has none, the bytes are none
pub no_other : (f : Feeding) (bytes : List ℕ) (found : Option Frame) → f.replies ≡ true → HasFed f bytes [] → (found ≡ None → (frame : Frame) → f.ready ≡ frame ∷ [] → f.rest ≡ [] → ⊥) → found ≡ None → (frame : Frame) → IsOneReply bytes frame → ⊥
no_other f bytes found replies fed never none frame one = let alone = one-fed f bytes frame replies fed one in never none frame alone.0 alone.1

-- a fault that is not want of memory is one of the bytes
pub met_fault : (f : Feeding) (bytes : List ℕ) (told : FrameFault) → f.replies ≡ true → ((fault : Fault) → f.fault ≡ Some fault → HasFed f bytes []) → (told ≡ NoMemory → ⊥)
    → (told ≡ NoMemory) ⊎ ((fault : Fault) × (f.fault ≡ Some fault) × (told ≡ told_fault fault) × (fault ≡ Short → ⊥)) → (frame : Frame) → IsOneReply bytes frame → ⊥
met_fault f bytes told replies fed other (inl memory) = absurd (other memory)
met_fault f bytes told replies fed other (inr met) = never-faulty f bytes met.0 replies (fed met.0 met.1) met.1
