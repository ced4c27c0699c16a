-- What a feed has of the bytes that came, step by step.
use Rattle.std.proofs.Common.{◌≡◌, ℕ, ◌+◌, ◌<◌, ◌≤◌, Bool, List, [], ◌∷◌, ◌++◌, length, slice_index, Option, None, Some, refl, sym, ap, subst, ◌∙◌, arith, append_assoc, length-append}
use Rattle.std.proofs.lemmas.List.{append-nil}
use Rattle.std.proofs.lemmas.List.Concat.{flat_map-append}
use Rattle.std.proofs.lemmas.List.Elements.{All-append, All-cons, All-push, All-same}
use Rattle.std.specs.List.{All}
use Rattle.byteorder.specs.Endian.{big_number}
use Rattle.psi_frames.specs.declared.frame.Frame.{Frame}
use Rattle.psi_frames.specs.Frames.{Fault, IsFrame, Table, frame_bytes, frames_bytes, front_fault}
use Rattle.psi_frames.specs.Feeds.{Feeding, IsCut, table_of}
use Rattle.psi_frames.specs.Cuts.{BeginsWhole, IsTaken, TakesIn}
use Rattle.psi_frames.specs.FrontFrames.{front_frame}
use Rattle.psi_frames.proofs.Bytes.{byte-front, byte-rest}
use Rattle.psi_frames.proofs.Fronts.{fault-stays, passes, ranged-bounds, whole-frame}

-- one more whole frame
pub one_more : (fs : List Frame) (f : Frame) → frames_bytes (fs ++ f ∷ []) ≡ frames_bytes fs ++ frame_bytes f
one_more fs f = flat_map-append frame_bytes fs (f ∷ []) ∙ ap (λ (t : List ℕ). frames_bytes fs ++ t) (append-nil (frame_bytes f))

-- the bytes are some whole frames, and a rest
pub record AreCut (replies : Bool) (bytes : List ℕ) (frames : List Frame) (rest : List ℕ) : Type 0 where
  pub whole : bytes ≡ frames_bytes frames ++ rest
  pub each : All (IsFrame (table_of replies)) frames

-- a whole frame ends among the bytes that it begins
pub whole-within : (replies : Bool) (rest : List ℕ) → BeginsWhole (table_of replies) rest → (11 ≤ 4 + big_number 4 rest) × (4 + big_number 4 rest ≤ length rest)
whole-within replies rest begins =
    let p = passes (table_of replies) rest begins in
    let b = ranged-bounds replies (big_number 4 rest) p.ranged in
    (omega (arith, b.1), p.whole)

-- the next whole frame
pub cut-more : (replies : Bool) (bytes : List ℕ) (fs : List Frame) (rest whole behind : List ℕ) → AreCut replies bytes fs rest → BeginsWhole (table_of replies) rest
    → rest ≡ whole ++ behind → length whole ≡ 4 + big_number 4 rest → ((i : ℕ) → slice_index bytes i < 256)
    → AreCut replies bytes (fs ++ front_frame whole ∷ []) behind
cut-more replies bytes fs rest whole behind cut begins joined exact each =
    let f = front_frame whole in
    let is = whole-frame replies rest whole behind joined begins exact (byte-front rest whole behind joined (byte-rest bytes (frames_bytes fs) rest cut.whole each)) in
    record {
      whole =
          cut.whole ∙ ap (λ (t : List ℕ). frames_bytes fs ++ t) (joined ∙ ap (λ (t : List ℕ). t ++ behind) is.1) ∙ sym (append_assoc (frames_bytes fs) (frame_bytes f) behind)
          ∙ ap (λ (t : List ℕ). t ++ behind) (sym (one_more fs f));
      each = All-push (IsFrame (table_of replies)) fs f cut.each is.0;
    }

-- bytes behind a frame that has begun: the frames that they make whole stand behind the others
pub taken-in : (replies : Bool) (bytes : List ℕ) (taken old new : List Frame) (rest piece left : List ℕ) (fault : Option Fault)
    → IsCut (table_of replies) bytes (taken ++ old) rest None → IsTaken (table_of replies) (rest ++ piece) old new left fault
    → IsCut (table_of replies) (bytes ++ piece) (taken ++ new) left fault
taken-in replies bytes taken old new rest piece left fault fed more =
    let fs = taken ++ old in
    let gs = more.frames in
    let all : taken ++ new ≡ fs ++ gs = ap (λ (t : List Frame). taken ++ t) more.ready ∙ sym (append_assoc taken old gs) in
    record {
      tail = more.cut.tail;
      whole =
          ap (λ (t : List ℕ). t ++ piece) (fed.whole ∙ ap (λ (t : List ℕ). frames_bytes fs ++ t) fed.ended.0) ∙ append_assoc (frames_bytes fs) rest piece
          ∙ ap (λ (t : List ℕ). frames_bytes fs ++ t) more.cut.whole ∙ sym (append_assoc (frames_bytes fs) (frames_bytes gs) more.cut.tail)
          ∙ ap (λ (t : List ℕ). t ++ more.cut.tail) (sym (flat_map-append frame_bytes fs gs)) ∙ ap (λ t. frames_bytes t ++ more.cut.tail) (sym all);
      each = All-same (IsFrame (table_of replies)) (taken ++ new) (fs ++ gs) all (All-append (IsFrame (table_of replies)) fs gs fed.each more.cut.each);
      ended = more.cut.ended;
    }

-- behind a fault nothing changes
pub stays-faulty : (table : Table) (bytes : List ℕ) (frames : List Frame) (rest piece : List ℕ) (fault : Fault) → IsCut table bytes frames rest (Some fault)
    → IsCut table (bytes ++ piece) frames rest (Some fault)
stays-faulty table bytes frames rest piece fault fed = record {
  tail = fed.tail ++ piece;
  whole = ap (λ (t : List ℕ). t ++ piece) fed.whole ∙ append_assoc (frames_bytes frames) fed.tail piece;
  each = fed.each;
  ended = (fault-stays table fed.tail piece fault fed.ended.0 fed.ended.2, fed.ended.1, fed.ended.2);
}

-- no bytes have no fault
pub no_fault : (table : Table) → front_fault table [] ≡ None
unfolding front_fault
no_fault table = refl

-- the frame that a piece makes whole, and those behind it
pub cut-front : (replies : Bool) (begun more behind : List ℕ) (frames : List Frame) (rest : List ℕ) (fault : Option Fault) → BeginsWhole (table_of replies) (begun ++ (more ++ behind))
    → length begun + length more ≡ 4 + big_number 4 (begun ++ (more ++ behind)) → ((i : ℕ) → slice_index (begun ++ more) i < 256)
    → IsCut (table_of replies) behind frames rest fault → IsCut (table_of replies) (begun ++ (more ++ behind)) (front_frame (begun ++ more) ∷ frames) rest fault
cut-front replies begun more behind frames rest fault begins exact each cut =
    let whole = begun ++ more in
    let joined : begun ++ (more ++ behind) ≡ whole ++ behind = sym (append_assoc begun more behind) in
    let f = front_frame whole in
    let is = whole-frame replies (begun ++ (more ++ behind)) whole behind joined begins (length-append begun more ∙ exact) each in
    record {
      tail = cut.tail;
      whole =
          joined ∙ ap (λ (t : List ℕ). t ++ behind) is.1 ∙ ap (λ (t : List ℕ). frame_bytes f ++ t) cut.whole ∙ sym (append_assoc (frame_bytes f) (frames_bytes frames) cut.tail);
      each = All-cons (IsFrame (table_of replies)) f frames is.0 cut.each;
      ended = cut.ended;
    }

-- a feed that took a piece in without a fault before
pub takes-in : (old new : Feeding) (piece : List ℕ) → old.fault ≡ None → new.replies ≡ old.replies
    → IsTaken (table_of old.replies) (old.rest ++ piece) old.ready new.ready new.rest new.fault → TakesIn old new piece
takes-in old new piece none same more = λ bytes taken fed.
    let before : IsCut (table_of old.replies) bytes (taken ++ old.ready) old.rest None = subst (IsCut (table_of old.replies) bytes (taken ++ old.ready) old.rest) none fed in
    subst (λ (r : Bool). IsCut (table_of r) (bytes ++ piece) (taken ++ new.ready) new.rest new.fault) (sym same)
    (taken-in old.replies bytes taken old.ready new.ready old.rest piece new.rest new.fault before more)

-- a feed that has met a fault takes any piece in
pub faulty-in : (f : Feeding) (piece : List ℕ) (fault : Fault) → f.fault ≡ Some fault → TakesIn f f piece
faulty-in f piece fault met = λ bytes taken fed.
    let frames = taken ++ f.ready in
    subst (IsCut (table_of f.replies) (bytes ++ piece) frames f.rest) (sym met)
    (stays-faulty (table_of f.replies) bytes frames f.rest piece fault (subst (IsCut (table_of f.replies) bytes frames f.rest) met fed))
