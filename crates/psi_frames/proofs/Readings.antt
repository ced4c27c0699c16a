-- Bytes are cut into frames in one way, and no request frame begins another one.
use Rattle.std.proofs.Common.{◌≡◌, inl, inr, ℕ, ◌+◌, Bool, true, false, nat_eq, List, [], ◌∷◌, ◌++◌, length, slice_index, Option, None, Some, refl, sym, ap, subst, ◌∙◌, arith, append_assoc}
use Rattle.std.proofs.lemmas.Bool.{and_from, eq-eqb, eqb-true, le-leb}
use Rattle.std.proofs.lemmas.List.{append-nil}
use Rattle.std.proofs.lemmas.List.Elements.{All-head, All-tail}
use Rattle.std.specs.List.{All}
use Rattle.byteorder.specs.Endian.{big_number}
use Rattle.psi_frames.specs.declared.frame.Frame.{Frame}
use Rattle.psi_frames.specs.Frames.{Fault, Short, IsFrame, NoRequestBeginsAnother, Table, frame_bytes, frames_bytes, front_fault, go_kind, greatest_length, head_bytes, is_frame_length}
use Rattle.psi_frames.specs.Feeds.{EndsIn, IsBegun, IsCut, PiecesDoNotMatter, table_of}
use Rattle.psi_frames.specs.Cuts.{BeginsWhole}
use Rattle.psi_frames.specs.FrontFrames.{front_frame}
use Rattle.psi_frames.proofs.FrameLaws.{big_number-frame, front_frame-frame, length-frame_append, one_frame}
use Rattle.psi_frames.proofs.Feeding.{no_fault}
use Rattle.psi_frames.proofs.Fronts.{begins-whole, is_long_go}

-- no Go frame has a body
short-go : (kind n : ℕ) → (kind ≡ go_kind → n ≡ head_bytes) → is_long_go kind n ≡ false
short-go kind n none = short-go_by kind n none (nat_eq kind go_kind) refl where
  short-go_by : (kind n : ℕ) → (kind ≡ go_kind → n ≡ head_bytes) → (b : Bool) → nat_eq kind go_kind ≡ b → is_long_go kind n ≡ false
  short-go_by kind n none true test = let e = eq-eqb n head_bytes (none (eqb-true kind go_kind test)) in rw (test, e) refl
  short-go_by kind n none false test = rw test refl

-- a frame of a table begins its bytes, whatever comes behind it
pub begins-frame : (table : Table) (f : Frame) (x : List ℕ) → IsFrame table f → BeginsWhole table (frame_bytes f ++ x)
unfolding front_frame
begins-frame table f x is =
    let bytes = frame_bytes f ++ x in
    let s = is.spellable in
    let word : big_number 4 bytes ≡ head_bytes + length f.body = big_number-frame f x s in
    let kind : slice_index bytes 4 ≡ f.kind = ap (λ (g : Frame). g.kind) (front_frame-frame f x s) in
    let size = length-frame_append f x in
    let ranged : is_frame_length table (big_number 4 bytes) ≡ true =
    and_from _ _ (le-leb table.least (big_number 4 bytes) (omega (arith, word, is.least))) (le-leb (big_number 4 bytes) greatest_length (omega (arith, word, s.length))) in
    begins-whole table bytes (omega (arith, size)) ranged (ap table.has_kind kind ∙ is.kind)
    (short-go (slice_index bytes 4) (big_number 4 bytes) (λ go. omega (arith, word, ap length (is.go (sym kind ∙ go))))) (omega (arith, size, word))

-- what ends a cut begins no whole frame
ends-cut : (table : Table) (tail rest : List ℕ) (fault : Option Fault) → EndsIn table tail rest fault → BeginsWhole table tail → ⊥
ends-cut table tail rest (Some fault) ends begins = absurd (let a = begins.faultless in let b = ends.0 in cc)
ends-cut table tail rest None (same, inl none) begins = let some = begins.some in omega (arith, some, ap length same, ap length none)
ends-cut table tail rest None (same, inr short) begins = absurd (let a = begins.faultless in let b : front_fault table tail ≡ Some Short = ap (front_fault table) same ∙ short in cc)

-- two cuts of the same bytes
pub one-cut : (table : Table) (fs gs : List Frame) (t u : List ℕ) → All (IsFrame table) fs → All (IsFrame table) gs → (BeginsWhole table t → ⊥) → (BeginsWhole table u → ⊥)
    → frames_bytes fs ++ t ≡ frames_bytes gs ++ u → (fs ≡ gs) × (t ≡ u)
one-cut table [] [] t u each_f each_g stuck_t stuck_u e = (refl, e)
one-cut table [] (g ∷ gs) t u each_f each_g stuck_t stuck_u e =
    let is = All-head (IsFrame table) g gs each_g in
    absurd (stuck_t (subst (BeginsWhole table) (sym (e ∙ append_assoc (frame_bytes g) (frames_bytes gs) u)) (begins-frame table g (frames_bytes gs ++ u) is)))
one-cut table (f ∷ fs) [] t u each_f each_g stuck_t stuck_u e =
    let is = All-head (IsFrame table) f fs each_f in
    absurd (stuck_u (subst (BeginsWhole table) (sym (append_assoc (frame_bytes f) (frames_bytes fs) t) ∙ e) (begins-frame table f (frames_bytes fs ++ t) is)))
one-cut table (f ∷ fs) (g ∷ gs) t u each_f each_g stuck_t stuck_u e =
    let whole : frame_bytes f ++ (frames_bytes fs ++ t) ≡ frame_bytes g ++ (frames_bytes gs ++ u) =
    sym (append_assoc (frame_bytes f) (frames_bytes fs) t) ∙ e ∙ append_assoc (frame_bytes g) (frames_bytes gs) u in
    let one = one_frame f g (frames_bytes fs ++ t) (frames_bytes gs ++ u) (All-head (IsFrame table) f fs each_f).spellable (All-head (IsFrame table) g gs each_g).spellable whole in
    let more = one-cut table fs gs t u (All-tail (IsFrame table) f fs each_f) (All-tail (IsFrame table) g gs each_g) stuck_t stuck_u one.1 in
    ((λ i. one.0 i ∷ more.0 i), more.1)

-- a frame that has begun has no fault
no-both : (table : Table) (tail rest : List ℕ) (fault : Fault) → tail ≡ rest → IsBegun table rest → front_fault table tail ≡ Some fault → (fault ≡ Short → ⊥) → ⊥
no-both table tail rest fault same (inl none) met other = let a = no_fault table in let b : front_fault table [] ≡ Some fault = sym (ap (front_fault table) (same ∙ none)) ∙ met in absurd (cc)
no-both table tail rest fault same (inr short) met other = let a : Some fault ≡ Some Short = sym met ∙ ap (front_fault table) same ∙ short in other (cc)

-- what ends it is one rest and one fault
one-end : (table : Table) (tail rest other : List ℕ) (fault found : Option Fault) → EndsIn table tail rest fault → EndsIn table tail other found → (rest ≡ other) × (fault ≡ found)
one-end table tail rest other None None a b = (sym a.0 ∙ b.0, refl)
one-end table tail rest other (Some x) (Some y) a b = (a.1 ∙ sym b.1, sym a.0 ∙ b.0)
one-end table tail rest other None (Some y) a b = absurd (no-both table tail rest y a.0 a.1 b.0 b.2)
one-end table tail rest other (Some x) None a b = absurd (no-both table tail other x b.0 b.1 a.0 a.2)

pub one_reading : PiecesDoNotMatter
one_reading a b bytes taken other same fed again =
    let table = table_of a.replies in
    let found : IsCut table bytes (other ++ b.ready) b.rest b.fault = subst (λ (r : Bool). IsCut (table_of r) bytes (other ++ b.ready) b.rest b.fault) (sym same) again in
    let one = one-cut table (taken ++ a.ready) (other ++ b.ready) fed.tail found.tail fed.each found.each (ends-cut table fed.tail a.rest a.fault fed.ended) (ends-cut table found.tail b.rest b.fault found.ended) (sym fed.whole ∙ found.whole) in
    let end = one-end table found.tail a.rest b.rest a.fault b.fault (subst (λ (t : List ℕ). EndsIn table t a.rest a.fault) one.1 fed.ended) found.ended in
    (one.0, end.0, end.1)

pub apart_requests : NoRequestBeginsAnother
apart_requests a b rest is_a is_b e = one_frame a b rest [] is_a.spellable is_b.spellable (e ∙ sym (append-nil (frame_bytes b)))
