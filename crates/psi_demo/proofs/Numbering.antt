-- Requests that are numbered and written, one after another.
use Rattle.std.proofs.Common.{◌≡◌, ℕ, ◌+◌, ◌*◌, ◌≤◌, ◌<◌, ◌^◌, List, [], ◌∷◌, ◌++◌, length, refl, sym, ap, subst, ◌∙◌, arith, append_assoc, length-append}
use Rattle.std.specs.List.{All}
use Rattle.std.proofs.lemmas.Bool.{and_from, le-leb}
use Rattle.std.proofs.lemmas.List.{append-nil}
use Rattle.std.proofs.lemmas.List.Concat.{flat_map-append}
use Rattle.std.proofs.lemmas.List.Elements.{All-append, All-cons, All-head, All-nil, All-tail}
use Rattle.std.proofs.lemmas.List.FromFn.{length-map-range_with_len, map-range_with_len_more}
use Rattle.psi_frames.specs.declared.frame.Frame.{Frame}
use Rattle.psi_frames.specs.Frames.{IsFrame, frame_bytes, frames_bytes, greatest_length, request_table}
use Rattle.psi_frames.proofs.FrameLaws.{length-frame_append}
use Rattle.psi_demo.specs.declared.written.Written.{Written}
use Rattle.psi_demo.specs.Items.{run}
use Rattle.psi_demo.specs.Scripts.{Unnumbered, asking, drop, go_frame, numbered, numbered_frame, packing, put, rounds_frames, second_round}
use Rattle.psi_demo.specs.Writing.{Writes}

-- requests behind others take the numbers behind theirs
pub numbered-append : (n : ℕ) (xs ys : List Unnumbered) → numbered n (xs ++ ys) ≡ numbered n xs ++ numbered (n + length xs) ys
unfolding numbered
numbered-append n [] ys = ap (λ (m : ℕ). numbered m ys) (omega arith)
numbered-append n (x ∷ xs) ys =
    let next : n + 1 + length xs ≡ n + length (x ∷ xs) = omega arith in
    ap (λ (fs : List Frame). numbered_frame n x ∷ fs) (numbered-append (n + 1) xs ys ∙ ap (λ (m : ℕ). numbered (n + 1) xs ++ numbered m ys) next)

pub length-numbered : (n : ℕ) (xs : List Unnumbered) → length (numbered n xs) ≡ length xs
unfolding numbered
length-numbered n [] = refl
length-numbered n (x ∷ xs) = let more = length-numbered (n + 1) xs in omega (arith, more)

numbered-one : (n : ℕ) (x : Unnumbered) → numbered n (x ∷ []) ≡ numbered_frame n x ∷ []
unfolding numbered
numbered-one n x = refl

pub writes-none : (w : Written) → Writes w w []
unfolding numbered
writes-none w = record { text = sym (append-nil w.text.items); count = omega arith; each = All-nil (IsFrame request_table) }

-- one request, with its frame behind the text
pub writes-one : (old new : Written) (x : Unnumbered) → new.text.items ≡ old.text.items ++ frame_bytes (numbered_frame old.requests x) → new.requests ≡ old.requests + 1 → IsFrame request_table (numbered_frame old.requests x)
    → Writes old new (x ∷ [])
writes-one old new x text count is =
    let one = numbered-one old.requests x in
    record {
      text = text ∙ ap (λ (t : List ℕ). old.text.items ++ t) (sym (append-nil (frame_bytes (numbered_frame old.requests x))) ∙ ap frames_bytes (sym one));
      count = omega (arith, count);
      each = subst (All (IsFrame request_table)) (sym one) (All-cons (IsFrame request_table) (numbered_frame old.requests x) [] is (All-nil (IsFrame request_table)));
    }

-- what was written behind what was written
pub writes-both : (a b c : Written) (xs ys : List Unnumbered) → Writes a b xs → Writes b c ys → Writes a c (xs ++ ys)
writes-both a b c xs ys first second =
    let front = numbered a.requests xs in
    let back = numbered (a.requests + length xs) ys in
    let moved : numbered b.requests ys ≡ back = ap (λ (n : ℕ). numbered n ys) first.count in
    let whole : numbered a.requests (xs ++ ys) ≡ front ++ back = numbered-append a.requests xs ys in
    record {
      text =
          second.text
          ∙ (λ i. first.text i ++ frames_bytes (moved i))
          ∙ append_assoc a.text.items (frames_bytes front) (frames_bytes back)
          ∙ ap (λ (t : List ℕ). a.text.items ++ t) (sym (flat_map-append frame_bytes front back) ∙ ap frames_bytes (sym whole));
      count = omega (arith, first.count, second.count, length-append xs ys);
      each = subst (All (IsFrame request_table)) (sym whole) (All-append (IsFrame request_table) front back first.each (subst (All (IsFrame request_table)) moved second.each));
    }

-- one request more of a run
pub writes-more : (a b c : Written) (f : ℕ → Unnumbered) (first step k : ℕ) → Writes a b (run f first step k) → Writes b c (f (first + step * k) ∷ []) → Writes a c (run f first step (k + 1))
writes-more a b c f first step k done one =
    let more : run f first step (k + 1) ≡ run f first step k ++ f (first + step * k) ∷ [] = map-range_with_len_more (λ (j : ℕ). f (first + step * j)) 0 k k (omega arith) in
    subst (Writes a c) (sym more) (writes-both a b c (run f first step k) (f (first + step * k) ∷ []) done one)

pub length-run : (f : ℕ → Unnumbered) (first step count : ℕ) → length (run f first step count) ≡ count
length-run f first step count = length-map-range_with_len (λ (j : ℕ). f (first + step * j)) 0 count

-- a Go frame is one of the table
pub go-frame : IsFrame request_table go_frame
go-frame = record {
  spellable = record { kind = omega arith; session = omega arith; number = omega arith; body = All-nil (λ (b : ℕ). b < 2 ^ 8); length = omega arith };
  least = omega arith;
  kind = refl;
  go = λ _. refl;
}

-- a text of frames, a Go frame behind it, and frames behind that
text-go : (text now : List ℕ) (front back : List Frame) → text ≡ frames_bytes front → now ≡ (text ++ frame_bytes go_frame) ++ frames_bytes back → now ≡ frames_bytes (front ++ go_frame ∷ back)
text-go text now front back is more =
    more
    ∙ ap (λ (t : List ℕ). (t ++ frame_bytes go_frame) ++ frames_bytes back) is
    ∙ append_assoc (frames_bytes front) (frame_bytes go_frame) (frames_bytes back)
    ∙ sym (flat_map-append frame_bytes front (go_frame ∷ back))

each-go : (front back : List Frame) → All (IsFrame request_table) front → All (IsFrame request_table) back → All (IsFrame request_table) (front ++ go_frame ∷ back)
each-go front back first more = All-append (IsFrame request_table) front (go_frame ∷ back) first (All-cons (IsFrame request_table) go_frame back go-frame more)

-- three rounds with their Go frames
pub record AreRoundsWritten (bytes : List ℕ) (first second third : List Unnumbered) : Type 0 where
  pub text : bytes ≡ frames_bytes (rounds_frames first second third)
  pub each : All (IsFrame request_table) (rounds_frames first second third)

pub rounds-written : (a b c d e f g : Written) (first second third : List Unnumbered) → a.text.items ≡ [] → a.requests ≡ 0
    → Writes a b first → c.text.items ≡ b.text.items ++ frame_bytes go_frame → c.requests ≡ b.requests
    → Writes c d second → e.text.items ≡ d.text.items ++ frame_bytes go_frame → e.requests ≡ d.requests
    → Writes e f third → g.text.items ≡ f.text.items ++ frame_bytes go_frame
    → AreRoundsWritten g.text.items first second third
unfolding rounds_frames
rounds-written a b c d e f g first second third empty zero_requests w1 go1 same1 w2 go2 same2 w3 go3 =
    let n1 = length first in
    let n2 = length first + length second in
    let f1 = numbered 0 first in
    let f2 = numbered n1 second in
    let f3 = numbered n2 third in
    let at1 : numbered a.requests first ≡ f1 = ap (λ (n : ℕ). numbered n first) zero_requests in
    let at2 : numbered c.requests second ≡ f2 = ap (λ (n : ℕ). numbered n second) (omega (arith, same1, w1.count, zero_requests)) in
    let at3 : numbered e.requests third ≡ f3 = ap (λ (n : ℕ). numbered n third) (omega (arith, same2, w2.count, same1, w1.count, zero_requests)) in
    let back2 = f1 ++ go_frame ∷ f2 in
    let back3 = back2 ++ go_frame ∷ f3 in
    let t1 : b.text.items ≡ frames_bytes f1 = w1.text ∙ (λ i. empty i ++ frames_bytes (at1 i)) in
    let t2 : d.text.items ≡ frames_bytes back2 = text-go b.text.items d.text.items f1 f2 t1 (w2.text ∙ (λ i. go1 i ++ frames_bytes (at2 i))) in
    let t3 : f.text.items ≡ frames_bytes back3 = text-go d.text.items f.text.items back2 f3 t2 (w3.text ∙ (λ i. go2 i ++ frames_bytes (at3 i))) in
    let is = IsFrame request_table in
    let each2 : All is back2 = each-go f1 f2 (subst (All is) at1 w1.each) (subst (All is) at2 w2.each) in
    let each3 : All is back3 = each-go back2 f3 each2 (subst (All is) at3 w3.each) in
    record {
      text = text-go f.text.items g.text.items back3 [] t3 (go3 ∙ sym (append-nil (f.text.items ++ frame_bytes go_frame)));
      each = each-go back3 [] each3 (All-nil is);
    }

-- a frame of a table has so many bytes at most
pub length-frames : (fs : List Frame) → All (IsFrame request_table) fs → length (frames_bytes fs) ≤ length fs * (4 + greatest_length)
length-frames [] each = omega arith
length-frames (f ∷ fs) each =
    let one = (All-head (IsFrame request_table) f fs each).spellable.length in
    let more = length-frames fs (All-tail (IsFrame request_table) f fs each) in
    let size = length-frame_append f (frames_bytes fs) in
    omega (arith, one, more, size)

pub length-rounds : (first second third : List Unnumbered) → length (rounds_frames first second third) ≡ length first + length second + length third + 3
unfolding rounds_frames
length-rounds first second third =
    let f1 = numbered 0 first in
    let f2 = numbered (length first) second in
    let f3 = numbered (length first + length second) third in
    omega (arith, length-append ((f1 ++ go_frame ∷ f2) ++ go_frame ∷ f3) (go_frame ∷ []), length-append (f1 ++ go_frame ∷ f2) (go_frame ∷ f3), length-append f1 (go_frame ∷ f2), length-numbered 0 first, length-numbered (length first) second, length-numbered (length first + length second) third)

-- a request's frame is one of the table
pub request-frame : (kind session number : ℕ) (body : List ℕ) → 1 ≤ kind → kind ≤ 4 → session < 2 ^ 16 → number < 2 ^ 32 → All (λ b. b < 2 ^ 8) body → length body < 2 ^ 20
    → IsFrame request_table (record { kind = kind; session = session; number = number; body = body })
request-frame kind session number body some few in_session in_number bytes small = record {
  spellable = record { kind = omega (arith, few); session = in_session; number = in_number; body = bytes; length = omega (arith, small) };
  least = omega arith;
  kind = and_from _ _ (le-leb 1 kind some) (le-leb kind 5 (omega (arith, few)));
  go = λ is. absurd (omega (arith, few, is));
}

-- the second round, request by request
pub second-written : (a b c d e f : Written) (number : ℕ) (first second : List ℕ) → Writes a b (asking 5 first ∷ []) → Writes b c (run (put number) 300 1 100) → Writes c d (run (drop number) 4 8 37) → Writes d e (packing ∷ [])
    → Writes e f (asking 7 second ∷ []) → Writes a f (second_round number first second)
unfolding second_round
second-written a b c d e f number first second w1 w2 w3 w4 w5 =
    let puts = run (put number) 300 1 100 in
    let drops = run (drop number) 4 8 37 in
    let end : Writes d f (packing ∷ asking 7 second ∷ []) = writes-both d e f (packing ∷ []) (asking 7 second ∷ []) w4 w5 in
    let begun : Writes a c (asking 5 first ∷ puts) = writes-both a b c (asking 5 first ∷ []) puts w1 w2 in
    writes-both a d f ((asking 5 first ∷ puts) ++ drops) (packing ∷ asking 7 second ∷ []) (writes-both a c d (asking 5 first ∷ puts) drops begun w3) end
