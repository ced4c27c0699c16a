-- The script's bytes are whole frames.
use Rattle.std.proofs.Common.{◌≡◌, ℕ, ◌*◌, ◌≤◌, List, [], ◌∷◌, ◌++◌, None, length, refl, sym, ap, ◌∙◌, arith, length-append}
use Rattle.std.specs.List.{All}
use Rattle.std.proofs.lemmas.List.{append-nil, take_all}
use Rattle.psi_frames.specs.declared.frame.Frame.{Frame}
use Rattle.psi_frames.specs.Frames.{AreWholeFrames, IsFrame, frames_bytes, most_bytes, request_table}
use Rattle.psi_frames.proofs.Feeding.{no_fault}
use Rattle.psi_demo.specs.Items.{asked_tags, run}
use Rattle.psi_demo.specs.Scripts.{IsAsked, IsScriptText, asking, drop, first_round, packing, put, script_frames, second_round, third_round}
use Rattle.psi_demo.proofs.Numbering.{length-frames, length-rounds, length-run}

-- bytes that are frames are whole frames, where they are few enough
pub whole_frames : (bytes : List ℕ) (frames : List Frame) → bytes ≡ frames_bytes frames → length bytes ≤ most_bytes → All (IsFrame request_table) frames → AreWholeFrames request_table bytes frames None
whole_frames bytes frames is few each = record {
  rest = [];
  whole = take_all most_bytes bytes few ∙ is ∙ sym (append-nil (frames_bytes frames));
  each = each;
  first = no_fault request_table;
  ended = λ _. refl;
}

pub length-second : (number : ℕ) (first second : List ℕ) → length (second_round number first second) ≡ 140
unfolding second_round
length-second number first second =
    let puts = run (put number) 300 1 100 in
    let drops = run (drop number) 4 8 37 in
    omega (arith, length-append ((asking 5 first ∷ puts) ++ drops) (packing ∷ asking 7 second ∷ []), length-append (asking 5 first ∷ puts) drops, length-run (put number) 300 1 100, length-run (drop number) 4 8 37)

pub length-first : (number : ℕ) → length (first_round number) ≡ 300
unfolding first_round
length-first number = length-run (put number) 0 1 300

pub length-third : (third : List ℕ) → length (third_round third) ≡ 1
unfolding third_round
length-third third = refl

-- 441 requests, and three Go frames
pub length-script : (number : ℕ) (first second third : List ℕ) → length (script_frames number first second third) ≡ 444
length-script number first second third =
    omega (arith, length-rounds (first_round number) (second_round number first second) (third_round third), length-first number, length-second number first second, length-third third)

-- they are few bytes
pub few-bytes : (bytes : List ℕ) (frames : List Frame) → bytes ≡ frames_bytes frames → length frames ≡ 444 → All (IsFrame request_table) frames → length bytes ≤ most_bytes
few-bytes bytes frames is number each =
    let size = length-frames frames each in
    let same = ap length is in
    let bound : length frames * 196608019 ≡ 444 * 196608019 = ap (λ (n : ℕ). n * 196608019) number in
    omega (arith, size, same, bound)

-- what `script` hands out
pub whole-script : (number : ℕ) (first second third bytes : List ℕ) → IsAsked number 0 (asked_tags number) first → IsAsked number 1 (asked_tags number) second → IsAsked number 2 (asked_tags number) third
    → bytes ≡ frames_bytes (script_frames number first second third) → All (IsFrame request_table) (script_frames number first second third) → IsScriptText number bytes
whole-script number first second third bytes a b c text each =
    let frames = script_frames number first second third in
    let few = few-bytes bytes frames text (length-script number first second third) each in
    record {
      frames = frames;
      script = record { first = first; second = second; third = third; first_asked = a; second_asked = b; third_asked = c; frames_are = refl };
      text = text;
      few_bytes = few;
      whole = whole_frames bytes frames text few each;
    }
