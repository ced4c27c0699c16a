-- What the size of a round tells of its frames.
use Rattle.std.proofs.Common.{◌≡◌, inl, inr, ℕ, ◌≤◌, min, ◌||◌, Bool, nat_le, List, length, sym, ap, ◌∙◌, arith}
use Rattle.std.proofs.lemmas.Bool.{cases_lt, le-leb, lt-leb}
use Rattle.psi_frames.specs.declared.frame.Frame.{Frame}
use Rattle.psi_frames.specs.Frames.{frames_bytes}
use Rattle.psi_frames.specs.Rounds.{bytes_of_round, frames_of_round, is_full}
use Rattle.psi_frames.specs.RoundSizes.{HasSize, most_counted}

-- a test of a number that stands still far above it
nat_le-counted : (k n : ℕ) → k ≤ most_counted → nat_le k (min n most_counted) ≡ nat_le k n
nat_le-counted k n few = elim (cases_lt n k) [
  | inl below ↦ lt-leb k (min n most_counted) (omega (arith, below)) ∙ sym (lt-leb k n below)
  | inr above ↦ le-leb k (min n most_counted) (omega (arith, above, few)) ∙ sym (le-leb k n above)
]

-- frames are full by their number, and what was counted of them
pub full-sized : (go : Bool) (frames bytes : ℕ) (fs : List Frame) → frames ≡ length fs → HasSize go bytes fs → is_full fs ≡ (go || (nat_le frames_of_round frames || nat_le bytes_of_round bytes))
unfolding is_full
full-sized go frames bytes fs number size =
    let small = ap (nat_le bytes_of_round) size.bytes ∙ nat_le-counted bytes_of_round (length (frames_bytes fs)) (omega arith) in
    λ i. sym size.go i || (nat_le frames_of_round (sym number i) || sym small i)
