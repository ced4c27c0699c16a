-- What is drawn at a place of a seed's stream is the coefficient there.
use Rattle.std.proofs.Common.{◌≡◌, ◌+◌, ◌*◌, ◌%◌, ◌<◌, ◌≤◌, ◌^◌, ℕ, List, ℤ, pos, ◌-ℤ◌, ◌∙◌, ap, sym, subst, arith, length, slice_index_or, slice_set, unsigned_abs, FitsSigned, w8, to_z, of_z}
use borrow.Author.Count.{below_more}
use Rattle.std.proofs.lemmas.Int.{to_z-of_z}
use Rattle.std.proofs.lemmas.List.{get_or-set_same, get_or-set_other}
use Rattle.std.specs.Int.RustNames.{count_ones}
use Rattle.std.proofs.lemmas.Nat.{ones-le}
use Rattle.rand_chacha.specs.ChaCha.{ChaCha, word_at, key_of}
use Rattle.psi_residue.specs.Numbers.{first_modulus, second_modulus}
use Rattle.psi_sampler.specs.Sampling.{word, two_words, key_coefficient, first_mask_residue, second_mask_residue, low_ones, error_coefficient, mask_stream, error_stream}

-- the low 21 bits have at most 21 ones
pub low_ones-few : (w : ℕ) → low_ones w ≤ 21
unfolding low_ones count_ones
low_ones-few w = ones-le 21 (w % 2 ^ 21) (omega arith)

-- the key's coefficient, where the words stand at its place
pub key_drawn : (g : ChaCha) (seed : List ℕ) (i : ℕ) (x : ℤ) → g.key ≡ key_of seed → g.stream ≡ 0 → g.word_pos ≡ i
    → x ≡ pos (word_at 10 g.key g.stream g.word_pos % 3) -ℤ pos 1 → x ≡ key_coefficient seed i
unfolding key_coefficient word
key_drawn g seed i x k s p e = e ∙ f where
  f : pos (word_at 10 g.key g.stream g.word_pos % 3) -ℤ pos 1 ≡ pos (word_at 10 (key_of seed) 0 i % 3) -ℤ pos 1
  f = λ t. pos (word_at 10 (k t) (s t) (p t) % 3) -ℤ pos 1

-- the error's coefficient, where the words stand at its two words
pub error_drawn : (g : ChaCha) (seed : List ℕ) (c i : ℕ) (x : ℤ) → g.key ≡ key_of seed → g.stream ≡ error_stream c → g.word_pos ≡ 2 * i
    → x ≡ pos (low_ones (word_at 10 g.key g.stream g.word_pos)) -ℤ pos (low_ones (word_at 10 g.key g.stream (g.word_pos + 1)))
    → x ≡ error_coefficient seed c i
unfolding error_coefficient word
error_drawn g seed c i x k s p e = e ∙ f where
  f : pos (low_ones (word_at 10 g.key g.stream g.word_pos)) -ℤ pos (low_ones (word_at 10 g.key g.stream (g.word_pos + 1)))
      ≡ pos (low_ones (word_at 10 (key_of seed) (error_stream c) (2 * i))) -ℤ pos (low_ones (word_at 10 (key_of seed) (error_stream c) (2 * i + 1)))
  f = λ t. pos (low_ones (word_at 10 (k t) (s t) (p t))) -ℤ pos (low_ones (word_at 10 (k t) (s t) (p t + 1)))

-- the mask's residues, where the words stand at its four words
pub first_mask_drawn : (g : ChaCha) (seed : List ℕ) (c i x : ℕ) → g.key ≡ key_of seed → g.stream ≡ mask_stream c → g.word_pos ≡ 4 * i
    → x ≡ (word_at 10 g.key g.stream g.word_pos + word_at 10 g.key g.stream (g.word_pos + 1) * 2 ^ 32) % first_modulus
    → x ≡ first_mask_residue seed c i
unfolding first_mask_residue two_words word
first_mask_drawn g seed c i x k s p e = e ∙ f where
  f : (word_at 10 g.key g.stream g.word_pos + word_at 10 g.key g.stream (g.word_pos + 1) * 2 ^ 32) % first_modulus
      ≡ (word_at 10 (key_of seed) (mask_stream c) (4 * i) + word_at 10 (key_of seed) (mask_stream c) (4 * i + 1) * 2 ^ 32) % first_modulus
  f = λ t. (word_at 10 (k t) (s t) (p t) + word_at 10 (k t) (s t) (p t + 1) * 2 ^ 32) % first_modulus

pub second_mask_drawn : (g : ChaCha) (seed : List ℕ) (c i x : ℕ) → g.key ≡ key_of seed → g.stream ≡ mask_stream c → g.word_pos ≡ 4 * i
    → x ≡ (word_at 10 g.key g.stream (g.word_pos + 2) + word_at 10 g.key g.stream (g.word_pos + 3) * 2 ^ 32) % second_modulus
    → x ≡ second_mask_residue seed c i
unfolding second_mask_residue two_words word
second_mask_drawn g seed c i x k s p e = e ∙ f ∙ ap (λ q. (word_at 10 (key_of seed) (mask_stream c) (4 * i + 2) + word_at 10 (key_of seed) (mask_stream c) q * 2 ^ 32) % second_modulus) (omega arith) where
  f : (word_at 10 g.key g.stream (g.word_pos + 2) + word_at 10 g.key g.stream (g.word_pos + 3) * 2 ^ 32) % second_modulus
      ≡ (word_at 10 (key_of seed) (mask_stream c) (4 * i + 2) + word_at 10 (key_of seed) (mask_stream c) (4 * i + 3) * 2 ^ 32) % second_modulus
  f = λ t. (word_at 10 (k t) (s t) (p t + 2) + word_at 10 (k t) (s t) (p t + 3) * 2 ^ 32) % second_modulus

-- one place more is filled
pub filled_step : {X : Type 0} (d : X) (f : ℕ → X) (out : List X) (i : ℕ) (x : X) → i < length out → x ≡ f i
    → ((k : ℕ) → k < i → slice_index_or out k d ≡ f k) → (k : ℕ) → k < i + 1 → slice_index_or (slice_set out i x) k d ≡ f k
filled_step {X} d f out i x within e before =
    below_more (λ k. slice_index_or (slice_set out i x) k d ≡ f k) i
    (λ k h. get_or-set_other out i k x d (λ same. absurd (omega (arith, same))) ∙ before k h)
    (get_or-set_same out i x d within ∙ e)

-- a number that was written as bits is as small as it was
pub small_written : (n : ℕ) (x : ℤ) → FitsSigned w8 x → unsigned_abs x ≤ n → unsigned_abs (to_z w8 (of_z w8 x)) ≤ n
small_written n x fits h = subst (λ z. unsigned_abs z ≤ n) (sym (to_z-of_z w8 x fits)) h
