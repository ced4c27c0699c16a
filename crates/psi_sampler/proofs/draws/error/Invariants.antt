use Rattle.std.proofs.Common.{◌≡◌, ◌<◌, ◌≤◌, ◌*◌, ℕ, pos, slice_index_or, unsigned_abs}
use Rattle.std.specs.List.{AllWithin}
use Rattle.rand_chacha.specs.ChaCha.{key_of}
use Rattle.psi_sampler.specs.Sampling.{error_coefficient, error_stream}
use Rattle.psi_sampler.proofs.draws.error.Given as goal

abbrev pub invariant-loop-place : goal.invariant-loop-place
invariant-loop-place l = record {
  key : l.words.key ≡ key_of l.seed;
  stream : l.words.stream ≡ error_stream l.c;
  at : l.words.word_pos ≡ 2 * l.place-index;
  value : (i : ℕ) → i < l.place-index → slice_index_or l.out i (pos 0) ≡ error_coefficient l.seed l.c i;
  small : AllWithin (λ x. unsigned_abs x ≤ 21) l.out 0 l.place-index;
}
