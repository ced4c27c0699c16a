use Rattle.std.proofs.Common.{◌≡◌, ◌<◌, ◌*◌, ℕ, slice_index}
use Rattle.std.specs.List.{AllWithin}
use Rattle.rand_chacha.specs.ChaCha.{key_of}
use Rattle.psi_residue.specs.Numbers.{first_modulus, second_modulus}
use Rattle.psi_sampler.specs.Sampling.{first_mask_residue, second_mask_residue, mask_stream}
use Rattle.psi_sampler.proofs.draws.mask.Given as goal

abbrev pub invariant-loop-i : goal.invariant-loop-i
invariant-loop-i l = record {
  key : l.words.key ≡ key_of l.seed;
  stream : l.words.stream ≡ mask_stream l.c;
  at : l.words.word_pos ≡ 4 * l.i;
  first : (k : ℕ) → k < l.i → slice_index l.out1 k ≡ first_mask_residue l.seed l.c k;
  second : (k : ℕ) → k < l.i → slice_index l.out2 k ≡ second_mask_residue l.seed l.c k;
  first_below : AllWithin (λ x. x < first_modulus) l.out1 0 l.i;
  second_below : AllWithin (λ x. x < second_modulus) l.out2 0 l.i;
}
