-- What a seed decides of the keys, masks and errors of the scheme of Fan and Vercauteren (2012): a ternary key,
-- masks of two residues, and errors of a centred binomial distribution. All draws are words of the ChaCha20 block
-- function (RFC 8439), with the seed as its key.
use Rattle.std.specs.Prelude.{ℕ, ◌+◌, ◌*◌, ◌%◌, ◌^◌, List, ℤ, pos, ◌-ℤ◌, count_ones}
use Rattle.rand_chacha.specs.ChaCha.{word_at, key_of}
use Rattle.psi_residue.specs.Numbers.{first_modulus, second_modulus}

-- The word at a place of a stream: word number `place mod 16` of the block with the counter `place div 16`, after 20
-- rounds, which are 10 double rounds. RFC 8439 has a counter of 32 bits and a nonce of 96; `word_at` has a counter and
-- a stream number of 64 bits each, in the same four words of the state. Where the counter is below 2^32, the two agree
-- for the nonce of four zero bytes and then the stream number in 8 bytes, low byte first. The counters here are at
-- most 1023.
unfoldable pub word : List ℕ → ℕ → ℕ → ℕ
word seed stream place = word_at 10 (key_of seed) stream place

-- the stream of the key
abbrev pub key_stream : ℕ
key_stream = 0

-- the stream of the mask of ciphertext number c
abbrev pub mask_stream : ℕ → ℕ
mask_stream c = 1 + 2 * c

-- the stream of the error of ciphertext number c
abbrev pub error_stream : ℕ → ℕ
error_stream c = 2 + 2 * c

-- coefficient i of the key: -1, 0 or 1
unfoldable pub key_coefficient : List ℕ → ℕ → ℤ
key_coefficient seed i = pos (word seed key_stream i % 3) -ℤ pos 1

-- the number of two words in a row, the low word first
unfoldable pub two_words : List ℕ → ℕ → ℕ → ℕ
two_words seed stream place = word seed stream place + word seed stream (place + 1) * 2 ^ 32

-- coefficient i of the mask of ciphertext number c, modulo the first modulus
unfoldable pub first_mask_residue : List ℕ → ℕ → ℕ → ℕ
first_mask_residue seed c i = two_words seed (mask_stream c) (4 * i) % first_modulus

-- coefficient i of the mask of ciphertext number c, modulo the second modulus
unfoldable pub second_mask_residue : List ℕ → ℕ → ℕ → ℕ
second_mask_residue seed c i = two_words seed (mask_stream c) (4 * i + 2) % second_modulus

-- the number of ones among the low 21 bits of a word
unfoldable pub low_ones : ℕ → ℕ
low_ones w = count_ones (w % 2 ^ 21)

-- coefficient i of the error of ciphertext number c: a word's low ones less the next word's
unfoldable pub error_coefficient : List ℕ → ℕ → ℕ → ℤ
error_coefficient seed c i =
    pos (low_ones (word seed (error_stream c) (2 * i))) -ℤ pos (low_ones (word seed (error_stream c) (2 * i + 1)))
