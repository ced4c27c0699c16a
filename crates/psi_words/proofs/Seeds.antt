-- Words of 64 hexadecimal digits.
use Rattle.std.proofs.Common.{◌≡◌, ℕ, Bool, true, false, ◌==◌, List, length, Ok, Err, refl, sym, ◌∙◌}
use Rattle.std.specs.List.{list_all}
use Rattle.std.proofs.lemmas.Bool.{and_parts, eqb-true}
use Rattle.std.proofs.lemmas.List.Sums.{AllPass-from_list_all, list_all-from_AllPass}
use Rattle.hex.specs.Hex.{decode_sized, is_hex_digit}
use Rattle.hex.specs.declared.error.FromHexError.{FromHexError}
use Rattle.hex.proofs.HexLemmas.{IsOk-decode_sized, decode_sized-twice}
use Rattle.psi_words.specs.declared.fault.WordFault.TheVariants.{Value}
use Rattle.psi_words.specs.Forms.{is_of, read, seed_of}
use Rattle.psi_words.specs.Forms.Form.{Seed}

-- a word that decodes is of the form, and its bytes are those that its digits write
pub seed-Ok : (at : ℕ) (word seed : List ℕ) → decode_sized word 32 ≡ Ok seed → Ok seed ≡ read Seed at word (seed_of word)
seed-Ok at word seed e =
    let parts = (IsOk-decode_sized word 32).0 (rw e refl) in
    let digits = list_all-from_AllPass is_hex_digit word parts.1 in
    let decoded = sym (decode_sized-twice word 32 parts.0) ∙ e in
    rw (decoded, parts.0, digits) refl

-- a word that does not decode is not of the form
pub seed-Err : (at : ℕ) (word : List ℕ) (error : FromHexError) → decode_sized word 32 ≡ Err error
    → Err (Value at) ≡ read Seed at word (seed_of word)
seed-Err at word error e = unread (is_of Seed word) refl where
  unread : (b : Bool) → is_of Seed word ≡ b → Err (Value at) ≡ read Seed at word (seed_of word)
  unread false is = rw is refl
  unread true is =
      let parts = and_parts (length word == 64) (list_all is_hex_digit word) is in
      let ok = (IsOk-decode_sized word 32).1 (eqb-true (length word) 64 parts.0, AllPass-from_list_all is_hex_digit word parts.1) in
      absurd (cc (ok, e))
