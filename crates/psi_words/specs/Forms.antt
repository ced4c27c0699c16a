-- The forms of the words of a command line, and what words of these forms stand for. A word is the list of its bytes.
use Rattle.std.specs.Prelude.{ℕ, ◌+◌, ◌-◌, ◌*◌, Bool, true, not, ◌&&◌, ◌||◌, ◌==◌, nat_le, nat_lt, if◌then◌else◌, Result, Ok, Err, List, [], codes, length, slice_index, fold}
use Rattle.std.specs.Char.{is_ascii_digit}
use Rattle.std.specs.List.{list_all}
use Rattle.std.specs.Result.{result_unwrap_or}
use Rattle.std.specs.Str.{bytes_eq}
use Rattle.psi_words.specs.declared.fault.WordFault.{WordFault}
use Rattle.psi_words.specs.declared.fault.WordFault.TheVariants.{Value}
use Rattle.hex.specs.Hex.{decode_of, is_hex_digit}

-- what a word has to be: a word that is known by its place already, a number from low to high, 64 hexadecimal digits of either
-- case, or any word that is not empty
pub data Form : Type 0 where
  Known : Form
  Number : (low high : ℕ) → Form
  Seed : Form
  File : Form

-- one decimal digit or more, and nothing else
abbrev pub is_numeral : List ℕ → Bool
is_numeral word = nat_lt 0 (length word) && list_all is_ascii_digit word

-- `0`, or decimal digits that do not begin with 0
abbrev pub is_number : List ℕ → Bool
is_number word = bytes_eq word (codes "0") || (is_numeral word && not (slice_index word 0 == 48))

-- the number that decimal digits write
abbrev pub written_number : List ℕ → ℕ
written_number word = fold (λ number digit. 10 * number + (digit - 48)) 0 word

-- the bytes that hexadecimal digits write, two digits a byte, the higher first
abbrev pub seed_of : List ℕ → List ℕ
seed_of word = result_unwrap_or (decode_of word) []

-- a word is of a form
abbrev pub is_of : Form → List ℕ → Bool
is_of Known word = true
is_of (Number low high) word = is_number word && nat_le low (written_number word) && nat_le (written_number word) high
is_of Seed word = length word == 64 && list_all is_hex_digit word
is_of File word = nat_lt 0 (length word)

-- what a word gives that stands at a number among all words: the value, where the word is of the form
abbrev pub read : {A : Type 0} → Form → ℕ → List ℕ → A → Result A WordFault
read form at word value = if is_of form word then Ok value else Err (Value at)
