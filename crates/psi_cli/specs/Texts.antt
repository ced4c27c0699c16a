-- The texts that commands write (their forms are this project's own). A line ends with the byte 10.
use Rattle.std.specs.Prelude.{ℕ, ◌==◌, if◌then◌else◌, List, [], ◌∷◌, ◌++◌, codes, length, slice_index_or}
use Rattle.std.specs.Fmt.{decimal}
use Rattle.std.specs.List.{flat_map}
use Rattle.hex.specs.Hex.{encode_lower}
use Rattle.psi_residue.specs.Numbers.{cipher_modulus}
use Rattle.psi_residue.specs.Parameters.{Parameters}
use Rattle.noise_ledger.specs.declared.ledger.Ledger.{Ledger}
use Rattle.noise_ledger.specs.declared.ledger.ParamFault.{ParamFault}
use Rattle.noise_ledger.specs.declared.ledger.ParamFault.TheVariants as faults
use Rattle.noise_ledger.specs.Verdicts.{ciphertexts_of}
use Rattle.query_codec.specs.Queries.{query_length}
use Rattle.psi_receiver.specs.declared.found.Found.{Found}

-- the end of a line
abbrev pub newline : List ℕ
newline = 10 ∷ []

-- a word, a space, and a number in decimal
unfoldable pub number_line : (name : List ℕ) → ℕ → List ℕ
number_line name n = name ++ 32 ∷ decimal n ++ newline

-- the same with two numbers
unfoldable pub numbers_line : (name : List ℕ) → (first second : ℕ) → List ℕ
numbers_line name first second = name ++ 32 ∷ decimal first ++ 32 ∷ decimal second ++ newline

-- the figures of parameters that pass
abbrev pub figures_text : Parameters → Ledger → List ℕ
figures_text p ledger =
    number_line (codes "ciphertexts") (ciphertexts_of p)
    ++ number_line (codes "query") (query_length p)
    ++ number_line (codes "carry") ledger.carry
    ++ number_line (codes "noise") ledger.noise
    ++ number_line (codes "used") ledger.used
    ++ number_line (codes "modulus") cipher_modulus

-- why parameters are refused
abbrev pub refusal_text : ParamFault → List ℕ
refusal_text (faults.Range field) = number_line (codes "refused range") field
refusal_text (faults.Size ciphertexts cells) = numbers_line (codes "refused size") ciphertexts cells
refusal_text (faults.Noise bound) = number_line (codes "refused noise") bound

-- bytes in lower-case hexadecimal, and a dash for none
abbrev pub shown_bytes : List ℕ → List ℕ
shown_bytes bytes = if length bytes == 0 then codes "-" else encode_lower bytes

-- an item by its number
abbrev pub shown_item : List (List ℕ) → ℕ → List ℕ
shown_item items number = shown_bytes (slice_index_or items number [])

-- a found item: the item, the bundle in decimal, and the label
unfoldable pub found_line : List (List ℕ) → Found → List ℕ
found_line items found = shown_item items found.item ++ 32 ∷ decimal found.bundle ++ 32 ∷ shown_bytes found.label ++ newline

-- all found items, a line each
abbrev pub found_text : List (List ℕ) → List Found → List ℕ
found_text items found = flat_map (found_line items) found

-- a crowded item
unfoldable pub crowded_line : List (List ℕ) → ℕ → List ℕ
crowded_line items number = codes "crowded " ++ shown_item items number ++ newline

-- crowded items, by their numbers, a line each
abbrev pub crowded_text : List (List ℕ) → List ℕ → List ℕ
crowded_text items numbers = flat_map (crowded_line items) numbers
