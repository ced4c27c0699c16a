-- Which parameters are allowed, and why others are refused. The limits and their order are this project's own.
use Rattle.std.specs.Prelude.{◌≡◌, ◌≤◌, ℕ, ◌+◌, ◌*◌, Bool, not, ◌==◌, nat_le, nat_lt, ◌&&◌, if◌then◌else◌, List, [], ◌∷◌, Option, None, Some, Result, Ok, Err}
use Rattle.std.specs.List.{find}
use Rattle.std.specs.Option.{option_map}
use Rattle.psi_residue.specs.Numbers.{cipher_modulus}
use Rattle.psi_residue.specs.Parameters.{Parameters}
use Rattle.noise_ledger.specs.declared.params.Params.{Params}
use Rattle.noise_ledger.specs.declared.ledger.Ledger.{Ledger}
use Rattle.noise_ledger.specs.declared.ledger.ParamFault.{ParamFault}
use Rattle.noise_ledger.specs.declared.ledger.ParamFault.TheVariants as faults
use Rattle.noise_ledger.specs.Ledgers.{carry_of, noise_of, used_of, passes}

-- the parameters that a value of the program stands for
abbrev pub parameters_of : Params → Parameters
parameters_of p = record { form = p.form; rows = p.rows; capacity = p.capacity; units = p.units; drop = p.drop; spare = p.spare }

-- n is one of low, .., high
abbrev pub is_between : (low high n : ℕ) → Bool
is_between low high n = nat_le low n && nat_le n high

-- a field, by the offset of its first byte, and whether its value is allowed
pub record Field : Type 0 where
  pub offset : ℕ
  pub is_allowed : Bool

-- the fields in their order
abbrev pub fields : Parameters → List Field
fields p =
    record { offset = 0; is_allowed = p.form == 1 }
    ∷ record { offset = 1; is_allowed = is_between 1 4 p.rows }
    ∷ record { offset = 2; is_allowed = is_between 1 4095 p.capacity }
    ∷ record { offset = 4; is_allowed = is_between 0 4 p.units }
    ∷ record { offset = 5; is_allowed = p.drop == 0 }
    ∷ record { offset = 6; is_allowed = p.spare == 0 }
    ∷ []

-- the offset of the first field whose value is not allowed
abbrev pub range_fault : Parameters → Option ℕ
range_fault p = option_map (λ f. f.offset) (find (λ f. not f.is_allowed) (fields p))

-- the ciphertexts of a query: one for each row and power
abbrev pub ciphertexts_of : Parameters → ℕ
ciphertexts_of p = p.rows * p.capacity

-- the cells of one bundle in each row: one for each row, plane and coefficient of a bin's polynomials
abbrev pub least_cells : Parameters → ℕ
least_cells p = p.rows * (1 + p.units) * (p.capacity + 1)

-- a query and one bundle in each row have an allowed size
abbrev pub has_size : Parameters → Bool
has_size p = nat_le (ciphertexts_of p) 2400 && nat_le (least_cells p) 4096

-- the ledger of the parameters
abbrev pub ledger_of : Parameters → Ledger
ledger_of p = record { carry = carry_of p.capacity; noise = noise_of p.capacity; used = used_of p }

-- by the noise
abbrev pub judged_by_noise : Parameters → Result Ledger ParamFault
judged_by_noise p = if nat_lt (used_of p) cipher_modulus then Ok (ledger_of p) else Err (faults.Noise (used_of p))

-- by the first field that is not allowed, then by the size, then by the noise
abbrev pub judged_by : Option ℕ → Parameters → Result Ledger ParamFault
judged_by (Some offset) p = Err (faults.Range offset)
judged_by None p = if has_size p then judged_by_noise p else Err (faults.Size (ciphertexts_of p) (least_cells p))

-- what parameters come to: their ledger, or why they are refused
abbrev pub judged : Parameters → Result Ledger ParamFault
judged p = judged_by (range_fault p) p

-- each field has an allowed value
pub record AreInRange (p : Parameters) : Type 0 where
  pub first_form : p.form ≡ 1
  pub some_rows : 1 ≤ p.rows
  pub few_rows : p.rows ≤ 4
  pub some_members : 1 ≤ p.capacity
  pub few_members : p.capacity ≤ 4095
  pub few_units : p.units ≤ 4
  pub none_dropped : p.drop ≡ 0
  pub none_spare : p.spare ≡ 0

-- the parameters are allowed: their fields, the ciphertexts of a query, the cells of one bundle in each row, and the noise
pub record ArePassed (p : Parameters) : Type 0 where
  pub ranges : AreInRange p
  pub few_ciphertexts : p.rows * p.capacity ≤ 2400
  pub few_cells : p.rows * (1 + p.units) * (p.capacity + 1) ≤ 4096
  pub little_noise : passes p
