-- Short ciphertexts: a ciphertext rounded to the first modulus, without its low bits (modulus switching; Brakerski, Gentry, Vaikuntanathan
-- 2012). Of its four residue lists two are left, one of c0 and one of c1.
use Rattle.std.specs.Prelude.{◌≡◌, ℕ, ◌+◌, ◌-◌, ◌*◌, ◌/◌, ◌%◌, ◌^◌, ◌≤◌, ◌==◌, List, [], ◌∷◌, length, slice_index, if◌then◌else◌}
use Rattle.std.specs.List.{All}
use Rattle.psi_residue.specs.Sums.{table}
use Rattle.psi_residue.specs.Numbers.{first_modulus, ring_degree, second_modulus}
use Rattle.psi_residue.specs.Parameters.{Parameters}
use Rattle.psi_residue.specs.Residues.{composed}
use Rattle.psi_residue.specs.Ciphertexts.{list_at}

-- half of what the dropped bits can say
abbrev pub half_dropped : (drop : ℕ) → ℕ
half_dropped drop = 2 ^ drop / 2

-- a number modulo q = q1·q2, rounded to the modulus q1: x / q2 to the nearest whole number, modulo q1
unfoldable pub rounded : ℕ → ℕ
rounded x = (2 * x + second_modulus) / (2 * second_modulus) % first_modulus

-- the same without its low bits
unfoldable pub shortened : (drop : ℕ) → ℕ → ℕ
shortened drop x = rounded x / 2 ^ drop

-- the list of a polynomial whose coefficients have these residues
unfoldable pub shortened_list : (drop : ℕ) → (first second : List ℕ) → List ℕ
shortened_list drop first second = table ring_degree (λ k. shortened drop (composed (slice_index first k) (slice_index second k)))

-- the short ciphertext of a ciphertext
abbrev pub shortened_lists : (drop : ℕ) → List (List ℕ) → List (List ℕ)
shortened_lists drop ct = shortened_list drop (list_at ct 0) (list_at ct 1) ∷ shortened_list drop (list_at ct 2) (list_at ct 3) ∷ []

-- the lists of a reply's ciphertext, by the form of the reply: a full ciphertext, or a short one
abbrev pub reply_lists : Parameters → List (List ℕ) → List (List ℕ)
reply_lists p ct = if p.form == 2 then shortened_lists p.drop ct else ct

-- the greatest number of a short ciphertext
unfoldable pub greatest_short : (drop : ℕ) → ℕ
greatest_short drop = (first_modulus - 1) / 2 ^ drop

-- the list of one polynomial of a short ciphertext
pub record IsShortList (drop : ℕ) (xs : List ℕ) : Type 0 where
  pub size : length xs ≡ ring_degree
  pub within : All (λ x. x ≤ greatest_short drop) xs

-- a short ciphertext: one list of c0 and one of c1
pub record IsShortCiphertext (drop : ℕ) (ct : List (List ℕ)) : Type 0 where
  pub two : length ct ≡ 2
  pub z0 : IsShortList drop (list_at ct 0)
  pub z1 : IsShortList drop (list_at ct 1)

-- the middle of the numbers modulo q1 that a number without its low bits can stand for
unfoldable pub restored : (drop : ℕ) → ℕ → ℕ
restored drop z = z * 2 ^ drop + half_dropped drop

unfoldable pub restored_list : (drop : ℕ) → List ℕ → List ℕ
restored_list drop xs = table ring_degree (λ k. restored drop (slice_index xs k))
