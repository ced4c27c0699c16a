-- What a number without its low bits stands for is near what it was made from.
use Rattle.std.proofs.Common.{◌≡◌, ℕ, ◌+◌, ◌-◌, ◌*◌, ◌/◌, ◌%◌, ◌^◌, ◌<◌, ◌≤◌, List, length, get_or, refl, ap, ◌∙◌, sym, subst, arith}
use Rattle.std.proofs.Math.Nat.{div-add-mod, mod-lt, div-mul-le_self}
use Rattle.std.proofs.Math.Pow.{pow_mono, shr_mono}
use Rattle.std.proofs.lemmas.Nat.{pow_pos, mul-le}
use Rattle.std.proofs.lemmas.List.Elements.{All-from_get_or, All-get_or}
use Rattle.psi_residue.specs.Numbers.{first_modulus, second_modulus, cipher_modulus}
use Rattle.psi_residue.specs.Residues.{composed}
use Rattle.psi_residue.specs.Ciphertexts.{list_at}
use Rattle.psi_residue.specs.ShortCiphertexts.{half_dropped, rounded, shortened, shortened_list, shortened_lists, greatest_short, IsShortList, IsShortCiphertext, restored, restored_list}
use Rattle.psi_residue.proofs.Congruences.{mod-from_witness}
use Rattle.psi_residue.proofs.Sums.{length-table, slice_index-table}
use Rattle.bfv_core.specs.Encryptions.{IsNear}

-- ---- one number

-- y is x / q2, rounded, and `below` is y without its rest
near-parts : (x unit h below rest round y whole left : ℕ) → unit ≤ 2 * h + 1 → below + rest ≡ y → rest < unit → first_modulus * round + y ≡ whole
    → 2 * second_modulus * whole + left ≡ 2 * x + second_modulus → left < 2 * second_modulus
    → IsNear (2 * cipher_modulus) (second_modulus * (1 + 2 * h)) (2 * (second_modulus * (below + h))) (2 * x)
near-parts x unit h below rest round y whole left units parts short rounds nearest small = record {
  more = second_modulus * (1 + 2 * h) - (2 * (second_modulus * rest) + left);
  less = 2 * (second_modulus * rest) + left - second_modulus * (1 + 2 * h);
  small = omega (arith, units, short, small);
  near =
      mod-from_witness (2 * cipher_modulus) _ _ round 0
      (let e : 2 * (second_modulus * (below + h)) + (2 * (second_modulus * rest) + left - second_modulus * (1 + 2 * h)) + 2 * cipher_modulus * round
      ≡ 2 * x + (second_modulus * (1 + 2 * h) - (2 * (second_modulus * rest) + left)) + 2 * cipher_modulus * 0 =
      omega (arith, parts, rounds, nearest) in e);
}

-- whatever x is: the second modulus times what stands for it, and x, both twice
pub restored-near : (drop x : ℕ)
    → IsNear (2 * cipher_modulus) (second_modulus * (1 + 2 * half_dropped drop)) (2 * (second_modulus * restored drop (shortened drop x))) (2 * x)
unfolding restored shortened rounded
restored-near drop x = by_unit (2 ^ drop) (pow_pos drop)
  where
    by_unit : (unit : ℕ) → 0 < unit
        → IsNear (2 * cipher_modulus) (second_modulus * (1 + 2 * (unit / 2)))
        (2 * (second_modulus * ((2 * x + second_modulus) / (2 * second_modulus) % first_modulus / unit * unit + unit / 2))) (2 * x)
    by_unit unit positive =
        let whole : ℕ = (2 * x + second_modulus) / (2 * second_modulus) in
        let y : ℕ = whole % first_modulus in
        let units : unit ≤ 2 * (unit / 2) + 1 = omega arith in
        let swapped : y / unit * unit ≡ unit * (y / unit) = omega arith in
        let parts : y / unit * unit + y % unit ≡ y = ap (λ (u : ℕ). u + y % unit) swapped ∙ div-add-mod y unit in
        near-parts x unit (unit / 2) (y / unit * unit) (y % unit) (whole / first_modulus) y whole ((2 * x + second_modulus) % (2 * second_modulus))
        units parts (mod-lt y positive) (div-add-mod whole first_modulus) (div-add-mod (2 * x + second_modulus) (2 * second_modulus))
        (mod-lt (2 * x + second_modulus) (omega arith))

-- ---- lists

shortened-within : (drop x : ℕ) → shortened drop x ≤ greatest_short drop
unfolding shortened greatest_short rounded
shortened-within drop x =
    let le : (2 * x + second_modulus) / (2 * second_modulus) % first_modulus ≤ first_modulus - 1 = omega arith in
    shr_mono drop le

pub shortened_list-at : (drop : ℕ) (first second : List ℕ) (i : ℕ) → i < 4096
    → get_or (shortened_list drop first second) i 0 ≡ shortened drop (composed (get_or first i 0) (get_or second i 0))
unfolding shortened_list
shortened_list-at drop first second i lt = slice_index-table 4096 (λ k. shortened drop (composed (get_or first k 0) (get_or second k 0))) i lt

length-shortened_list : (drop : ℕ) (first second : List ℕ) → length (shortened_list drop first second) ≡ 4096
unfolding shortened_list
length-shortened_list drop first second = length-table 4096 (λ k. shortened drop (composed (get_or first k 0) (get_or second k 0)))

pub shortened_list-short : (drop : ℕ) (first second : List ℕ) → IsShortList drop (shortened_list drop first second)
shortened_list-short drop first second = record {
  size = length-shortened_list drop first second;
  within =
      All-from_get_or (λ x. x ≤ greatest_short drop) (shortened_list drop first second) 0
      (λ i lt.
      subst (λ (x : ℕ). x ≤ greatest_short drop)
      (sym (shortened_list-at drop first second i (subst (λ (n : ℕ). i < n) (length-shortened_list drop first second) lt)))
      (shortened-within drop (composed (get_or first i 0) (get_or second i 0))));
}

pub shortened-short : (drop : ℕ) (ct : List (List ℕ)) → IsShortCiphertext drop (shortened_lists drop ct)
shortened-short drop ct = record {
  two = refl;
  z0 = shortened_list-short drop (list_at ct 0) (list_at ct 1);
  z1 = shortened_list-short drop (list_at ct 2) (list_at ct 3);
}

pub length-restored_list : (drop : ℕ) (xs : List ℕ) → length (restored_list drop xs) ≡ 4096
unfolding restored_list
length-restored_list drop xs = length-table 4096 (λ k. restored drop (get_or xs k 0))

pub restored_list-at : (drop : ℕ) (xs : List ℕ) (i : ℕ) → i < 4096 → get_or (restored_list drop xs) i 0 ≡ restored drop (get_or xs i 0)
unfolding restored_list
restored_list-at drop xs i lt = slice_index-table 4096 (λ k. restored drop (get_or xs k 0)) i lt

-- ---- in 64 bits

-- a number up to the greatest is less than the first modulus with its low bits
whole-below : (unit z : ℕ) → 0 < unit → z ≤ (first_modulus - 1) / unit → z * unit < first_modulus
whole-below unit z positive le =
    let whole : (first_modulus - 1) / unit * unit ≤ first_modulus - 1 = div-mul-le_self (first_modulus - 1) unit in
    let product : z * unit ≤ (first_modulus - 1) / unit * unit = mul-le z unit ((first_modulus - 1) / unit) unit le (omega arith) in
    omega (arith, whole, product)

-- the computed numbers are the definition's: the unit fits in 64 bits
pub record IsRestored (drop z unit : ℕ) : Type 0 where
  pub whole : z * unit < first_modulus
  pub half : unit / 2 ≤ 524288
  pub same : z * unit + unit / 2 ≡ restored drop z

pub restored-fits : (drop z : ℕ) → drop ≤ 20 → z ≤ greatest_short drop → IsRestored drop z (1 * 2 ^ drop % 18446744073709551616)
unfolding greatest_short restored
restored-fits drop z few le = by_unit (2 ^ drop) (pow_pos drop) (pow_mono few) le refl
  where
    by_unit : (unit : ℕ) → 0 < unit → unit ≤ 1048576 → z ≤ (first_modulus - 1) / unit → unit ≡ 2 ^ drop → IsRestored drop z (1 * 2 ^ drop % 18446744073709551616)
    by_unit unit positive small within is =
        let e : unit ≡ 1 * unit % 18446744073709551616 = omega (arith, small) in
        subst (λ (u : ℕ). IsRestored drop z u) (e ∙ ap (λ (u : ℕ). 1 * u % 18446744073709551616) is)
        (record { whole = whole-below unit z positive within; half = omega (arith, small); same = ap (λ (u : ℕ). z * u + u / 2) is })

pub within-at : (drop : ℕ) (xs : List ℕ) (i : ℕ) → IsShortList drop xs → i < 4096 → get_or xs i 0 ≤ greatest_short drop
within-at drop xs i h lt = All-get_or (λ x. x ≤ greatest_short drop) xs i 0 (omega (arith, h.size)) h.within
