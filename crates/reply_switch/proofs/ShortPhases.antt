-- c0 + c1·s of a short ciphertext is near that of the ciphertext. Numbers are taken twice and modulo 2q, so that halves are whole numbers;
-- a number w modulo the first modulus stands there as the second modulus times w.
use Rattle.std.proofs.Common.{◌≡◌, ℕ, suc, ◌+◌, ◌*◌, ◌%◌, ◌<◌, ◌≤◌, List, length, refl, ap, ◌∙◌, sym, arith, ℤ}
use Rattle.std.proofs.lemmas.List.{length-map}
use Rattle.psi_residue.specs.Numbers.{first_modulus, second_modulus, cipher_modulus}
use Rattle.psi_residue.specs.Residues.{composed, residue_of, residues_of}
use Rattle.psi_residue.specs.Ciphertexts.{list_at, IsCiphertext}
use Rattle.psi_residue.specs.ShortCiphertexts.{half_dropped, shortened, shortened_list, shortened_lists, restored, restored_list}
use Rattle.psi_residue.proofs.Congruences.{sum_congruent}
use Rattle.psi_residue.proofs.Composition.{composed-first, composed-second, composed-is}
use Rattle.negacyclic.proofs.Ring.{ring, ring-mod, ring-times}
use Rattle.negacyclic.proofs.Products.{past-end}
use Rattle.noise_ledger.specs.Ledgers.{rounding_of}
use Rattle.bfv_core.specs.Encryptions.{IsKey, IsNear, phase_residue, phase}
use Rattle.bfv_core.specs.ShortOpenings.{short_phase}
use Rattle.bfv_core.proofs.LedgerErrors.{ErrorAt, errors_at}
use Rattle.bfv_core.proofs.LedgerEvaluations.{coefficient, phase_residue-ring}
use Rattle.reply_switch.proofs.Restoring.{restored-near, shortened_list-at, length-restored_list, restored_list-at}
use Rattle.reply_switch.proofs.SignedKeys.{up_at, down_at, signed, residues-signed, up-past, down-past, both-small, ring-comm, first_part, near-signed, signed-bound}

-- -1 modulo 2q, and so modulo q and both residue moduli
pub minus_one : ℕ
minus_one = 9444689055954039619585

minus_one-twice : (minus_one + 1) % (2 * cipher_modulus) ≡ 0
unfolding minus_one
minus_one-twice = refl

minus_one-first : (minus_one + 1) % first_modulus ≡ 0
unfolding minus_one
minus_one-first = refl

minus_one-second : (minus_one + 1) % second_modulus ≡ 0
unfolding minus_one
minus_one-second = refl

-- the product of the key and y
unfoldable key_times : List ℤ → (ℕ → ℕ) → ℕ → ℕ
key_times key y i = ring 4095 minus_one (signed minus_one (up_at key) (down_at key)) y i

-- a polynomial by its residues
abbrev number_at : (first second : List ℕ) → ℕ → ℕ
number_at first second i = composed (coefficient first i) (coefficient second i)

-- what its short list stands for
abbrev restored_at : (drop : ℕ) → (first second : List ℕ) → ℕ → ℕ
restored_at drop first second i = restored drop (shortened drop (number_at first second i))

-- c0 + c1·s modulo m, from what is congruent to c0 and c1
phase-signed : (m : ℕ) (key : List ℤ) (c0 c1 : List ℕ) (y0 y1 : ℕ → ℕ) → 0 < m → (minus_one + 1) % m ≡ 0 → length key ≡ suc 4095 → length c1 ≡ suc 4095
    → ((i : ℕ) → i ≤ 4095 → coefficient c0 i % m ≡ y0 i % m) → ((i : ℕ) → i ≤ 4095 → coefficient c1 i % m ≡ y1 i % m) → (i : ℕ) → i ≤ 4095
    → phase_residue m key c0 c1 i % m ≡ (y0 i + key_times key y1 i) % m
unfolding key_times
phase-signed m key c0 c1 y0 y1 positive e lk lc h0 h1 i le =
    phase_residue-ring m minus_one key c0 c1 positive e lk lc i le
    ∙ sum_congruent m (coefficient c0 i) (y0 i) (ring 4095 minus_one (coefficient c1) (coefficient (residues_of m key)) i)
    (ring 4095 minus_one (signed minus_one (up_at key) (down_at key)) y1 i) (h0 i le)
    (ap (λ (u : ℕ). u % m)
    (ring-comm 4095 minus_one (coefficient c1) (coefficient (residues_of m key)) (past-end 4095 c1 lc)
    (past-end 4095 (residues_of m key) (length-map key (residue_of m) ∙ lk)) i le)
    ∙ ring-mod m 4095 minus_one minus_one (coefficient (residues_of m key)) (signed minus_one (up_at key) (down_at key)) (coefficient c1) y1 refl
    (residues-signed m minus_one key positive e lk) h1 i le)

phase-whole : (key : List ℤ) (ct : List (List ℕ)) → length key ≡ suc 4095 → IsCiphertext ct → (i : ℕ) → i ≤ 4095
    → phase key ct i % cipher_modulus ≡ (number_at (list_at ct 0) (list_at ct 1) i + key_times key (number_at (list_at ct 2) (list_at ct 3)) i) % cipher_modulus
unfolding phase
phase-whole key ct lk h i le =
    let c0 : ℕ → ℕ = number_at (list_at ct 0) (list_at ct 1) in
    let c1 : ℕ → ℕ = number_at (list_at ct 2) (list_at ct 3) in
    composed-is (phase_residue first_modulus key (list_at ct 0) (list_at ct 2) i) (phase_residue second_modulus key (list_at ct 1) (list_at ct 3) i)
    (c0 i + key_times key c1 i)
    (phase-signed first_modulus key (list_at ct 0) (list_at ct 2) c0 c1 (omega arith) minus_one-first lk h.c1_first.size
    (λ l lel. sym (composed-first (coefficient (list_at ct 0) l) (coefficient (list_at ct 1) l)))
    (λ l lel. sym (composed-first (coefficient (list_at ct 2) l) (coefficient (list_at ct 3) l))) i le)
    (phase-signed second_modulus key (list_at ct 1) (list_at ct 3) c0 c1 (omega arith) minus_one-second lk h.c1_second.size
    (λ l lel. sym (composed-second (coefficient (list_at ct 0) l) (coefficient (list_at ct 1) l)))
    (λ l lel. sym (composed-second (coefficient (list_at ct 2) l) (coefficient (list_at ct 3) l))) i le)

restored-is : (drop : ℕ) (first second : List ℕ) (i : ℕ) → i ≤ 4095
    → coefficient (restored_list drop (shortened_list drop first second)) i ≡ restored_at drop first second i
restored-is drop first second i le =
    restored_list-at drop (shortened_list drop first second) i (omega arith) ∙ ap (restored drop) (shortened_list-at drop first second i (omega arith))

phase-short : (drop : ℕ) (key : List ℤ) (ct : List (List ℕ)) → length key ≡ suc 4095 → (i : ℕ) → i ≤ 4095
    → short_phase drop key (shortened_lists drop ct) i % first_modulus
    ≡ (restored_at drop (list_at ct 0) (list_at ct 1) i + key_times key (restored_at drop (list_at ct 2) (list_at ct 3)) i) % first_modulus
unfolding short_phase
phase-short drop key ct lk i le =
    phase-signed first_modulus key (restored_list drop (shortened_list drop (list_at ct 0) (list_at ct 1)))
    (restored_list drop (shortened_list drop (list_at ct 2) (list_at ct 3)))
    (restored_at drop (list_at ct 0) (list_at ct 1)) (restored_at drop (list_at ct 2) (list_at ct 3)) (omega arith) minus_one-first lk
    (length-restored_list drop (shortened_list drop (list_at ct 2) (list_at ct 3)))
    (λ l lel. ap (λ (u : ℕ). u % first_modulus) (restored-is drop (list_at ct 0) (list_at ct 1) l lel))
    (λ l lel. ap (λ (u : ℕ). u % first_modulus) (restored-is drop (list_at ct 2) (list_at ct 3) l lel)) i le

-- the parts joined, as plain numbers: of the short one the phase w, y0 and y1·s, and of the full one p, x0 and x1·s
near-joined : (w y0 y1 p x0 x1 more less more_key less_key : ℕ) → w % first_modulus ≡ (y0 + y1) % first_modulus → p % cipher_modulus ≡ (x0 + x1) % cipher_modulus
    → (2 * (second_modulus * y0) + less) % (2 * cipher_modulus) ≡ (2 * x0 + more) % (2 * cipher_modulus)
    → (2 * (second_modulus * y1) + less_key) % (2 * cipher_modulus) ≡ (2 * x1 + more_key) % (2 * cipher_modulus)
    → (2 * (second_modulus * w) + (less + less_key)) % (2 * cipher_modulus) ≡ (2 * p + (more + more_key)) % (2 * cipher_modulus)
near-joined w y0 y1 p x0 x1 more less more_key less_key hw hp h0 h1 = omega (arith, hw, hp, h0, h1)

-- the products with the key of numbers taken twice
twice-times : (key : List ℤ) (w : ℕ) (y : ℕ → ℕ) (i : ℕ) → key_times key (λ l. w * y l) i ≡ w * key_times key y i
unfolding key_times
twice-times key w y i = ring-times 4095 minus_one (signed minus_one (up_at key) (down_at key)) w y i

-- numbers that are near by these errors keep near in a product with the key
record KeyNear (key : List ℤ) (bound : ℕ) (x y : ℕ → ℕ) (i : ℕ) : Type 0 where
  more : ℕ
  less : ℕ
  small : more + less ≤ 4096 * bound
  near : (key_times key x i + less) % (2 * cipher_modulus) ≡ (key_times key y i + more) % (2 * cipher_modulus)

key-near : (key : List ℤ) (bound : ℕ) (x y : ℕ → ℕ) → IsKey key → ((i : ℕ) → IsNear (2 * cipher_modulus) bound (x i) (y i)) → (i : ℕ) → i ≤ 4095
    → KeyNear key bound x y i
unfolding key_times
key-near key bound x y h near i le = record {
  more = first_part 4095 (up_at key) (down_at key) less_at more_at i;
  less = first_part 4095 (up_at key) (down_at key) more_at less_at i;
  small = small;
  near =
      near-signed 4095 (2 * cipher_modulus) minus_one (up_at key) (down_at key) x y more_at less_at minus_one-twice (up-past key h.size) (down-past key h.size) none_more none_less
      (λ l lel. (errors l).near (omega arith) lel) i le;
}
  where
    errors : (l : ℕ) → ErrorAt 1 4095 (2 * cipher_modulus) bound 0 l (x l) (y l)
    errors l = errors_at 1 4095 (2 * cipher_modulus) bound (λ k j. x j) (λ k j. y j) (λ k lt j ltj. near j) 0 l

    more_at : ℕ → ℕ
    more_at l = (errors l).more

    less_at : ℕ → ℕ
    less_at l = (errors l).less

    none_more : (l : ℕ) → 4095 < l → more_at l ≡ 0
    none_more l lt = let both = (errors l).none lt in omega (arith, both)

    none_less : (l : ℕ) → 4095 < l → less_at l ≡ 0
    none_less l lt = let both = (errors l).none lt in omega (arith, both)

    small : first_part 4095 (up_at key) (down_at key) less_at more_at i + first_part 4095 (up_at key) (down_at key) more_at less_at i ≤ 4096 * bound
    small =
        let all = signed-bound 4095 bound (up_at key) (down_at key) more_at less_at (up-past key h.size) (down-past key h.size) none_more none_less
        (both-small key h) (λ l lel. (errors l).small) i le in
        omega (arith, all)

-- Twice a coefficient of the short ciphertext's phase is near twice the ciphertext's.
pub short_phase-near : (drop : ℕ) (key : List ℤ) (ct : List (List ℕ)) (k : ℕ) → IsKey key → IsCiphertext ct → k < 4096
    → IsNear (2 * cipher_modulus) (second_modulus * rounding_of drop) (2 * (second_modulus * short_phase drop key (shortened_lists drop ct) k)) (2 * phase key ct k)
unfolding rounding_of
short_phase-near drop key ct k h whole lt =
    let first = restored-near drop (number_at (list_at ct 0) (list_at ct 1) k) in
    record {
      more = first.more + second.more;
      less = first.less + second.less;
      small = fits first.more first.less second.more second.less (half_dropped drop) first.small second.small;
      near =
          near-joined (short_phase drop key (shortened_lists drop ct) k) (restored_at drop (list_at ct 0) (list_at ct 1) k) (key_times key y k)
          (phase key ct k) (number_at (list_at ct 0) (list_at ct 1) k) (key_times key x k) first.more first.less second.more second.less
          (phase-short drop key ct h.size k (omega arith)) (phase-whole key ct h.size whole k (omega arith)) first.near turned;
    }
  where
    x : ℕ → ℕ
    x = number_at (list_at ct 2) (list_at ct 3)

    y : ℕ → ℕ
    y = restored_at drop (list_at ct 2) (list_at ct 3)

    second : KeyNear key (second_modulus * (1 + 2 * half_dropped drop)) (λ l. 2 * (second_modulus * y l)) (λ l. 2 * x l) k
    second = key-near key (second_modulus * (1 + 2 * half_dropped drop)) (λ l. 2 * (second_modulus * y l)) (λ l. 2 * x l) h (λ l. restored-near drop (x l)) k (omega arith)

    turned : (2 * (second_modulus * key_times key y k) + second.less) % (2 * cipher_modulus) ≡ (2 * key_times key x k + second.more) % (2 * cipher_modulus)
    turned =
        let left : key_times key (λ l. 2 * (second_modulus * y l)) k ≡ 2 * (second_modulus * key_times key y k) =
        twice-times key 2 (λ l. second_modulus * y l) k ∙ ap (λ (u : ℕ). 2 * u) (twice-times key second_modulus y k) in
        let right : key_times key (λ l. 2 * x l) k ≡ 2 * key_times key x k = twice-times key 2 x k in
        ap (λ (u : ℕ). (u + second.less) % (2 * cipher_modulus)) (sym left)
        ∙ second.near
        ∙ ap (λ (u : ℕ). (u + second.more) % (2 * cipher_modulus)) right

    fits : (more less more_key less_key half : ℕ) → more + less ≤ second_modulus * (1 + 2 * half) → more_key + less_key ≤ 4096 * (second_modulus * (1 + 2 * half))
        → more + more_key + (less + less_key) ≤ second_modulus * (4097 * (1 + 2 * half))
    fits more less more_key less_key half one other = omega (arith, one, other)
