-- Found items take their slot values from members.
use Rattle.std.proofs.Common.{◌≡◌, ℕ, zero, suc, ◌/◌, ◌<◌, Bool, true, false, cond, List, [], ◌∷◌, ◌++◌, length, map, refl, sym, arith}
use Rattle.std.specs.Prelude.{nat_eq}
use Rattle.std.specs.List.{All, AllByRecursion, Contains, filter, flat_map, list_all, list_any, range_with_len}
use Rattle.std.proofs.lemmas.Bool.{and_parts}
use Rattle.std.proofs.lemmas.List.Elements.{All-from_recursion}
use Rattle.psi_residue.specs.Parameters.{Parameters}
use Rattle.item_slots.specs.Tags.{parts, slot_value}
use Rattle.psi_bundle.specs.declared.member.Member.{Member}
use Rattle.psi_bundle.specs.Bins.{roots_of}
use Rattle.psi_bundle.specs.Versions.{Row, row_at}
use Rattle.psi_receiver.specs.declared.placement.Placed.{Placed}
use Rattle.psi_receiver.specs.declared.found.Found.{Found}
use Rattle.psi_receiver.specs.Findings.{bin_in, has_roots, found_at, found_item, found}
use Rattle.psi_receiver.specs.Laws.{TakesSlots}
use Rattle.psi_receiver.proofs.Bins.{root-found}

pub contains-later : {X : Type 0} (y : X) (xs : List X) (x : X) → Contains xs x → Contains (y ∷ xs) x
contains-later y xs x (k, lt, same) = (suc k, omega (arith, lt), same)

-- what holds of all five parts holds of each
pub each_of_five : (f : ℕ → Bool) → list_all f parts ≡ true → (part : ℕ) → part < 5 → f part ≡ true
each_of_five f e zero lt = (and_parts (f 0) _ e).0
each_of_five f e (suc zero) lt = (and_parts (f 1) _ (and_parts (f 0) _ e).1).0
each_of_five f e (suc (suc zero)) lt = (and_parts (f 2) _ (and_parts (f 1) _ (and_parts (f 0) _ e).1).1).0
each_of_five f e (suc (suc (suc zero))) lt = (and_parts (f 3) _ (and_parts (f 2) _ (and_parts (f 1) _ (and_parts (f 0) _ e).1).1).1).0
each_of_five f e (suc (suc (suc (suc zero)))) lt = (and_parts (f 4) _ (and_parts (f 3) _ (and_parts (f 2) _ (and_parts (f 1) _ (and_parts (f 0) _ e).1).1).1).1).0
each_of_five f e (suc (suc (suc (suc (suc part))))) lt = absurd (omega arith)

roots_taken : (bin : List Member) (tag : List ℕ) → has_roots bin tag ≡ true → (part : ℕ) → part < 5 → (m : Member) × Contains bin m × (slot_value m.tag part ≡ slot_value tag part)
unfolding has_roots
roots_taken bin tag e part lt =
    let r = root-found (slot_value tag part) part bin (each_of_five (λ j. list_any (nat_eq (slot_value tag j)) (roots_of bin j)) e part lt) in
    (r.member, (r.number, r.within, r.stands), sym r.same)

kept_pass : (b : Bool) (P : ℕ → Type 0) (u : ℕ) (rest : List ℕ) → (b ≡ true → P u) → AllByRecursion P rest → AllByRecursion P (cond b (u ∷ rest) rest)
kept_pass true P u rest here there = (here refl, there)
kept_pass false P u rest _ there = there

all_pass : (p : ℕ → Bool) (us : List ℕ) → AllByRecursion (λ u. p u ≡ true) (filter p us)
all_pass p [] = tt
all_pass p (u ∷ us) = kept_pass (p u) (λ v. p v ≡ true) u (filter p us) (λ e. e) (all_pass p us)

all_made : (P : Found → Type 0) (Q : ℕ → Type 0) (f : ℕ → Found) (us : List ℕ) → ((u : ℕ) → Q u → P (f u)) → AllByRecursion Q us → AllByRecursion P (map f us)
all_made P Q f [] h all = tt
all_made P Q f (u ∷ us) h all = (h u all.0, all_made P Q f us h all.1)

all_joined : (P : Found → Type 0) (xs ys : List Found) → AllByRecursion P xs → AllByRecursion P ys → AllByRecursion P (xs ++ ys)
all_joined P [] ys hx hy = hy
all_joined P (x ∷ xs) ys hx hy = (hx.0, all_joined P xs ys hx.1 hy)

item_takes : (p : Parameters) (rows : List Row) (placed : List Placed) (x : Placed) → Contains placed x → AllByRecursion (TakesSlots rows placed) (found_item p rows x)
unfolding found_item
item_takes p rows placed x within =
    all_made (TakesSlots rows placed) (λ u. has_roots (bin_in rows x.position u) x.tag ≡ true) (found_at p rows x)
    (filter (λ u. has_roots (bin_in rows x.position u) x.tag) (range_with_len 0 (length (row_at rows (x.position / 819)))))
    (λ u has. (x, within, refl, roots_taken (bin_in rows x.position u) x.tag has))
    (all_pass (λ u. has_roots (bin_in rows x.position u) x.tag) (range_with_len 0 (length (row_at rows (x.position / 819)))))

items_take : (p : Parameters) (rows : List Row) (placed xs : List Placed) → ((x : Placed) → Contains xs x → Contains placed x)
    → AllByRecursion (TakesSlots rows placed) (flat_map (found_item p rows) xs)
items_take p rows placed [] within = tt
items_take p rows placed (x ∷ xs) within =
    all_joined (TakesSlots rows placed) (found_item p rows x) (flat_map (found_item p rows) xs)
    (item_takes p rows placed x (within x (zero, omega arith, refl)))
    (items_take p rows placed xs (λ y h. within y (contains-later x xs y h)))

pub found_take : (p : Parameters) (rows : List Row) (placed : List Placed) → All (TakesSlots rows placed) (found p rows placed)
unfolding found
found_take p rows placed = All-from_recursion (TakesSlots rows placed) (flat_map (found_item p rows) placed) (items_take p rows placed placed (λ x h. h))
