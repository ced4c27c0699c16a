-- What each step on the table tells the seat that makes it.
use Rattle.std.specs.Prelude.{◌≡◌, ◌≢◌, ℕ, ◌%◌, ◌^◌, ◌≤◌, ◌⊎◌, List, [], ◌∷◌, ◌++◌, length, Option, Some}
use Rattle.atomic_table.specs.Table.{Me, Step}
use Rattle.psi_turnstile.specs.declared.view.Stage.TheVariants.{Away, Waits, Ahead, Inside}
use Rattle.psi_turnstile.specs.declared.view.View.{View}
use Rattle.psi_turnstile.specs.Knowing.{at, saw, Follows, Places, Added}

-- a seat's view, and the slots that it holds
abbrev pub Sat : Type 0 → Type 0 → Type 0 → Type 0
Sat B E Z = Me (Option B) (View E Z)

-- the history becomes log by k entries, none or one
abbrev pub Grows : {E : Type 0} → List E → ℕ → List E → Type 0
Grows {E} met k log = ((k ≡ 0) × (log ≡ met)) ⊎ ((e : E) × (k ≡ 1) × (log ≡ met ++ e ∷ []))

module _ {B E Z : Type 0} where
  -- the seat rests: it has no ticket, holds no slot and has a share
  abbrev pub IsFree : Sat B E Z → Type 0
  IsFree m = (m.0.stage ≡ Away) × (m.1 ≡ []) × (1 ≤ m.0.share)

  -- the seat waits with the ticket t, which the word shows as n
  abbrev pub IsWaiting : ℕ → Sat B E Z → Type 0
  IsWaiting n m = (t : ℕ) × (t % 2 ^ 64 ≡ n) × (m.0.stage ≡ Waits t) × (m.1 ≡ []) × (1 ≤ m.0.share)

  abbrev pub IsAhead : Sat B E Z → Type 0
  IsAhead m = (t : ℕ) × (m.0.stage ≡ Ahead t) × (m.1 ≡ []) × (1 ≤ m.0.share)

  -- the seat is inside, with the slot, in which this is
  abbrev pub IsInside : Option B → Sat B E Z → Type 0
  IsInside x m = (t : ℕ) × (m.0.stage ≡ Inside t) × (m.1 ≡ (0, x) ∷ []) × (1 ≤ m.0.share)

  -- a ticket was drawn
  abbrev pub drew : Step (Option B) → Sat B E Z → ℕ → Sat B E Z → Type 0
  drew st m n m' = (t : ℕ) × (t % 2 ^ 64 ≡ n) × (m' ≡ (at (Waits t) m.0, []))

  -- the seat has the turn where the ticket served is its own
  abbrev pub looked : Step (Option B) → Sat B E Z → ℕ → Sat B E Z → Type 0
  looked st m n m' = (t : ℕ) → m.0.stage ≡ Waits t → (n ≡ t % 2 ^ 64 → m' ≡ (at (Ahead t) m.0, m.1)) × (n ≢ t % 2 ^ 64 → m' ≡ m)

  -- the seat has seen the history
  abbrev pub looked_up : Step (Option B) → Sat B E Z → ℕ → Sat B E Z → Type 0
  looked_up st m n m' = (log : List E) × (m' ≡ (saw log m.0, m.1)) × (n ≡ length log) × Follows log m.0 × Places n m.0

  -- nothing changed
  abbrev pub checked : Step (Option B) → Sat B E Z → ℕ → Sat B E Z → Type 0
  checked st m n m' = (m' ≡ m) × (m.0.share ≤ 2 ^ 32) × Places n m.0

  -- the history is now log, with the entry that was added, if one was
  abbrev pub counted : List E → Step (Option B) → Sat B E Z → ℕ → Sat B E Z → Type 0
  counted log st m n m' = (m'.1 ≡ m.1) × (m'.0 ≡ record m.0 { seen = log; own = m'.0.own }) × Added m.0.seen m.0.own m'.0 × Places (length log) m'.0

  -- the seat has given the slot back
  abbrev pub left : Step (Option B) → Sat B E Z → ℕ → Sat B E Z → Type 0
  left st m n m' = m' ≡ (at Away m.0, [])

module _ {B E Z : Type 0} (base : B → Z) (entries : B → List E) where
  -- the seat is inside, with the slot; it has seen the history, for which the value stands
  abbrev pub went_in : Step (Option B) → Me (Option B) (View E Z) → ℕ → Me (Option B) (View E Z) → Type 0
  went_in st m n m' = (t : ℕ) → m.0.stage ≡ Ahead t
      → (b : B) × (m' ≡ (at (Inside t) (saw (entries b) m.0), (0, Some b) ∷ [])) × (m.0.base ≡ Some (base b)) × Follows (entries b) m.0
