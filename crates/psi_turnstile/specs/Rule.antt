-- The rule of a turnstile between any two steps.
-- The words are the tickets drawn and the tickets served, both modulo 2 ^ 64, and the length of the history. The slot holds the value while nobody is inside.
use Rattle.std.specs.Prelude.{◌≡◌, ℕ, ◌+◌, ◌%◌, ◌^◌, ◌<◌, ◌≤◌, ◌⊎◌, List, [], ◌∷◌, length, slice_index, Option, Some, None}
use mathlib.Core.Option.{none, some}
use mathlib.Core.Option as maybe
use lib.ListN.{get_elem?}
use Rattle.atomic_table.specs.Table.{State}
use Rattle.psi_turnstile.specs.declared.view.Stage.{Stage}
use Rattle.psi_turnstile.specs.declared.view.Stage.TheVariants.{Away, Waits, Ahead, Inside}
use Rattle.psi_turnstile.specs.declared.view.View.{View}
use Rattle.psi_turnstile.specs.Counting.{same, below, times, total, IsPrefix, ArePrefixes}
use Rattle.psi_turnstile.specs.Knowing.{spent}

-- how often the stage has the ticket x
abbrev pub ticket_at : ℕ → Stage → ℕ
ticket_at x Away = 0
ticket_at x (Waits t) = same x t
ticket_at x (Ahead t) = same x t
ticket_at x (Inside t) = same x t

-- 1 where the stage has a ticket
abbrev pub in_line_at : Stage → ℕ
in_line_at Away = 0
in_line_at (Waits t) = 1
in_line_at (Ahead t) = 1
in_line_at (Inside t) = 1

-- A seat has the turn only where its ticket is served. Inside, it is the one that has the value, and it has seen the whole history
abbrev pub Stands : {E : Type 0} → ℕ → Option ℕ → List E → ℕ → List E → Stage → Type 0
Stands served holder log j seen Away = Unit {0}
Stands served holder log j seen (Waits t) = Unit {0}
Stands served holder log j seen (Ahead t) = t ≡ served
Stands served holder log j seen (Inside t) = (t ≡ served) × (holder ≡ Some j) × (seen ≡ log)

module _ {E Z : Type 0} where
  abbrev pub ticket_in : ℕ → View E Z → ℕ
  ticket_in x v = ticket_at x v.stage

  abbrev pub in_line : View E Z → ℕ
  in_line v = in_line_at v.stage

  abbrev pub share_of : View E Z → ℕ
  share_of v = v.share

  abbrev pub own_in : ℕ → View E Z → ℕ
  own_in x v = times x v.own

  -- what holds of the seat j, which knows v
  pub record Knows (z : Z) (opening : ℕ) (log : List E) (served : ℕ) (holder : Option ℕ) (j : ℕ) (v : View E Z) : Type 0 where
    pub same_base : v.base ≡ Some z
    pub same_opening : v.opening ≡ opening
    pub seen : IsPrefix v.seen log
    pub taken : ArePrefixes v.taken log
    pub stands : Stands served holder log j v.seen v.stage
    pub alive : 1 ≤ v.share
    pub own : (x : ℕ) → 0 < times x v.own → x < length v.seen

module _ {B E Z : Type 0} (base : B → Z) (entries : B → List E) where
  -- the slot is out exactly with a seat that is inside; at home it has the value, which stands for the base and the history
  abbrev pub Shelf : Z → List E → List (maybe.Option (Option B)) → List (View E Z) → Option ℕ → Type 0
  Shelf z log homes views None = (b : B) × (homes ≡ some (Some b) ∷ []) × (base b ≡ z) × (entries b ≡ log)
  Shelf z log homes views (Some h) = (homes ≡ none ∷ []) × ((v : View E Z) × (t : ℕ) × (get_elem? views h ≡ some v) × (v.stage ≡ Inside t))

  pub record Counted (s : State (Option B) (View E Z)) : Type 0 where
    pub z : Z
    pub opening : ℕ
    pub log : List E
    pub served : ℕ
    pub drawn : ℕ
    pub holder : Option ℕ
    pub words : s.words ≡ (drawn % 2 ^ 64) ∷ (served % 2 ^ 64) ∷ length log ∷ []
    -- the tickets in views are the numbers from served up to drawn, each in one view
    pub tickets : (x : ℕ) → total (ticket_in x) s.views + below x served ≡ below x drawn
    pub line : total in_line s.views + served ≡ drawn
    pub shares : total share_of s.views ≤ 2 ^ 32
    pub opened : opening ≤ length log
    -- each place since the opening is an own place of one view, once
    pub owns : (x : ℕ) → total (own_in x) s.views + below x opening ≡ below x (length log)
    pub each_seat : (j : ℕ) (v : View E Z) → get_elem? s.views j ≡ some v → (v ≡ spent) ⊎ Knows z opening log served holder j v
    pub shelf : Shelf z log s.homes s.views holder
    -- some view has seen the whole history
    pub longest : (j : ℕ) × (v : View E Z) × (get_elem? s.views j ≡ some v) × (v.seen ≡ log)

  pub record Ruled (s : State (Option B) (View E Z)) : Type 0 where
    pub counted : Counted s
    -- a view with the whole share has each place since the opening, once
    pub whole : (j : ℕ) (v : View E Z) → get_elem? s.views j ≡ some v → v.share ≡ 2 ^ 32 → (x : ℕ) → times x v.own + below x v.opening ≡ below x (slice_index s.words 2)

  -- what the first seat knows, where the turnstile is opened over this value
  abbrev pub opener : B → View E Z
  opener b = record { base = Some (base b); opening = length (entries b); seen = entries b; taken = []; own = []; share = 2 ^ 32; stage = Away }
