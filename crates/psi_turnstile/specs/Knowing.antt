-- What a seat knows, and how the calls of the turnstile change it.
use Rattle.std.specs.Prelude.{◌≡◌, ℕ, ◌+◌, ◌-◌, ◌/◌, ◌^◌, ◌<◌, ◌≤◌, ◌⊎◌, List, [], ◌∷◌, ◌++◌, length, cond, ltb, Some, None}
use Rattle.atomic_table.specs.Seated.{TableId}
use Rattle.psi_turnstile.specs.declared.view.Stage.{Stage}
use Rattle.psi_turnstile.specs.declared.view.Stage.TheVariants.{Away}
use Rattle.psi_turnstile.specs.declared.view.View.{View}
use Rattle.psi_turnstile.specs.Counting.{times, below, IsPrefix, ArePrefixes}

-- A seat in clauses: its turnstile, and what it knows
pub record Holder (E Z : Type 0) : Type 0 where
  pub turnstile : TableId
  pub knows : View E Z

-- the longer of two lists, and the first where neither is longer
abbrev pub longer : {A : Type 0} → List A → List A → List A
longer xs ys = cond (ltb (length xs) (length ys)) ys xs

module _ {E Z : Type 0} where
  -- the same knowledge at another stage
  abbrev pub at : Stage → View E Z → View E Z
  at s v = record v { stage = s }

  -- the seat has seen this history, and nothing taken in is left to be seen
  abbrev pub saw : List E → View E Z → View E Z
  saw log v = record v { seen = log; taken = [] }

  -- what a seat keeps at a split: all but half of its share, rounded down
  abbrev pub keeps_rest : View E Z → View E Z
  keeps_rest v = record v { share = v.share - v.share / 2 }

  -- what the new seat of a split has: it has seen the same, has nothing taken in and no own place, and has half of the share, rounded down
  abbrev pub takes_half : View E Z → View E Z
  takes_half v = record { base = v.base; opening = v.opening; seen = v.seen; taken = []; own = []; share = v.share / 2; stage = Away }

  -- what a seat has after a join: the longer list, both lists of own places and both shares. As taken in it has what either had seen and taken in
  abbrev pub joined : View E Z → View E Z → View E Z
  joined v w = record {
    base = v.base;
    opening = v.opening;
    seen = longer v.seen w.seen;
    taken = v.seen ∷ w.seen ∷ (v.taken ++ w.taken);
    own = v.own ++ w.own;
    share = v.share + w.share;
    stage = v.stage;
  }

  -- what is left of a seat that was joined to another
  abbrev pub spent : View E Z
  spent = record { base = None; opening = 0; seen = []; taken = []; own = []; share = 0; stage = Away }

  -- the history begins with all that the seat had seen and taken in
  pub record Follows (log : List E) (v : View E Z) : Type 0 where
    pub seen : IsPrefix v.seen log
    pub taken : ArePrefixes v.taken log

  -- The own places of a seat, where the history has n entries: each once and since the opening, and with the whole share each place since the opening
  pub record Places (n : ℕ) (v : View E Z) : Type 0 where
    pub once : (x : ℕ) → times x v.own ≤ 1
    pub within : (x : ℕ) → 0 < times x v.own → (v.opening ≤ x) × (x < n)
    pub whole : v.share ≡ 2 ^ 32 → (x : ℕ) → times x v.own + below x v.opening ≡ below x n

  -- An act met the history `met` and left the seat with w: nothing was added, or one entry, whose place is the last own place
  abbrev pub Added : List E → List ℕ → View E Z → Type 0
  Added met own w = ((w.seen ≡ met) × (w.own ≡ own)) ⊎ ((e : E) × (w.seen ≡ met ++ e ∷ []) × (w.own ≡ own ++ length met ∷ []))

  -- One turn of a seat, from v to w: the act met a history that begins with all that the seat had seen and taken in. `does` says what the act did to the base, between the history met and the history left
  pub record Turned (does : Z → List E → List E → Type 0) (v w : View E Z) : Type 0 where
    pub base : Z
    pub met : List E
    pub same_base : v.base ≡ Some base
    pub follows : Follows met v
    pub done : does base met w.seen
    pub added : Added met v.own w

  -- base, opening and share stay, and nothing taken in is left
  pub record Keeps (v w : View E Z) : Type 0 where
    pub base : w.base ≡ v.base
    pub opening : w.opening ≡ v.opening
    pub share : w.share ≡ v.share
    pub taken : w.taken ≡ []
