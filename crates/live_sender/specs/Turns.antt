-- What a call of a sender tells the seat that made it.
use Rattle.std.specs.Prelude.{◌≡◌, ℕ, ◌-◌, ◌≤◌, min, List, [], ◌∷◌, ◌++◌, length, Some}
use Rattle.psi_turnstile.specs.declared.view.View.{View}
use Rattle.psi_turnstile.specs.Counting.{IsPrefix}
use Rattle.psi_turnstile.specs.Knowing.{Follows, Keeps, Places}
use Rattle.psi_turnstile.specs.Rule.{opener}
use Rattle.psi_bundle.specs.declared.member.Member.{Member}
use Rattle.psi_bundle.specs.declared.history.Call.{Call}
use Rattle.psi_bundle.specs.declared.history.Answer.{Answer}
use Rattle.psi_bundle.specs.declared.history.Entry.{Entry}
use Rattle.sender_core.specs.declared.answers.Refusal.{Refusal}
use Rattle.sender_core.specs.declared.install.Bare.{Bare}
use Rattle.sender_core.specs.declared.install.Bare.TheVariants as bare
use Rattle.sender_core.specs.Kept.{Contents, RowSight, CacheSuits, kept_at}
use Rattle.sender_core.specs.Kept as kept
use Rattle.sender_core.specs.Answers.{cause_at}
use Rattle.sender_core.specs.Events.{IsShown}
use Rattle.sender_core.specs.Given.{IsViewOf, IsJobOf, bare_rows}
use Rattle.sender_core.specs.Installs.{IsBareOf}
use Rattle.sender_core.specs.Tries.{job_of}
use Rattle.psi_bundle.specs.Histories.{most_entries}
use Rattle.live_sender.specs.declared.origin.Origin.{Origin}
use Rattle.live_sender.specs.Histories.{origin_of, first_version, IsHistory, IsBookOf}
use Rattle.live_sender.specs.Tries.{IsStanding}

-- what a seat of a sender knows
abbrev pub Known : Type 0
Known = View Entry Origin

-- what the first seat knows, where a sender is opened over this book
abbrev pub first_seat : {C : Type 0} → Contents C → Known
first_seat h = opener origin_of (λ b. b.journal) h

-- One turn of a seat, from v to w: it has seen a history of this origin, which begins with all that it had seen and taken in
pub record Went (z : Origin) (v w : Known) : Type 0 where
  pub follows : Follows w.seen v
  pub keeps : Keeps v w
  pub places : Places (length w.seen) w
  pub history : IsHistory z w.seen

-- one turn of a seat of this sender, whose base it has
abbrev pub TakesTurn : Known → Known → Type 0
TakesTurn v w = (z : Origin) × (v.base ≡ Some z) × Went z v w

-- A seat from which nothing taken in is left to be seen, and which has seen a history of its base.
pub record IsSeated (z : Origin) (v : Known) : Type 0 where
  pub base : v.base ≡ Some z
  pub taken : v.taken ≡ []
  pub history : IsHistory z v.seen

-- The seat goes on from v to w, along a history of its base, and nothing taken in is left to be seen.
pub record GoesOn (z : Origin) (v w : Known) : Type 0 where
  pub follows : IsPrefix v.seen w.seen
  pub keeps : Keeps v w
  pub history : IsHistory z w.seen

-- The turn met the history `met` and added one entry, which is the last that the seat has seen, and whose place is its last own place
pub record Entered (v w : Known) (c : Call) (a : Answer) (place : ℕ) : Type 0 where
  pub met : List Entry
  pub begins : Follows met v
  pub seen : w.seen ≡ met ++ record { call = c; answer = a } ∷ []
  pub at : place ≡ length met
  pub own : w.own ≡ v.own ++ place ∷ []

-- the seat made no entry
abbrev pub Stayed : Known → Known → Type 0
Stayed v w = w.own ≡ v.own

-- the seat made no entry; the cause is that the history has 2^20 entries, or else want of memory
pub record Refused (v w : Known) (refusal : Refusal) : Type 0 where
  pub stayed : Stayed v w
  pub cause : refusal ≡ cause_at (length w.seen)

module _ {C : Type 0} (contents : C → List (List Member)) (is_under : C → List ℕ → Type 0) (z : Origin) (es : List Entry) where
  -- The snapshot of this place: it shows the bundles of the replay of as many entries, in as many rows as the parameters have, and each cache in it is for its bundle
  pub record ShowsAt (place : ℕ) (s : kept.View C) : Type 0 where
    pub at : s.place ≡ place
    pub shown : IsShown contents is_under (first_version z) es s
    pub rows : length s.rows ≡ z.parameters.rows

  -- The view of a row after all these entries: it shows the bundles of the replay, and each cache in it is for its bundle
  pub record ViewsRow (row : ℕ) (v : RowSight C) : Type 0 where
    pub which : v.row ≡ row
    pub from : v.from ≡ length es
    pub shown : IsViewOf (first_version z) es v
    pub caches : (u : ℕ) → CacheSuits contents is_under z.parameters (kept_at v.bundles u)

  -- All bundles, where each has a cache, after all these entries; or a bundle as it stands after them, which is so a task of this history
  abbrev pub IsGivenAt : Bare C → Type 0
  IsGivenAt (bare.All shown) = ShowsAt (length es) shown × (bare_rows 0 shown.rows ≡ [])
  IsGivenAt (bare.One task) = IsStanding (first_version z) es (job_of task) × IsJobOf (first_version z) es (job_of task)

  -- what a fetch gives of some book with this history: where some bundle has no cache, the one with the number `skip` modulo their number
  abbrev pub IsBareAt : ℕ → Bare C → Type 0
  IsBareAt skip given = (h : Contents C) × IsBookOf contents is_under z es h × IsBareOf h skip given

  -- some book with this history has room for so many entries more, or for all that a journal may have
  abbrev pub HasRoomAt : ℕ → Type 0
  HasRoomAt entries = (h : Contents C) × IsBookOf contents is_under z es h × (min entries (most_entries - length es) ≤ h.room)
