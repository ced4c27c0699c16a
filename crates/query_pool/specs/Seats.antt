-- The seats of a round: split off its first seat before any lane starts, and taken in again at its end.
use Rattle.std.specs.Prelude.{◌≡◌, ℕ, zero, suc, ◌+◌, ◌^◌, List, [], ◌++◌, length, Some}
use Rattle.std.specs.List.{All, flat_map, sum_by}
use Rattle.psi_bundle.specs.declared.history.Entry.{Entry}
use Rattle.psi_turnstile.specs.Counting.{IsPrefix}
use Rattle.live_sender.specs.declared.origin.Origin.{Origin}
use Rattle.live_sender.specs.Histories.{IsHistory}
use Rattle.live_sender.specs.Turns.{Known}

-- the share that is enough for so many splits, by halves
abbrev pub doubled : ℕ → ℕ
doubled zero = 1
doubled (suc n) = doubled n + doubled n

-- A seat that was split off: it has seen the same, has nothing taken in, and has no own place
pub record IsFresh (v s : Known) : Type 0 where
  pub base : s.base ≡ v.base
  pub seen : s.seen ≡ v.seen
  pub taken : s.taken ≡ []
  pub own : s.own ≡ []

-- Seats that were split off: the first one kept all but its share, and the shares are together what it had
pub record AreCut (v left : Known) (seats : List Known) : Type 0 where
  pub same : left ≡ record v { share = left.share }
  pub shares : left.share + sum_by (λ s. s.share) seats ≡ v.share
  pub each : All (IsFresh v) seats

-- Seats that were taken in: the seat has their shares and their own places, and what each of them had seen begins what it has seen
pub record AreMet (v u : Known) (seats : List Known) : Type 0 where
  pub base : u.base ≡ v.base
  pub opening : u.opening ≡ v.opening
  pub share : u.share ≡ v.share + sum_by (λ s. s.share) seats
  pub own : u.own ≡ v.own ++ flat_map (λ s. s.own) seats
  pub seen : IsPrefix v.seen u.seen
  pub each : All (λ s. IsPrefix s.seen u.seen) seats

-- The first seat of a round as its lanes begin: it has seen the given entries, and all of the share, and has no own place
pub record IsBegun (z : Origin) (given : List Entry) (v : Known) : Type 0 where
  pub base : v.base ≡ Some z
  pub opening : v.opening ≡ length given
  pub seen : IsPrefix given v.seen
  pub history : IsHistory z v.seen
  pub taken : v.taken ≡ []
  pub own : v.own ≡ []
  pub share : v.share ≡ 2 ^ 32
