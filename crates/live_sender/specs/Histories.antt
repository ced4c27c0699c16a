-- Histories of a book that is shared: what they start from, and what holds of each.
use Rattle.std.specs.Prelude.{◌≡◌, ◌≤◌, ℕ, List, length}
use Rattle.std.specs.FinMap as fin
use Rattle.std.specs.List.{All}
use Rattle.psi_bundle.specs.declared.member.Member.{Member}
use Rattle.psi_bundle.specs.declared.history.Entry.{Entry}
use Rattle.psi_bundle.specs.Versions.{Version, IsSound}
use Rattle.psi_bundle.specs.Histories.{IsLegal, replay, most_entries, IsFitting, HasBytes, HoldBytes}
use Rattle.sender_core.specs.Kept.{Contents, IsStart, IsConsistent}
use Rattle.live_sender.specs.declared.origin.Origin.{Origin}

-- the parameters and the start of a book
abbrev pub origin_of : {C : Type 0} → Contents C → Origin
origin_of h = record { parameters = h.parameters; start = h.start }

-- the version that each history of this origin starts from
abbrev pub first_version : Origin → Version
first_version z = record { parameters = z.parameters; count = 0; labels = fin.from_entries z.start.labels; rows = z.start.rows }

-- A history of this origin: it starts from a sound version without entries and stamps, has at most 2^20 entries, each with the answer of
-- its step, and leads to a sound version. Tags and labels are bytes, in the start and in each call, and a call's label has the set's length.
pub record IsHistory (z : Origin) (es : List Entry) : Type 0 where
  pub begun : IsStart (first_version z)
  pub few : length es ≤ most_entries
  pub legal : IsLegal (first_version z) es
  pub sound : IsSound (replay (first_version z) es)
  pub bytes : HoldBytes (first_version z).labels
  pub calls : All (λ e. IsFitting z.parameters e.call × HasBytes e.call) es

-- a book of this origin with this history
pub record IsBookOf {C : Type 0} (contents : C → List (List Member)) (is_under : C → List ℕ → Type 0) (z : Origin) (es : List Entry) (h : Contents C) : Type 0 where
  pub consistent : IsConsistent contents is_under h
  pub origin : origin_of h ≡ z
  pub history : h.journal ≡ es
