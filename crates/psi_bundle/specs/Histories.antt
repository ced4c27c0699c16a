-- Histories: entries in their order, whether each answer is the step's, and the version that they lead to.
use Rattle.std.specs.Prelude.{◌≡◌, ℕ, ◌<◌, ◌^◌, List, [], ◌∷◌, take, slice_index, Some, ⊤}
use Rattle.std.specs.FinMap as fin
use Rattle.std.specs.List.{fold}
use Rattle.psi_residue.specs.Parameters.{Parameters}
use Rattle.psi_bundle.specs.declared.history.Entry.{Entry}
use Rattle.psi_bundle.specs.declared.history.Call.{Call}
use Rattle.psi_bundle.specs.declared.history.Call.TheVariants as call
use Rattle.psi_bundle.specs.Versions.{Version, Labels, HasLabelLength}
use Rattle.psi_bundle.specs.Steps.{step}

-- the version after one entry
abbrev pub after : Version → Entry → Version
after v e = (step v e.call).version

-- the version after all the entries
abbrev pub replay : Version → List Entry → Version
replay v es = fold after v es

-- the most entries of a history
abbrev pub most_entries : ℕ
most_entries = 2 ^ 20

-- each answer is the step's in turn
abbrev pub IsLegal : Version → List Entry → Type 0
IsLegal v [] = ⊤
IsLegal v (e ∷ es) = (e.answer ≡ (step v e.call).answer) × IsLegal (after v e) es

-- the version that the first k entries lead to
abbrev pub version_at : Version → List Entry → ℕ → Version
version_at start es k = replay start (take k es)

-- A call that a set of these parameters takes: the label of a Put has the length of the set's labels.
abbrev pub IsFitting : Parameters → Call → Type 0
IsFitting p (call.Put tag label) = HasLabelLength p label
IsFitting p (call.Drop tag) = ⊤
IsFitting p call.Ask = ⊤
IsFitting p (call.Repack row from) = ⊤

-- each element is a byte
abbrev pub AreBytes : List ℕ → Type 0
AreBytes bytes = (i : ℕ) → slice_index bytes i < 256

-- the tag and the label of a call are bytes
abbrev pub HasBytes : Call → Type 0
HasBytes (call.Put tag label) = AreBytes tag × AreBytes label
HasBytes (call.Drop tag) = AreBytes tag
HasBytes call.Ask = ⊤
HasBytes (call.Repack row from) = ⊤

-- the tags and labels of a map are bytes
abbrev pub HoldBytes : Labels → Type 0
HoldBytes labels = (tag label : List ℕ) → fin.get labels tag ≡ Some label → AreBytes tag × AreBytes label
