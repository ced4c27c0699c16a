-- What each step of a set has in common.
use Rattle.std.proofs.Common.{◌≡◌, ℕ, ◌+◌, Bool, true, false, leb, refl}
use Rattle.std.specs.Prelude.{is_some, if◌then◌else◌}
use Rattle.std.specs.FinMap as fin
use Rattle.psi_bundle.specs.declared.history.Call.{Call}
use Rattle.psi_bundle.specs.declared.history.Call.TheVariants as call
use Rattle.psi_bundle.specs.Versions.{Version, row_at, placed, greatest_stamp}
use Rattle.psi_bundle.specs.Steps.{Step, step, fits, replace, remove, repack}

count-chosen : (t : Bool) (a b : Step) (n : ℕ) → a.version.count ≡ n → b.version.count ≡ n → (if t then a else b).version.count ≡ n
count-chosen true a b n p q = p
count-chosen false a b n p q = q

-- it adds one to the number of entries
pub count-step : (v : Version) (c : Call) → (step v c).version.count ≡ v.count + 1
unfolding step
count-step v (call.Put tag label) =
    count-chosen (is_some (fin.get v.labels tag)) (replace v tag label) _ (v.count + 1) refl
    (count-chosen (fits v.parameters (placed v.parameters (v.count + 1) (record { tag = tag; label = label }) v.rows)) _ _ (v.count + 1) refl refl)
count-step v (call.Drop tag) = count-chosen (is_some (fin.get v.labels tag)) (remove v tag) _ (v.count + 1) refl refl
count-step v call.Ask = refl
count-step v (call.Repack q from) = count-chosen (leb (greatest_stamp (row_at v.rows q)) from) (repack v q _) _ (v.count + 1) refl refl
