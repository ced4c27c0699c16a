-- Each step of a sound set leaves a sound set, and so each version of its history is sound.
use Rattle.std.proofs.Common.{ℕ, List, [], ◌∷◌, take, All, sym, subst}
use Rattle.std.specs.List.{AllByRecursion}
use Rattle.std.proofs.lemmas.List.Elements.{recursion_from_All, All-take}
use Rattle.psi_bundle.specs.declared.history.Entry.{Entry}
use Rattle.psi_bundle.specs.declared.history.Call.{Call}
use Rattle.psi_bundle.specs.declared.history.Call.TheVariants as call
use Rattle.psi_bundle.specs.Versions.{Version, IsSound}
use Rattle.psi_bundle.specs.Steps.{step}
use Rattle.psi_bundle.specs.Histories.{after, replay, version_at, IsFitting}
use Rattle.sender_core.specs.Soundness.{HasRoom}
use Rattle.sender_core.proofs.SoundSteps.{sound-put, sound-drop, sound-ask, step-parameters}
use Rattle.sender_core.proofs.SoundRepacked.{sound-repack}

-- each of the four calls
pub sound-step : (v : Version) (c : Call) → HasRoom v.parameters → IsSound v → IsFitting v.parameters c → IsSound (step v c).version
sound-step v (call.Put tag label) room h size = sound-put v tag label room h size
sound-step v (call.Drop tag) room h fit = sound-drop v tag h
sound-step v call.Ask room h fit = sound-ask v h
sound-step v (call.Repack row from) room h fit = sound-repack v row from room h

pub sound-replay : (v : Version) (es : List Entry) → HasRoom v.parameters → IsSound v → AllByRecursion (λ e. IsFitting v.parameters e.call) es → IsSound (replay v es)
sound-replay v [] room h fit = h
sound-replay v (e ∷ es) room h fit =
    let same = step-parameters v e.call in
    sound-replay (after v e) es (subst HasRoom (sym same) room) (sound-step v e.call room h fit.0)
    (subst (λ p. AllByRecursion (λ x. IsFitting p x.call) es) (sym same) fit.1)

pub sound-version_at : (v : Version) (es : List Entry) → HasRoom v.parameters → IsSound v → All (λ e. IsFitting v.parameters e.call) es → (k : ℕ) → IsSound (version_at v es k)
sound-version_at v es room h fit k =
    let P = λ (e : Entry). IsFitting v.parameters e.call in
    sound-replay v (take k es) room h (recursion_from_All P (take k es) (All-take P k es fit))
