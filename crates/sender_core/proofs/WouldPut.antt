-- What a Put would answer, by the number of bundles that first fit would leave.
use Rattle.std.specs.Prelude.{◌≡◌, ℕ, ◌+◌, ◌*◌, ◌≤◌, ◌<◌, Bool, true, false, is_some, nat_le, ◌&&◌, List, length, map}
use Rattle.std.specs.List.{fold, sum}
use Rattle.std.specs.FinMap as fin
use Rattle.std.proofs.Common.{refl, sym, ap, ◌∙◌}
use Rattle.std.proofs.lemmas.Bool.{le-leb, lt-leb}
use Rattle.psi_bundle.specs.declared.member.Member.{Member}
use Rattle.psi_bundle.specs.declared.history.Call.TheVariants as call
use Rattle.psi_bundle.specs.declared.history.Answer.TheVariants as answer
use Rattle.item_slots.specs.Tags.{positions_of}
use Rattle.psi_bundle.specs.Versions.{Row, placed_at, planes_of, cells_of}
use Rattle.psi_bundle.specs.Steps.{Step, step, fits}
use Rattle.sender_core.specs.Kept.{Contents, version_of, rows_of, bundles_of}
use Rattle.sender_core.proofs.Entering.{fitted, step-replaced, step-added, step-full}

module _ {C : Type 0} (h : Contents C) (tag label : List ℕ) where
  told : {s : Step} → step (version_of h) (call.Put tag label) ≡ s → s.answer ≡ (step (version_of h) (call.Put tag label)).answer
  told e = ap (λ (t : Step). t.answer) (sym e)

  pub would-replace : is_some (fin.get (version_of h).labels tag) ≡ true → answer.Replaced ≡ (step (version_of h) (call.Put tag label)).answer
  would-replace has = told (step-replaced (version_of h) tag label has)

  module _ (lacks : is_some (fin.get (version_of h).labels tag) ≡ false) (ps : List ℕ) (is_ps : ps ≡ positions_of h.parameters.rows tag) (bundles more units capacity : ℕ)
      (grown : (stamp : ℕ) (label : List ℕ) → sum (map (λ row. length row) (fold (placed_at h.parameters.capacity stamp (record { tag = tag; label = label })) (rows_of h.rows) ps)) ≡ bundles_of h.rows + more)
      (is_bundles : bundles ≡ bundles_of h.rows) (is_units : units ≡ h.parameters.units) (is_capacity : capacity ≡ h.parameters.capacity) where
    after : List Row
    after = fitted (version_of h) tag label

    planes_are : (bundles + more) * (1 + units) ≡ planes_of h.parameters after
    unfolding after
    planes_are =
        let m : Member = record { tag = tag; label = label } in
        let same : bundles + more ≡ sum (map (λ row. length row) (fitted (version_of h) tag label)) =
        ap (λ (n : ℕ). n + more) is_bundles ∙ sym (grown (length h.journal + 1) label)
        ∙ ap (λ (qs : List ℕ). sum (map (λ row. length row) (fold (placed_at h.parameters.capacity (length h.journal + 1) m) (rows_of h.rows) qs))) is_ps in
        λ i. same i * (1 + is_units i)

    cells_are : (bundles + more) * (1 + units) * (capacity + 1) ≡ cells_of h.parameters after
    cells_are = λ i. planes_are i * (is_capacity i + 1)

    fits_are : (a b : Bool) → nat_le ((bundles + more) * (1 + units)) 64 ≡ a → nat_le ((bundles + more) * (1 + units) * (capacity + 1)) 4096 ≡ b → fits h.parameters after ≡ a && b
    fits_are a b p q = λ i. (ap (λ (k : ℕ). nat_le k 64) (sym planes_are) ∙ p) i && (ap (λ (k : ℕ). nat_le k 4096) (sym cells_are) ∙ q) i

    pub would-add : (bundles + more) * (1 + units) ≤ 64 → (bundles + more) * (1 + units) * (capacity + 1) ≤ 4096 → answer.Added ≡ (step (version_of h) (call.Put tag label)).answer
    unfolding after
    would-add p q = told (step-added (version_of h) tag label lacks (fits_are true true (le-leb _ 64 p) (le-leb _ 4096 q)))

    full_of : fits h.parameters after ≡ false → answer.Full ((bundles + more) * (1 + units)) ((bundles + more) * (1 + units) * (capacity + 1)) ≡ (step (version_of h) (call.Put tag label)).answer
    unfolding after
    full_of over = (λ i. answer.Full (planes_are i) (cells_are i)) ∙ told (step-full (version_of h) tag label lacks over)

    both_false : (b : Bool) → b && false ≡ false
    both_false true = refl
    both_false false = refl

    pub would-fill-planes : 64 < (bundles + more) * (1 + units) → answer.Full ((bundles + more) * (1 + units)) ((bundles + more) * (1 + units) * (capacity + 1)) ≡ (step (version_of h) (call.Put tag label)).answer
    would-fill-planes p = full_of (fits_are false (nat_le _ 4096) (lt-leb _ 64 p) refl)

    pub would-fill-cells : 4096 < (bundles + more) * (1 + units) * (capacity + 1) → answer.Full ((bundles + more) * (1 + units)) ((bundles + more) * (1 + units) * (capacity + 1)) ≡ (step (version_of h) (call.Put tag label)).answer
    would-fill-cells q = full_of (fits_are (nat_le ((bundles + more) * (1 + units)) 64) false refl (lt-leb _ 4096 q) ∙ both_false (nat_le ((bundles + more) * (1 + units)) 64))
