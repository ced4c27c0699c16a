-- Tags and labels are bytes in every version of a history whose calls have such ones.
use Rattle.std.proofs.Common.{◌≡◌, ℕ, Bool, true, false, cond, List, [], ◌∷◌, take, Option, Some, None, refl, subst, ◌∙◌, sym}
use Rattle.std.specs.Prelude.{if◌then◌else◌, is_some}
use Rattle.std.specs.Cmp.Lexicographic.{slice_cmp}
use Rattle.std.specs.FinMap as fin
use Rattle.std.specs.FinMap.{get-empty, get-insert, get-remove}
use Rattle.std.specs.List.{All, AllByRecursion}
use Rattle.std.specs.Ordering.{nat_cmp, eq_by_cmp}
use Rattle.std.proofs.lemmas.Cmp.{nat_list_cmp_total}
use Rattle.std.proofs.lemmas.List.Elements.{All-take, recursion_from_All}
use Rattle.std.proofs.lemmas.Map.Text.{is_eq-slice_cmp}
use Rattle.std.proofs.lemmas.Option.{none-some, same_Some}
use Rattle.std.proofs.lemmas.Slice.Eq.{bytes_eq-Decides}
use Rattle.psi_residue.specs.Parameters.{Parameters}
use Rattle.psi_bundle.specs.declared.history.Call.{Call}
use Rattle.psi_bundle.specs.declared.history.Call.TheVariants as call
use Rattle.psi_bundle.specs.declared.history.Entry.{Entry}
use Rattle.psi_bundle.specs.Histories.{after, replay, version_at, AreBytes, HasBytes, HoldBytes}
use Rattle.psi_bundle.specs.Steps.{Step, step, replace, remove}
use Rattle.psi_bundle.specs.Versions.{Labels, Version, empty_version}

-- ---- labels by tag

same_key : (q tag : List ℕ) → eq_by_cmp (slice_cmp nat_cmp) q tag ≡ true → q ≡ tag
same_key q tag e = (bytes_eq-Decides q tag).0 (sym (is_eq-slice_cmp q tag) ∙ e)

-- what a map has at a key after a change at one key
chosen-bytes : (b : Bool) (x y : Option (List ℕ)) (q l : List ℕ) → (b ≡ true → x ≡ Some l → AreBytes q × AreBytes l) → (y ≡ Some l → AreBytes q × AreBytes l)
    → cond b x y ≡ Some l → AreBytes q × AreBytes l
chosen-bytes true x y q l here other e = here refl e
chosen-bytes false x y q l here other e = other e

insert-bytes : (labels : Labels) (tag label : List ℕ) → HoldBytes labels → AreBytes tag × AreBytes label → HoldBytes (fin.insert labels tag label)
insert-bytes labels tag label all bytes q l e =
    chosen-bytes (eq_by_cmp (slice_cmp nat_cmp) q tag) (Some label) (fin.get labels q) q l
    (λ same is. (subst (λ (t : List ℕ). AreBytes t) (sym (same_key q tag same)) bytes.0, subst (λ (t : List ℕ). AreBytes t) (same_Some label l is) bytes.1))
    (all q l)
    (sym (get-insert nat_list_cmp_total labels tag label q) ∙ e)

remove-bytes : (labels : Labels) (tag : List ℕ) → HoldBytes labels → HoldBytes (fin.remove labels tag)
remove-bytes labels tag all q l e =
    chosen-bytes (eq_by_cmp (slice_cmp nat_cmp) q tag) None (fin.get labels q) q l
    (λ same is. absurd (none-some l is))
    (all q l)
    (sym (get-remove nat_list_cmp_total labels tag q) ∙ e)

-- ---- histories

either_step : (b : Bool) (x y : Step) → HoldBytes x.version.labels → HoldBytes y.version.labels → HoldBytes (if b then x else y).version.labels
either_step true x y hx hy = hx
either_step false x y hx hy = hy

pub step-bytes : (v : Version) (c : Call) → HoldBytes v.labels → HasBytes c → HoldBytes (step v c).version.labels
unfolding step
step-bytes v (call.Put tag label) all bytes =
    either_step (is_some (fin.get v.labels tag)) (replace v tag label) _ (insert-bytes v.labels tag label all bytes)
    (either_step _ _ _ (insert-bytes v.labels tag label all bytes) all)
step-bytes v (call.Drop tag) all bytes = either_step (is_some (fin.get v.labels tag)) (remove v tag) _ (remove-bytes v.labels tag all) all
step-bytes v call.Ask all bytes = all
step-bytes v (call.Repack row from) all bytes = either_step _ _ _ all all

replay-bytes : (v : Version) (es : List Entry) → HoldBytes v.labels → AllByRecursion (λ e. HasBytes e.call) es → HoldBytes (replay v es).labels
replay-bytes v [] all bytes = all
replay-bytes v (e ∷ es) all bytes = replay-bytes (after v e) es (step-bytes v e.call all bytes.0) bytes.1

-- a map without tags
pub empty-bytes : (p : Parameters) → HoldBytes (empty_version p).labels
empty-bytes p tag label e = absurd (none-some label (sym (get-empty (slice_cmp nat_cmp) tag) ∙ e))

-- each version of a history
pub versions-bytes : (v : Version) (es : List Entry) → HoldBytes v.labels → All (λ e. HasBytes e.call) es → (k : ℕ) → HoldBytes (version_at v es k).labels
versions-bytes v es all bytes k = replay-bytes v (take k es) all (recursion_from_All (λ e. HasBytes e.call) (take k es) (All-take (λ e. HasBytes e.call) k es bytes))
