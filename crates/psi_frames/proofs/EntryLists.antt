-- Fronts of histories.
use Rattle.std.specs.Prelude.{◌≡◌, ℕ, ◌<◌, List, [], ◌∷◌, ◌++◌, length, Some, slice_get}
use Rattle.std.proofs.Common.{sym, ap, ◌∙◌, arith, length-append}
use Rattle.std.proofs.Math.ListN.{get_or-append}
use Rattle.std.proofs.lemmas.Option.{slice_get-get_or}
use Rattle.psi_bundle.specs.declared.history.Entry.{Entry}

-- what a front of a history tells, the history tells
pub front-get : (middle rest : List Entry) (x : ℕ) → x < length middle → slice_get (middle ++ rest) x ≡ slice_get middle x
front-get [] rest x lt = absurd (omega (arith, lt))
front-get (e ∷ es) rest x lt =
    slice_get-get_or ((e ∷ es) ++ rest) x e (omega (arith, lt, length-append (e ∷ es) rest)) ∙ ap Some (get_or-append (e ∷ es) rest e x lt) ∙ sym (slice_get-get_or (e ∷ es) x e lt)
