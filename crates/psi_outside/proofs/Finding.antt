-- The scan for a file by its name, one file further.
use Rattle.std.proofs.Common.{◌≡◌, ℕ, ◌+◌, ◌<◌, Bool, true, false, cond, List, length, get_or, drop, refl, ◌∙◌, ap, add-one, string_bytes, Some, nat_eq}
use Rattle.std.proofs.Math.Seq.{drop-cons}
use Rattle.std.specs.Ordering.{nat_cmp}
use Rattle.std.specs.Cmp.Lexicographic.{slice_cmp, pointwise, texts_ties}
use Rattle.std.specs.FinMap.{find}
use Rattle.std.specs.Prelude.{String, Vec}
use Rattle.psi_outside.specs.InMemory.{file_entries}

module _ {A B : Type 0} (files : List (String A × Vec ℕ B)) (i : ℕ) (file : String A × Vec ℕ B) (name : List ℕ) where
  pub find_step : i < length files → file ≡ get_or files i file
      → find (slice_cmp nat_cmp) name (file_entries (drop i files))
      ≡ cond (pointwise nat_eq name (string_bytes file.0)) (Some file.1.items) (find (slice_cmp nat_cmp) name (file_entries (drop (i + 1) files)))
  find_step within is =
      rw (drop-cons files i file within, ← is, texts_ties name (string_bytes file.0), add-one) refl

  -- the file has the name
  pub find_hit : i < length files → file ≡ get_or files i file → pointwise nat_eq name (string_bytes file.0) ≡ true
      → find (slice_cmp nat_cmp) name (file_entries (drop i files)) ≡ Some file.1.items
  find_hit within is same =
      find_step within is
      ∙ ap (λ (b : Bool). cond b (Some file.1.items) (find (slice_cmp nat_cmp) name (file_entries (drop (i + 1) files)))) same

  -- the file has another name
  pub find_miss : i < length files → file ≡ get_or files i file → pointwise nat_eq name (string_bytes file.0) ≡ false
      → find (slice_cmp nat_cmp) name (file_entries (drop i files)) ≡ find (slice_cmp nat_cmp) name (file_entries (drop (i + 1) files))
  find_miss within is other =
      find_step within is
      ∙ ap (λ (b : Bool). cond b (Some file.1.items) (find (slice_cmp nat_cmp) name (file_entries (drop (i + 1) files)))) other
