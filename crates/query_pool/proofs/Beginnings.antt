-- Beginnings of histories, and what stays as a history grows.
use Rattle.std.specs.Prelude.{◌≡◌, ℕ, zero, suc, ◌<◌, ◌≤◌, List, [], ◌∷◌, ◌++◌, length, Some, slice_get}
use Rattle.std.proofs.Common.{refl, sym, ap, ◌∙◌, arith}
use Rattle.psi_residue.specs.Parameters.{Parameters}
use Rattle.psi_turnstile.specs.Counting.{IsPrefix}
use Rattle.psi_bundle.specs.declared.history.Entry.{Entry}
use Rattle.psi_bundle.specs.Histories.{version_at}
use Rattle.psi_bundle.specs.Versions.{Version}
use Rattle.query_codec.specs.Replies.{reply_body}
use Rattle.psi_frames.specs.Requests.{asked_ciphertexts}
use Rattle.psi_frames.specs.Served.{Exchange, IsEvaluated, IsRecorded, place_of}
use Rattle.psi_frames.proofs.EntryLists.{front-get}
use Rattle.sender_core.proofs.StampHistories.{version-more}

module _ (old new : List Entry) (longer : IsPrefix old new) (e : Exchange) (within : (x : ℕ) → place_of e.reply ≡ Some x → x < length old) where
  pub recorded-goes : IsRecorded old e → IsRecorded new e
  recorded-goes h = λ p a at tells.
      ap (λ (es : List Entry). slice_get es p) longer.1 ∙ front-get old longer.0 p (within p at) ∙ h p a at tells

  pub evaluated-goes : (p : Parameters) (start : Version) → IsEvaluated p start old e → IsEvaluated p start new e
  evaluated-goes p start h = λ x body at told.
      let lt = within x at in
      let same = version-more start old longer.0 x (omega (arith, lt)) in
      h x body at told
      ∙ ap (λ (v : Version). reply_body p v.rows (asked_ciphertexts e.request)) (sym same)
      ∙ ap (λ (es : List Entry). reply_body p (version_at start es x).rows (asked_ciphertexts e.request)) (sym longer.1)
