-- The reply to each request, by the turns that it took.
use Rattle.std.specs.Prelude.{◌≡◌, ℕ, false, List, Some, None, IsSome, Result, Ok, Err, IfOk}
use Rattle.std.proofs.Common.{sym, ◌∙◌, subst}
use Rattle.std.proofs.lemmas.Bool.{false≢true}
use Rattle.std.proofs.lemmas.Option.{none-some}
use Rattle.psi_bundle.specs.declared.history.Call.{Call}
use Rattle.psi_bundle.specs.declared.history.Call.TheVariants as call
use Rattle.psi_frames.specs.declared.reply.Reply.{Reply}
use Rattle.psi_frames.specs.declared.request.Request.{Request}
use Rattle.psi_frames.specs.Requests.{call_of, code_of, is_repack, asked_ciphertexts}
use Rattle.psi_frames.specs.Served.{body_of, from_of, from_or_zero, place_of}
use Rattle.live_sender.specs.declared.origin.Origin.{Origin}
use Rattle.live_sender.specs.Turns.{Known, IsSeated}
use Rattle.query_pool.specs.Exchanges.{HasGoneOn, IsBodyAt, IsOne, IsToldFrom, Tells, lane_exchange}
use Rattle.query_pool.proofs.OneByOne.{one}
use Rattle.query_pool.proofs.Telling.{gone-from}

module _ {E : Type 0} (z : Origin) (v w : Known) (r : Request) (result : Result Reply E) (seated : IsSeated z v) (went : HasGoneOn v w) where
  -- a Put or a Drop
  pub changed-one : (c : Call) → code_of r ≡ None → ((x : ℕ) → call_of r x ≡ Some c) → is_repack r ≡ false → IfOk result (Tells v w c) → IfOk result (λ told. from_of told ≡ None)
      → IfOk result (λ told. body_of told ≡ None) → IfOk result (λ told. IsOne z v w (lane_exchange r told))
  changed-one c uncoded calls other tells from body = by result tells from body where
    by : (s : Result Reply E) → IfOk s (Tells v w c) → IfOk s (λ told. from_of told ≡ None) → IfOk s (λ told. body_of told ≡ None) → IfOk s (λ told. IsOne z v w (lane_exchange r told))
    by (Ok told) tells no_from no_body =
        one z v w r c told (gone-from z v w seated.base went) uncoded (calls (from_or_zero told)) (λ is. absurd (false≢true (sym other ∙ is)))
        (λ from x has at. absurd (none-some from (sym no_from ∙ has))) (λ x body at has. absurd (none-some body (sym no_body ∙ has))) tells
    by (Err e) tells no_from no_body = tt

  pub asked-one : (query : List (List (List ℕ))) → code_of r ≡ None → ((x : ℕ) → call_of r x ≡ Some call.Ask) → is_repack r ≡ false → query ≡ asked_ciphertexts r → IfOk result (Tells v w call.Ask)
      → IfOk result (λ told. from_of told ≡ None) → IfOk result (IsBodyAt z w.seen query) → IfOk result (λ told. IsOne z v w (lane_exchange r told))
  asked-one query uncoded calls other same tells from body = by result tells from body where
    by : (s : Result Reply E) → IfOk s (Tells v w call.Ask) → IfOk s (λ told. from_of told ≡ None) → IfOk s (IsBodyAt z w.seen query) → IfOk s (λ told. IsOne z v w (lane_exchange r told))
    by (Ok told) tells no_from body =
        one z v w r call.Ask told (gone-from z v w seated.base went) uncoded (calls (from_or_zero told)) (λ is. absurd (false≢true (sym other ∙ is)))
        (λ from x has at. absurd (none-some from (sym no_from ∙ has))) (subst (λ (q : List (List (List ℕ))). IsBodyAt z w.seen q told) same body) tells
    by (Err e) tells no_from body = tt

  pub repacked-one : (row : ℕ) → code_of r ≡ None → ((x : ℕ) → call_of r x ≡ Some (call.Repack row x)) → IfOk result (λ told. Tells v w (call.Repack row (from_or_zero told)) told)
      → IfOk result (IsToldFrom v) → IfOk result (λ told. IsSome (place_of told) → IsSome (from_of told)) → IfOk result (λ told. body_of told ≡ None)
      → IfOk result (λ told. IsOne z v w (lane_exchange r told))
  repacked-one row uncoded calls tells from tells_from body = by result tells from tells_from body where
    by : (s : Result Reply E) → IfOk s (λ told. Tells v w (call.Repack row (from_or_zero told)) told) → IfOk s (IsToldFrom v) → IfOk s (λ told. IsSome (place_of told) → IsSome (from_of told))
        → IfOk s (λ told. body_of told ≡ None) → IfOk s (λ told. IsOne z v w (lane_exchange r told))
    by (Ok told) tells from tells_from no_body =
        one z v w r (call.Repack row (from_or_zero told)) told (gone-from z v w seated.base went) uncoded (calls (from_or_zero told)) (λ _. tells_from)
        from (λ x body at has. absurd (none-some body (sym no_body ∙ has))) tells
    by (Err e) tells from tells_from no_body = tt
