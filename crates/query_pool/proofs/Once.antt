-- An input is not both good and bad: it has one list of whole frames, and one fault behind them or none.
use Rattle.std.specs.Prelude.{◌≡◌, ◌⊎◌, ℕ, ◌<◌, Bool, false, List, [], ◌∷◌, length, take, Option, None, Some, IfSome, IsSome}
use Rattle.std.proofs.Common.{refl, sym, ◌∙◌, subst, arith, inl, inr, append-nil}
use Rattle.psi_outside.specs.Ends.{Ends}
use Rattle.psi_frames.specs.declared.frame.Frame.{Frame}
use Rattle.psi_frames.specs.Frames.{AreWholeFrames, Fault, Kind, Length, Short, front_fault, most_bytes, request_table}
use Rattle.psi_frames.specs.Feeds.{EndsIn, Feeding, IsCut, end_fault}
use Rattle.psi_frames.proofs.OneFrames.{one_list}
use Rattle.query_pool.specs.declared.round.Served.{Served}
use Rattle.query_pool.specs.Inputs.{AreBadFrames, AreGoodFrames}
use Rattle.query_pool.specs.Serving.{HasServedBy, Rule}

pub not-both : (bytes : List ℕ) → AreGoodFrames bytes → AreBadFrames bytes → ⊥
not-both bytes good bad = by_cause (one_list request_table bytes good.frames bad.frames None bad.fault good.whole bad.whole).1 bad.bad where
  by_cause : None ≡ bad.fault → IsSome bad.fault ⊎ (most_bytes < length bytes) → ⊥
  by_cause e (inl some) = absurd (cc)
  by_cause e (inr long) = omega (arith, long, good.size)

-- so a good input is not told as a bad one, nor a bad one as done
module _ (rule : Rule) (old new : Ends) (served : Served) (has : HasServedBy rule old new served) where
  pub good-told : IfSome old.source.left (λ bytes. AreGoodFrames bytes → served.status ≡ 4 → ⊥)
  good-told = by_left old.source.left refl where
    by_left : (left : Option (List ℕ)) → old.source.left ≡ left → IfSome left (λ bytes. AreGoodFrames bytes → served.status ≡ 4 → ⊥)
    by_left None e = tt
    by_left (Some bytes) e = λ good four.
        let is = has.bad_input four in
        let same : bytes ≡ is.input = subst (λ (l : Option (List ℕ)). IfSome l (λ b. b ≡ is.input)) e is.told in
        not-both bytes good (subst AreBadFrames (sym same) (record { frames = is.frames; fault = is.fault; whole = is.whole; bad = is.bad }))

  pub bad-told : IfSome old.source.left (λ bytes. AreBadFrames bytes → served.status ≡ 0 → ⊥)
  bad-told = by_left old.source.left refl where
    by_left : (left : Option (List ℕ)) → old.source.left ≡ left → IfSome left (λ bytes. AreBadFrames bytes → served.status ≡ 0 → ⊥)
    by_left None e = tt
    by_left (Some bytes) e = λ bad zero.
        let is = has.done zero in
        let same : bytes ≡ is.input = subst (λ (l : Option (List ℕ)). IfSome l (λ b. b ≡ is.input)) e is.told in
        not-both bytes (subst AreGoodFrames (sym same) (record { frames = is.frames; whole = is.whole; size = is.size })) bad
