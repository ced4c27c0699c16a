-- What one turn does to the history of a book.
use Rattle.std.specs.Prelude.{◌≡◌, ℕ, List, [], ◌∷◌, ◌++◌, length, Result, IfOk, IfErr}
use Rattle.psi_bundle.specs.declared.history.Call.{Call}
use Rattle.psi_bundle.specs.declared.history.Answer.{Answer}
use Rattle.psi_bundle.specs.declared.history.Entry.{Entry}
use Rattle.sender_core.specs.declared.answers.Placed.{Placed}
use Rattle.sender_core.specs.declared.answers.Refusal.{Refusal}
use Rattle.sender_core.specs.Answers.{cause_at}
use Rattle.live_sender.specs.declared.origin.Origin.{Origin}
use Rattle.live_sender.specs.Histories.{IsHistory}

-- the history `met` got this entry, at this place
pub record Enters (z : Origin) (met after : List Entry) (c : Call) (a : Answer) (place : ℕ) : Type 0 where
  pub history : IsHistory z after
  pub entry : after ≡ met ++ record { call = c; answer = a } ∷ []
  pub at : place ≡ length met

-- the history stays as it was met
pub record Stays (z : Origin) (met after : List Entry) : Type 0 where
  pub history : IsHistory z after
  pub same : after ≡ met

-- the call is entered with the answer that `told` makes of what is told, or it is refused and the history stays
abbrev pub DoesCall : {T : Type 0} → (T → Answer) → Call → Origin → List Entry → List Entry → Result (Placed T) Refusal → Type 0
DoesCall told c z met after out =
    IfOk out (λ p. Enters z met after c (told p.answer) p.place) × IfErr out (λ refusal. Stays z met after × (refusal ≡ cause_at (length met)))
