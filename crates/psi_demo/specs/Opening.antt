-- One answer opened.
use Rattle.std.specs.Prelude.{◌≡◌, ℕ, List, [], ◌∷◌, ◌++◌, length, Option, None, Some, ⊤}
use Rattle.query_codec.specs.Replies.{reply_fault}
use Rattle.psi_receiver.specs.Faults.{HavePlacement}
use Rattle.psi_demo.specs.declared.fault.SumFault.{SumFault}
use Rattle.psi_demo.specs.declared.fault.SumFault.TheVariants as sum
use Rattle.psi_demo.specs.Items.{asked_tags, demo_parameters}
use Rattle.psi_demo.specs.Summaries.{IsStable, first_fault}

-- why a body is not opened for tags
abbrev pub IsBodyFault : (tags : List (List ℕ)) → (body : List ℕ) → SumFault → Type 0
IsBodyFault tags body (sum.Torn offset) = ⊥
IsBodyFault tags body (sum.Codec fault) = HavePlacement demo_parameters.rows tags × (reply_fault demo_parameters body ≡ Some fault)
IsBodyFault tags body sum.NoMemory = ⊤

-- why one of some bodies is not opened: the fault is that of the first one that has any
abbrev pub IsBodiesFault : (number : ℕ) → (bodies : List (List ℕ)) → SumFault → Type 0
IsBodiesFault number bodies (sum.Torn offset) = ⊥
IsBodiesFault number bodies (sum.Codec fault) = HavePlacement demo_parameters.rows (asked_tags number) × (first_fault bodies ≡ Some fault)
IsBodiesFault number bodies sum.NoMemory = ⊤

-- what one reply more leaves of the numbers of the line `stable`: one more for an answer, by its body
abbrev pub OpensNext : (number : ℕ) → (body : Option (List ℕ)) → (old new : List ℕ) → Type 0
OpensNext number None old new = new ≡ old
OpensNext number (Some body) old new = (n : ℕ) × IsStable number (length old) (asked_tags number) body n × (new ≡ old ++ n ∷ [])

-- why it does not
abbrev pub IsNextFault : (number : ℕ) → (body : Option (List ℕ)) → SumFault → Type 0
IsNextFault number None fault = ⊥
IsNextFault number (Some body) fault = IsBodyFault (asked_tags number) body fault
