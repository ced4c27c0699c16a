-- Why there is no script, and why there is no summary.
use Rattle.std.specs.Prelude.{◌≡◌, ℕ, List, Some, ⊤}
use Rattle.query_codec.specs.declared.fault.CodecFault.{CodecFault}
use Rattle.psi_receiver.specs.Faults.{AreTooMany, HavePlacement}
use Rattle.psi_demo.specs.declared.fault.DemoFault.{DemoFault}
use Rattle.psi_demo.specs.declared.fault.DemoFault.TheVariants as demo
use Rattle.psi_demo.specs.declared.fault.SumFault.{SumFault}
use Rattle.psi_demo.specs.declared.fault.SumFault.TheVariants as sum
use Rattle.psi_demo.specs.Items.{asked_tags, demo_parameters}
use Rattle.psi_demo.specs.Replies.{IsTorn}
use Rattle.psi_demo.specs.Summaries.{ForTally, Tally, first_fault}

-- why there is no query of tags: they have no placement, since the positions of these items together are fewer than they
abbrev pub IsDemoFault : (tags : List (List ℕ)) → DemoFault → Type 0
IsDemoFault tags (demo.Crowded items) = AreTooMany demo_parameters.rows tags items.items
IsDemoFault tags demo.NoMemory = ⊤

-- the asked items have a placement, and this is the fault of the first opened body that has one
pub record IsRefused (number : ℕ) (fault : CodecFault) (tally : Tally) : Type 0 where
  pub placed : HavePlacement demo_parameters.rows (asked_tags number)
  pub first : first_fault tally.bodies ≡ Some fault

-- why there is no summary
abbrev pub IsSumFault : (number : ℕ) → (bytes : List ℕ) → SumFault → Type 0
IsSumFault number bytes (sum.Torn offset) = IsTorn bytes offset
IsSumFault number bytes (sum.Codec fault) = ForTally bytes (IsRefused number fault)
IsSumFault number bytes sum.NoMemory = ⊤
