-- Faults by a plan: which calls of an object in memory fail.
use Rattle.std.specs.Prelude.{ℕ, Bool, List, ◌==◌, if◌then◌else◌}
use Rattle.std.specs.List.{list_any}
use Rattle.psi_outside.specs.Causes.{count_on}

-- The numbers of the calls that fail, how many calls there were, and how many of these failed. A call's number is the
-- number of calls before it. Both counts stand still at the last number of 64 bits.
pub record Plan : Type 0 where
  pub fails : List ℕ
  pub calls : ℕ
  pub faults : ℕ

-- a plan as it begins
abbrev pub new_plan : List ℕ → Plan
new_plan fails = record { fails = fails; calls = 0; faults = 0 }

-- the next call is one of those that fail
abbrev pub is_listed : Plan → Bool
is_listed plan = list_any (λ number. number == plan.calls) plan.fails

-- the plan after a call: one call more, and one fault more if it failed
abbrev pub after_call : Plan → Bool → Plan
after_call plan failed =
    record { fails = plan.fails; calls = count_on plan.calls; faults = if failed then count_on plan.faults else plan.faults }
