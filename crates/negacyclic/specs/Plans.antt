-- What the transforms know of a modulus.
use Rattle.std.specs.Prelude.{◌≡◌, ℕ, ◌%◌, ◌^◌, ◌<◌}
use Rattle.negacyclic.specs.declared.plans.Plan.{Plan}
use Rattle.negacyclic.specs.Butterflies.{IsFactor, AreFactors, IsTable, numbers_of}

-- the plan of the modulus q with the given root of minus one and the given inverse of 4096
pub record IsPlan (q root degree_inverse : ℕ) (plan : Plan) : Type 0 where
  pub modulus : plan.modulus ≡ q
  pub small : q < 2 ^ 37
  pub fold : plan.fold ≡ 2 ^ 36 % q
  pub narrow : plan.fold < 2 ^ 18
  pub one : IsFactor q plan.one.number plan.one.quotient × (plan.one.number ≡ 1)
  pub scaled : IsFactor q plan.degree_inverse.number plan.degree_inverse.quotient × (plan.degree_inverse.number ≡ degree_inverse)
  pub factors : AreFactors q plan.factors.now
  pub powers : IsTable q root (numbers_of plan.factors.now)
