-- A bundle without members.
use Rattle.std.proofs.Common.{◌≡◌, ℕ, List, [], get_or, replicate, arith, inl, inr}
use Rattle.std.proofs.lemmas.Bool.{cases_lt}
use Rattle.std.proofs.lemmas.List.{get_or_past, get_or-replicate, length-replicate}
use Rattle.psi_bundle.specs.declared.member.Member.{Member}
use Rattle.item_slots.specs.Tags.{bins_of_row}
use Rattle.psi_bundle.specs.Bins.{bin_at, empty_bins}

-- what stands at any index of a list of empty lists
pub nothing : {X : Type 0} (n i : ℕ) → get_or (replicate {A = List X} n []) i [] ≡ []
nothing {X} n i =
    elim (cases_lt i n) [
      | inl lt ↦ get_or-replicate {A = List X} n i [] [] lt
      | inr past ↦ get_or_past (replicate {A = List X} n []) i [] (omega (arith, length-replicate {A = List X} n [], past))
    ]

-- each of its bins is empty, also past the last
pub bin_at-empty : (b : ℕ) → bin_at empty_bins b ≡ []
unfolding empty_bins
bin_at-empty b = nothing {X = Member} bins_of_row b
