use Rattle.std.proofs.Common.{replicate}
use Rattle.bfv_core.specs.EncryptedLists.{zero_lists}
use Rattle.bfv_core.proofs.FourLists.{four_same, zeros-whole}
use Rattle.bfv_core.proofs.ciphertext.Ciphertext.zero.Goals as goal

pub invariant_of-result : goal.invariant_of-result
invariant_of-result c = zeros-whole _ _ _ _ (c.in_ok-vec.ensures.items_if_clones_equal (λ y e. e)) (c.in_ok-vec-2.ensures.items_if_clones_equal (λ y e. e)) (c.in_ok-vec-3.ensures.items_if_clones_equal (λ y e. e)) (c.in_ok-vec-4.ensures.items_if_clones_equal (λ y e. e))

pub returns-clause-zeros : goal.returns-clause-zeros
unfolding zero_lists
returns-clause-zeros c = four_same (replicate 4096 0) _ _ _ _ (c.in_ok-vec.ensures.items_if_clones_equal (λ y e. e)) (c.in_ok-vec-2.ensures.items_if_clones_equal (λ y e. e)) (c.in_ok-vec-3.ensures.items_if_clones_equal (λ y e. e)) (c.in_ok-vec-4.ensures.items_if_clones_equal (λ y e. e))

pub returns-clause-whole : goal.returns-clause-whole
returns-clause-whole c = zeros-whole _ _ _ _ (c.in_ok-vec.ensures.items_if_clones_equal (λ y e. e)) (c.in_ok-vec-2.ensures.items_if_clones_equal (λ y e. e)) (c.in_ok-vec-3.ensures.items_if_clones_equal (λ y e. e)) (c.in_ok-vec-4.ensures.items_if_clones_equal (λ y e. e))
