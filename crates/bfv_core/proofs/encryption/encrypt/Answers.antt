use Rattle.std.proofs.Common.{arith, ◌∙◌, pos, get_or, sym, subst}
use Rattle.psi_residue.specs.Numbers.{first_modulus, second_modulus}
use Rattle.psi_residue.specs.Polynomials.{IsPolynomial}
use Rattle.psi_sampler.specs.Sampling.{error_coefficient}
use Rattle.bfv_core.specs.EncryptedLists.{key_of_seed, first_mask, second_mask}
use Rattle.bfv_core.proofs.Encrypted.{whole-written, written-polynomial, first_mask_from, second_mask_from, hidden-same, encrypted_from, error-small, carries_from}
use Rattle.bfv_core.proofs.encryption.encrypt.Goals as goal

pub hide-requires-clause-masked : goal.hide-requires-clause-masked
hide-requires-clause-masked c =
    subst (IsPolynomial first_modulus) (sym c.deref.ensures.value)
    (written-polynomial first_modulus c.mask.new.out1 c.in_ok-c1_first.c1_first.items c.in_ok-c1_first.c1_first.len (omega (arith, c.mask.auto.out1, c.deref_mut.ensures.len, c.in_ok-c1_first.c1_first.ok.0)) c.in_ok-c1_first.ensures.len c.mask.ensures.first_below)

pub hide-requires-2-clause-masked : goal.hide-requires-2-clause-masked
hide-requires-2-clause-masked c =
    subst (IsPolynomial second_modulus) (sym c.deref-2.ensures.value)
    (written-polynomial second_modulus c.mask.new.out2 c.in_ok-c1_second.c1_second.items c.in_ok-c1_second.c1_second.len (omega (arith, c.mask.auto.out2, c.deref_mut-2.ensures.len, c.in_ok-c1_second.c1_second.ok.0)) c.in_ok-c1_second.ensures.len c.mask.ensures.second_below)

pub of-requires-clause-c1_first : goal.of-requires-clause-c1_first
of-requires-clause-c1_first c =
    written-polynomial first_modulus c.mask.new.out1 c.in_ok-c1_first.c1_first.items c.in_ok-c1_first.c1_first.len (omega (arith, c.mask.auto.out1, c.deref_mut.ensures.len, c.in_ok-c1_first.c1_first.ok.0)) c.in_ok-c1_first.ensures.len c.mask.ensures.first_below

pub of-requires-clause-c1_second : goal.of-requires-clause-c1_second
of-requires-clause-c1_second c =
    written-polynomial second_modulus c.mask.new.out2 c.in_ok-c1_second.c1_second.items c.in_ok-c1_second.c1_second.len (omega (arith, c.mask.auto.out2, c.deref_mut-2.ensures.len, c.in_ok-c1_second.c1_second.ok.0)) c.in_ok-c1_second.ensures.len c.mask.ensures.second_below

pub returns-clause-exact : goal.returns-clause-exact
returns-clause-exact c =
    let seed = c.args.seed.now in
    let n = c.args.c in
    let whole1 = whole-written c.mask.new.out1 c.in_ok-c1_first.c1_first.items c.in_ok-c1_first.c1_first.len (omega (arith, c.mask.auto.out1, c.deref_mut.ensures.len, c.in_ok-c1_first.c1_first.ok.0)) in
    let whole2 = whole-written c.mask.new.out2 c.in_ok-c1_second.c1_second.items c.in_ok-c1_second.c1_second.len (omega (arith, c.mask.auto.out2, c.deref_mut-2.ensures.len, c.in_ok-c1_second.c1_second.ok.0)) in
    let hidden1 = whole-written c.hide.new.out c.in_ok-c0_first.c0_first.items c.in_ok-c0_first.c0_first.len (omega (arith, c.hide.auto.out, c.deref_mut-3.ensures.len, c.in_ok-c0_first.c0_first.ok.0)) in
    let hidden2 = whole-written c.hide-2.new.out c.in_ok-c0_second.c0_second.items c.in_ok-c0_second.c0_second.len (omega (arith, c.hide-2.auto.out, c.deref_mut-4.ensures.len, c.in_ok-c0_second.c0_second.ok.0)) in
    let first = first_mask_from seed n c.mask.new.out1 (omega (arith, c.mask.auto.out1, c.deref_mut.ensures.len, c.in_ok-c1_first.ensures.len)) c.mask.ensures.first in
    let second = second_mask_from seed n c.mask.new.out2 (omega (arith, c.mask.auto.out2, c.deref_mut-2.ensures.len, c.in_ok-c1_second.ensures.len)) c.mask.ensures.second in
    let h1 =
    c.hide.ensures.hidden
    ∙ hidden-same first_modulus c.deref.result.now (first_mask seed n) c.args.key.now (key_of_seed seed) (λ k. get_or c.error.new.out k (pos 0)) (error_coefficient seed n) c.args.m.now (c.deref.ensures.value ∙ whole1 ∙ first) c.requires.key_of_this_seed c.error.ensures.value in
    let h2 =
    c.hide-2.ensures.hidden
    ∙ hidden-same second_modulus c.deref-2.result.now (second_mask seed n) c.args.key.now (key_of_seed seed) (λ k. get_or c.error.new.out k (pos 0)) (error_coefficient seed n) c.args.m.now (c.deref-2.ensures.value ∙ whole2 ∙ second) c.requires.key_of_this_seed c.error.ensures.value in
    c.of.ensures.lists ∙ encrypted_from seed n c.args.m.now _ _ _ _ (hidden1 ∙ h1) (hidden2 ∙ h2) (whole1 ∙ first) (whole2 ∙ second)

pub returns-clause-carries : goal.returns-clause-carries
returns-clause-carries c = carries_from c.args.seed.now c.args.c c.args.m.now c.args.key.now c.of.result c.requires.key_of_this_seed (returns-clause-exact c)
    (error-small c.args.seed.now c.args.c c.error.new.out (omega arith) c.error.ensures.value c.error.ensures.small)
