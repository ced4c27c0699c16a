use Rattle.std.proofs.Common.{◌≡◌, ◌∙◌, ◌*◌, ◌+◌, ◌-◌, ℕ, take, drop, ap, subst, arith}
use Rattle.std.proofs.lemmas.Result.{IfOk-weaker}
use Rattle.psi_residue.specs.Polynomials.{IsPolynomial}
use Rattle.psi_residue.specs.Slots.{packed_list}
use Rattle.bundle_cache.specs.Caches.{transforms_of}
use Rattle.bundle_cache.specs.Columns.{row_of_column}
use Rattle.bundle_cache.proofs.rows.row_of_power.Goals as goal

pub of-requires : goal.of-requires
of-requires c =
    let size : 4096 ≡ 4096 * (c.args.k + 1) - 4096 * c.args.k = omega arith in
    subst (λ (n : ℕ). IsPolynomial 65537 (take n (drop (4096 * c.args.k) c.args.columns.now))) size c.requires.values

pub returns : goal.returns
unfolding row_of_column
returns c =
    let size : 4096 * (c.args.k + 1) - 4096 * c.args.k ≡ 4096 = omega arith in
    IfOk-weaker c.of.result _ _ (λ row e. e ∙ ap (λ (n : ℕ). transforms_of (packed_list (take n (drop (4096 * c.args.k) c.args.columns.now)))) size) c.of.ensures
