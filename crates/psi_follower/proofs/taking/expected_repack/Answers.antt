use Rattle.std.proofs.Common.{◌≡◌, ◌≤◌, ◌∙◌, ap, sym, subst, length, refl, arith, ℕ}
use Rattle.std.proofs.lemmas.List.{length-map}
use Rattle.sender_core.specs.Shown.{kept_of}
use Rattle.sender_core.proofs.Repacking.{would-move, would-pack}
use Rattle.psi_follower.proofs.Telling.{few-shown, few-packed}
use Rattle.psi_follower.proofs.taking.expected_repack.Goals as goal

pub returns-then-stamp-from : goal.returns-then-stamp-from
returns-then-stamp-from c = would-move c.args.book.now c.args.row c.args.from c.newest-stamp.result c.newest-stamp.ensures c.if-stamp-from.true

pub overflow_cast-result : goal.overflow_cast-result
overflow_cast-result c = omega (arith, few-shown c.args.book.now c.requires.consistent c.args.row c.bundles.result.now c.bundles.ensures)

pub overflow_cast-result-2 : goal.overflow_cast-result-2
overflow_cast-result-2 c =
    let packed = c.requires.packed (subst (λ (k : ℕ). k ≤ c.args.from) c.newest-stamp.ensures c.if-stamp-from.false) in
    omega (arith, few-packed c.args.book.now c.requires.consistent c.args.row c.args.packed.now packed)

pub returns : goal.returns
returns c =
    let packed = c.requires.packed (subst (λ (k : ℕ). k ≤ c.args.from) c.newest-stamp.ensures c.if-stamp-from.false) in
    would-pack c.args.book.now c.args.row c.args.from c.newest-stamp.result c.newest-stamp.ensures (length c.bundles.result.now) (length c.args.packed.now) c.args.packed.now
    c.if-stamp-from.false packed (sym (length-map c.bundles.result.now kept_of) ∙ ap length c.bundles.ensures) refl
