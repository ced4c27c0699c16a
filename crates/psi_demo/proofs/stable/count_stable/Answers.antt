use Rattle.std.proofs.Common.{ℕ, ◌+◌, cond, ap, arith, ◌≡◌, ◌∙◌, count_by, sym}
use Rattle.std.specs.List.{list_any, range_with_len}
use Rattle.psi_demo.specs.Summaries.{is_own, stable_found}
use Rattle.psi_demo.proofs.Made.{counted-more}
use Rattle.psi_demo.proofs.stable.count_stable.Goals.{then-is_found, else-is_found}
use Rattle.psi_demo.proofs.stable.count_stable.Goals as goal

pub loop-k-preserved : goal.loop-k-preserved
loop-k-preserved c =
    let own = λ (k : ℕ). list_any (is_own c.args.number k) c.args.found.now in
    elim c.if-is_found.branch [
      | then-is_found w ↦ record {
        counted = counted-more own c.loop-k.k c.loop-k.count c.if-is_found.count c.is_found.result c.is_found.ensures c.loop-k.invariant.counted (w.count-is ∙ ap (λ b. c.loop-k.count + cond b 1 0) (sym w.if-is_found.true));
        few = let few = c.loop-k.invariant.few in omega (arith, few, w.count-is);
      }
      | else-is_found w ↦ record {
        counted = counted-more own c.loop-k.k c.loop-k.count c.if-is_found.count c.is_found.result c.is_found.ensures c.loop-k.invariant.counted (w.count-is ∙ omega arith ∙ ap (λ b. c.loop-k.count + cond b 1 0) (sym w.if-is_found.false));
        few = let few = c.loop-k.invariant.few in omega (arith, few, w.count-is);
      }
    ]

pub returns : goal.returns
unfolding stable_found
returns c =
    let all : c.loop-k.k ≡ 38 = omega (arith, c.loop-k-test.false, c.loop-k.auto.k-end) in
    c.loop-k.invariant.counted ∙ ap (λ (n : ℕ). count_by (λ k. list_any (is_own c.args.number k) c.args.found.now) (range_with_len 0 n)) all
