use Rattle.std.proofs.Common.{ap, sym, ◌∙◌, Some, List, ℕ, nat_eq}
use Rattle.std.specs.Cmp.Lexicographic.{nat_list_cmp_total, pointwise}
use Rattle.std.specs.FinMap.{get-from_entries}
use Rattle.psi_outside.proofs.Finding.{find_hit, find_miss}
use Rattle.psi_outside.proofs.memory_files.find_file.Goals as goal

pub loop-file-init : goal.loop-file-init
loop-file-init c = get-from_entries nat_list_cmp_total _ _

pub returns-then-eq : goal.returns-then-eq
returns-then-eq c =
    ap Some c.deref.ensures.value
    ∙ sym (c.loop-file.invariant
    ∙ find_hit c.args.files.now c.loop-file.file-index c.file-item.result c.args.name.now c.loop-file-test.true c.file-item.is
    (ap (λ (text : List ℕ). pointwise nat_eq c.args.name.now text) (sym c.as_str.ensures.value) ∙ sym c.eq.ensures ∙ c.if-eq.true))

pub loop-file-preserved : goal.loop-file-preserved
loop-file-preserved c =
    c.loop-file.invariant
    ∙ find_miss c.args.files.now c.loop-file.file-index c.file-item.result c.args.name.now c.loop-file-test.true c.file-item.is
    (ap (λ (text : List ℕ). pointwise nat_eq c.args.name.now text) (sym c.as_str.ensures.value) ∙ sym c.eq.ensures ∙ c.if-eq.false)
