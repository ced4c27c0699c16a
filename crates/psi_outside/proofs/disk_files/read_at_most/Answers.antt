use Rattle.std.proofs.Common.{IfSome, ◌≡◌, ◌++◌, take, subst, sym}
use Rattle.std.specs.Prelude.{option_map}
use Rattle.psi_outside.proofs.Limits.{judged_told, told_whole}
use Rattle.psi_outside.proofs.disk_files.read_at_most.Goals as goal

pub returns-clause-bytes : goal.returns-clause-bytes
returns-clause-bytes g c =
    let bytes = c.read_to_end-read.new.buf.items in
    judged_told c.read_to_end-read.result c.judge.result _ _ _ c.read_to_end-read.ensures.bytes c.judge.ensures.whole c.judge.ensures.failed
    (λ told v whole.
    let given : IfSome (option_map (take c.take.result.limit) (g.R.Read.remaining c.args.reader)) (λ left. bytes ≡ c.new-bytes.result.items ++ left)
    = subst (λ reader. IfSome (option_map (take c.take.result.limit) (g.R.Read.remaining reader)) (λ left. bytes ≡ c.new-bytes.result.items ++ left))
    c.take.ensures.inner told in
    subst (λ all. IfSome (g.R.Read.remaining c.args.reader) (λ left. left ≡ all.items)) (sym whole.0)
    (told_whole _ _ bytes _ c.args.max c.take.ensures.limit c.new-bytes.ensures.items given whole.1))
