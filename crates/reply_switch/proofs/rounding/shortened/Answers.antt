use Rattle.std.proofs.Common.{ℕ, ◌/◌, ◌^◌, ap}
use Rattle.psi_residue.specs.ShortCiphertexts.{shortened}
use Rattle.reply_switch.proofs.rounding.shortened.Goals as goal

pub returns : goal.returns
unfolding shortened
returns c = ap (λ (u : ℕ). u / 2 ^ c.args.drop) c.rounded.ensures
